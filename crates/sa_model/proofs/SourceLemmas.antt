-- What is selected says what it comes from.
use Rattle.std.proofs.Common.{ℕ, Bool, true, ◌==◌, ◌&&◌, List, [], ◌∷◌, filter, map}
use Rattle.std.proofs.Common.{◌≡◌, refl, inl, inr}
use Rattle.std.specs.List.{AllByRecursion, flat_map, list_any}
use Rattle.std.proofs.lemmas.Bool.{and_from, cases_Bool, eq-eqb, or_left, or_right}
use Rattle.pkey_rules.specs.PKey.{key_of}
use Rattle.sa_records.specs.McMemberRecord.{mc_member_record_selected}
use Rattle.sa_records.specs.NodeRecord.{node_record_selected}
use Rattle.sa_records.specs.ServiceRecord.{service_record_selected}
use Rattle.sa_model.specs.Members.{is_in}
use Rattle.subnet_model.specs.declared.subnet_port.SubnetPort.{SubnetPort}
use Rattle.sa_model.specs.Groups.{Creator, MulticastGroup, PartitionGroups}
use Rattle.sa_model.specs.NamedSources.{ComesFrom, SelectedSayTheirSource, is_made_by, is_record_of, same_creator}
use Rattle.sa_model.specs.Selected.{Query, few_paths}
use Rattle.sa_model.specs.Shown.{Entry, group_entry, group_record_of, node_entry, node_record_of, path_entry, service_entry, service_record_of}
use Rattle.sa_model.specs.Visible.{GroupOfBase, Path, ServiceOfPort, groups_of, visible_groups, visible_nodes, visible_services}
use Rattle.step_results.proofs.ElementLemmas.{each_always, each_weaker, each_joined}

-- ---- of each element
pub all_mapped : {X Y : Type 0} (P : Y → Type 0) (f : X → Y) (xs : List X) → AllByRecursion (λ x. P (f x)) xs → AllByRecursion P (map f xs)
all_mapped P f [] all = tt
all_mapped P f (x ∷ xs) all = (all.0, all_mapped P f xs all.1)

pub all_filtered : {X : Type 0} (P : X → Type 0) (keep : X → Bool) (xs : List X) → AllByRecursion P xs → AllByRecursion P (filter keep xs)
all_filtered P keep [] all = tt
all_filtered P keep (x ∷ xs) all = elim (cases_Bool (keep x)) [
  | inl here ↦ rw here (all.0, all_filtered P keep xs all.1)
  | inr out ↦ rw out (all_filtered P keep xs all.1)
]

-- ---- a group that is shown is there
same_itself : (creator : Creator) → same_creator creator creator ≡ true
same_itself (Creator.Port guid) = eq-eqb guid guid refl
same_itself Creator.PartitionFile = refl

abbrev made_in : ℕ → List MulticastGroup → MulticastGroup → Bool
made_in base groups one =
    list_any (λ group. is_record_of (group_record_of (record { base = base; group = one })) base group && same_creator group.creator one.creator) groups

made_itself : (base : ℕ) (one : MulticastGroup)
    → (is_record_of (group_record_of (record { base = base; group = one })) base one && same_creator one.creator one.creator) ≡ true
made_itself base one =
    and_from ((key_of base true == key_of base true) && ((one.mgid == one.mgid) && (one.mlid == one.mlid))) (same_creator one.creator one.creator)
    (and_from (key_of base true == key_of base true) ((one.mgid == one.mgid) && (one.mlid == one.mlid)) (eq-eqb (key_of base true) (key_of base true) refl)
    (and_from (one.mgid == one.mgid) (one.mlid == one.mlid) (eq-eqb one.mgid one.mgid refl) (eq-eqb one.mlid one.mlid refl)))
    (same_itself one.creator)

each_made : (base : ℕ) (groups : List MulticastGroup) → AllByRecursion (λ one. made_in base groups one ≡ true) groups
each_made base [] = tt
each_made base (group ∷ groups) = (
  or_left _ _ (made_itself base group),
  each_weaker (λ one. made_in base groups one ≡ true) (λ one. made_in base (group ∷ groups) one ≡ true) (λ one is. or_right _ (made_in base groups one) is) groups (each_made base groups),
)

abbrev IsMade : List PartitionGroups → GroupOfBase → Type 0
IsMade partitions one = is_made_by partitions (group_record_of one) one.group.creator ≡ true

groups_made : (own : SubnetPort) (partitions : List PartitionGroups) → AllByRecursion (IsMade partitions) (visible_groups own partitions)
groups_made own [] = tt
groups_made own (x ∷ xs) =
    let rest = each_weaker (IsMade xs) (IsMade (x ∷ xs)) (λ one is. or_right _ (is_made_by xs (group_record_of one) one.group.creator) is) (visible_groups own xs) (groups_made own xs) in
    elim (cases_Bool (is_in own x.base)) [
      | inl shown ↦ rw shown (each_joined (IsMade (x ∷ xs)) (groups_of x) (visible_groups own xs)
          (all_mapped (IsMade (x ∷ xs)) (λ group. record { base = x.base; group = group }) x.groups
          (each_weaker (λ one. made_in x.base x.groups one ≡ true) (λ one. IsMade (x ∷ xs) (record { base = x.base; group = one }))
          (λ one is. or_left (made_in x.base x.groups one) (is_made_by xs (group_record_of (record { base = x.base; group = one })) one.creator) is) x.groups (each_made x.base x.groups)))
          rest)
      | inr hidden ↦ rw hidden rest
    ]

-- ---- the law
pub selected_say_their_source : SelectedSayTheirSource
selected_say_their_source most ports own state (Query.for_nodes mask asked) =
    all_mapped (λ (entry : Entry). ComesFrom state entry.shown entry.source) node_entry (filter (λ node. node_record_selected mask (node_record_of node) asked) (visible_nodes ports own))
    (each_always (λ node. ComesFrom state (node_entry node).shown (node_entry node).source) (λ node. refl) _)
selected_say_their_source most ports own state (Query.for_paths mask asked) =
    all_mapped (λ (entry : Entry). ComesFrom state entry.shown entry.source) path_entry (flat_map (few_paths most mask asked own) ports)
    (each_always (λ (path : Path). ComesFrom state (path_entry path).shown (path_entry path).source) (λ path. (path.destination.guid, refl, refl)) _)
selected_say_their_source most ports own state (Query.for_groups mask asked) =
    all_mapped (λ (entry : Entry). ComesFrom state entry.shown entry.source) group_entry
    (filter (λ one. mc_member_record_selected mask (group_record_of one) asked) (visible_groups own state.partitions))
    (all_filtered (IsMade state.partitions) (λ one. mc_member_record_selected mask (group_record_of one) asked) (visible_groups own state.partitions)
    (groups_made own state.partitions))
selected_say_their_source most ports own state (Query.for_services mask asked) =
    all_mapped (λ (entry : Entry). ComesFrom state entry.shown entry.source) service_entry
    (filter (λ one. service_record_selected mask (service_record_of one) asked) (visible_services ports own state.services))
    (each_always (λ (one : ServiceOfPort). ComesFrom state (service_entry one).shown (service_entry one).source) (λ one. (one.port, refl, refl)) _)
