-- What is shown of groups is what is seen of them: their members are not shown.
use Rattle.std.proofs.Common.{ℕ, Bool, List, [], ◌∷◌, ◌++◌, Some, filter, map}
use Rattle.std.proofs.Common.{◌≡◌, ◌∙◌, ap, refl, sym, inl, inr}
use Rattle.std.proofs.lemmas.List.{map-append}
use Rattle.std.proofs.lemmas.Bool.{cases_Bool}
use Rattle.subnet_model.specs.declared.subnet_port.SubnetPort.{SubnetPort}
use Rattle.subnet_model.specs.Delivery.{port_with_guid}
use Rattle.sa_model.specs.Members.{is_in, is_member}
use Rattle.sa_model.specs.Groups.{MulticastGroup, PartitionGroups}
use Rattle.sa_model.specs.Sight.{group_seen, partition_seen, seen}
use Rattle.sa_model.proofs.ChangeLemmas.{same_by}
use Rattle.sa_model.specs.Visible.{GroupOfBase, groups_of, visible_groups}
use Rattle.sa_model.specs.Shown.{group_entry}
use Rattle.sa_model.specs.QueryLaws.{GroupsAreShownAlike}
use Rattle.sa_model.proofs.NearLemmas.{member_if_in}

-- a group with what p sees of its members
abbrev pub trimmed : List SubnetPort → ℕ → GroupOfBase → GroupOfBase
trimmed ports p one = record { base = one.base; group = group_seen ports p one.group }

abbrev in_base : ℕ → MulticastGroup → GroupOfBase
in_base base group = record { base = base; group = group }

groups_trimmed : (ports : List SubnetPort) (p base : ℕ) (groups : List MulticastGroup)
    → map (in_base base) (map (group_seen ports p) groups) ≡ map (trimmed ports p) (map (in_base base) groups)
groups_trimmed ports p base [] = refl
groups_trimmed ports p base (group ∷ groups) =
    ap (λ rest. in_base base (group_seen ports p group) ∷ rest) (groups_trimmed ports p base groups)

pub visible_of_seen : (ports : List SubnetPort) (own : SubnetPort) → port_with_guid ports own.guid ≡ Some own → (partitions : List PartitionGroups)
    → visible_groups own (seen ports own.guid partitions) ≡ map (trimmed ports own.guid) (visible_groups own partitions)
visible_of_seen ports own found [] = refl
visible_of_seen ports own found (x ∷ xs) = elim (cases_Bool (is_in own x.base)) [
  | inl within ↦ rw (member_if_in ports own x.base found within, within)
      (ap (λ rest. groups_of (partition_seen ports own.guid x) ++ rest) (visible_of_seen ports own found xs)
      ∙ (ap (λ first. first ++ map (trimmed ports own.guid) (visible_groups own xs)) (groups_trimmed ports own.guid x.base x.groups)
      ∙ sym (map-append (trimmed ports own.guid) (groups_of x) (visible_groups own xs))))
  | inr out ↦ elim (cases_Bool (is_member ports x.base own.guid)) [
    | inl member ↦ rw (member, out) (visible_of_seen ports own found xs)
    | inr outside ↦ rw (outside, out) (visible_of_seen ports own found xs)
  ]
]

pub filter_alike : {X Y : Type 0} (show : X → Y) (keep : X → Bool) (f : X → X) → ((x : X) → show (f x) ≡ show x) → ((x : X) → keep (f x) ≡ keep x) → (xs : List X)
    → map show (filter keep (map f xs)) ≡ map show (filter keep xs)
filter_alike show keep f same kept [] = refl
filter_alike show keep f same kept (x ∷ xs) = elim (cases_Bool (keep x)) [
  | inl here ↦ rw (kept x, here, same x) (ap (λ rest. show x ∷ rest) (filter_alike show keep f same kept xs))
  | inr out ↦ rw (kept x, out) (filter_alike show keep f same kept xs)
]

-- ---- so what is shown is a function of what is seen
shown_of_seen : (ports : List SubnetPort) (own : SubnetPort) → port_with_guid ports own.guid ≡ Some own → (partitions : List PartitionGroups)
    → map group_entry (visible_groups own (seen ports own.guid partitions)) ≡ map group_entry (visible_groups own partitions)
shown_of_seen ports own found partitions =
    ap (map group_entry) (visible_of_seen ports own found partitions)
    ∙ same_by group_entry (trimmed ports own.guid) (λ one. refl) (visible_groups own partitions)

pub groups_alike : GroupsAreShownAlike
groups_alike ports own s t found same =
    sym (shown_of_seen ports own found s)
    ∙ (ap (λ partitions. map group_entry (visible_groups own partitions)) same ∙ shown_of_seen ports own found t)
