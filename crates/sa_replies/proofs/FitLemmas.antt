-- What is selected fits its fields, where all that is visible does.
use Rattle.std.proofs.Common.{ℕ, zero, suc, Bool, List, [], ◌∷◌, ◌++◌, Option, Some, None, map, take, filter}
use Rattle.std.specs.List.{AllByRecursion, flat_map}
use Rattle.step_results.proofs.ElementLemmas.{each_joined}
use Rattle.sa_records.specs.McMemberRecord.{mc_member_record_selected}
use Rattle.sa_records.specs.NodeRecord.{node_record_selected}
use Rattle.sa_records.specs.PathRecord.{path_record_selected}
use Rattle.sa_records.specs.ServiceRecord.{service_record_selected}
use Rattle.subnet_model.specs.declared.subnet_port.SubnetPort.{SubnetPort}
use Rattle.sa_model.proofs.SourceLemmas.{all_filtered, all_mapped}
use Rattle.sa_model.specs.Selected.{Query, at_most, few_paths, paths_selected, selected}
use Rattle.sa_model.specs.Shown.{Entry, group_entry, group_record_of, node_entry, node_record_of, path_entry, path_record_of, service_entry, service_record_of}
use Rattle.sa_model.specs.Visible.{SaState, paths_to, visible_groups, visible_nodes, visible_services}
use Rattle.sa_replies.specs.NamedNotes.{AreFit, IsFit, VisibleFits}

-- ---- of each element of a part
each_unmapped : {X Y : Type 0} (P : Y → Type 0) (f : X → Y) (xs : List X) → AllByRecursion P (map f xs) → AllByRecursion (λ x. P (f x)) xs
each_unmapped P f [] all = tt
each_unmapped P f (x ∷ xs) all = (all.0, each_unmapped P f xs all.1)

each_first : {X : Type 0} (P : X → Type 0) (xs ys : List X) → AllByRecursion P (xs ++ ys) → AllByRecursion P xs
each_first P [] ys all = tt
each_first P (x ∷ xs) ys all = (all.0, each_first P xs ys all.1)

each_later : {X : Type 0} (P : X → Type 0) (xs ys : List X) → AllByRecursion P (xs ++ ys) → AllByRecursion P ys
each_later P [] ys all = all
each_later P (x ∷ xs) ys all = each_later P xs ys all.1

each_taken : {X : Type 0} (P : X → Type 0) (n : ℕ) (xs : List X) → AllByRecursion P xs → AllByRecursion P (take n xs)
each_taken P zero xs all = tt
each_taken P (suc n) [] all = tt
each_taken P (suc n) (x ∷ xs) all = (all.0, each_taken P n xs all.1)

each_at_most : {X : Type 0} (P : X → Type 0) (most : Option ℕ) (xs : List X) → AllByRecursion P xs → AllByRecursion P (at_most most xs)
each_at_most P None xs all = all
each_at_most P (Some most) xs all = each_taken P most xs all

each_fewer : {X Y : Type 0} (P : Y → Type 0) (f g : X → List Y) → ((x : X) → AllByRecursion P (f x) → AllByRecursion P (g x)) → (xs : List X)
    → AllByRecursion P (flat_map f xs) → AllByRecursion P (flat_map g xs)
each_fewer P f g less [] all = tt
each_fewer P f g less (x ∷ xs) all =
    each_joined P (g x) (flat_map g xs) (less x (each_first P (f x) (flat_map f xs) all))
    (each_fewer P f g less xs (each_later P (f x) (flat_map f xs) all))

-- ---- what is selected is a part of what is visible
abbrev Fit : Entry → Type 0
Fit entry = IsFit entry.shown

each_kept : {X : Type 0} (shown : X → Entry) (keep : X → Bool) (xs : List X) → AreFit (map shown xs) → AreFit (map shown (filter keep xs))
each_kept shown keep xs fit =
    all_mapped Fit shown (filter keep xs) (all_filtered (λ x. Fit (shown x)) keep xs (each_unmapped Fit shown xs fit))

pub selected_fit : (most : Option ℕ) (ports : List SubnetPort) (own : SubnetPort) (state : SaState) (query : Query) → VisibleFits ports own state
    → AreFit (selected most ports own state query)
selected_fit most ports own state (Query.for_nodes mask asked) visible =
    each_kept node_entry (λ node. node_record_selected mask (node_record_of node) asked) (visible_nodes ports own) visible.nodes
selected_fit most ports own state (Query.for_paths mask asked) visible =
    all_mapped Fit path_entry (flat_map (few_paths most mask asked own) ports)
    (each_fewer (λ path. Fit (path_entry path)) (paths_to own) (few_paths most mask asked own)
    (λ other fit. each_at_most (λ path. Fit (path_entry path)) most (paths_selected mask asked (paths_to own other))
    (all_filtered (λ path. Fit (path_entry path)) (λ path. path_record_selected mask (path_record_of path) asked) (paths_to own other) fit))
    ports (each_unmapped Fit path_entry (flat_map (paths_to own) ports) visible.paths))
selected_fit most ports own state (Query.for_groups mask asked) visible =
    each_kept group_entry (λ one. mc_member_record_selected mask (group_record_of one) asked) (visible_groups own state.partitions) visible.groups
selected_fit most ports own state (Query.for_services mask asked) visible =
    each_kept service_entry (λ one. service_record_selected mask (service_record_of one) asked) (visible_services ports own state.services) visible.services
