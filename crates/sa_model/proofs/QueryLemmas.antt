-- How requests end: by what their port sees, and by records that come from near it.
use Rattle.std.proofs.Common.{ℕ, zero, suc, Bool, true, List, [], ◌∷◌, Option, Some, None, Result, Ok, filter, map, take}
use Rattle.std.proofs.Common.{◌≡◌, ◌∙◌, ap, refl, sym, inl, inr}
use Rattle.std.specs.List.{list_all, flat_map}
use Rattle.std.specs.Result.{IfOk}
use Rattle.std.proofs.lemmas.Bool.{cases_Bool, and_from, and_parts}
use Rattle.std.proofs.lemmas.List.Elements.{All-weaker}
use Rattle.std.proofs.lemmas.List.Folds.{list_all-map}
use Rattle.mad_layout.specs.declared.status.MadStatus.{MadStatus}
use Rattle.sa_records.specs.declared.path_record.PathRecord.{PathRecord}
use Rattle.sa_records.specs.declared.mc_member_record.McMemberRecord.{McMemberRecord}
use Rattle.sa_records.specs.NodeRecord.{node_record_selected}
use Rattle.sa_records.specs.PathRecord.{path_record_selected}
use Rattle.sa_records.specs.McMemberRecord.{mc_member_record_selected}
use Rattle.sa_records.specs.ServiceRecord.{service_record_selected}
use Rattle.subnet_model.specs.declared.subnet_port.SubnetPort.{SubnetPort}
use Rattle.subnet_model.specs.Delivery.{port_with_guid}
use Rattle.subnet_model.specs.Near.{is_near}
use Rattle.sa_model.specs.Groups.{PartitionGroups}
use Rattle.sa_model.specs.Sound.{is_sound}
use Rattle.sa_model.specs.Sight.{seen}
use Rattle.sa_model.proofs.ChangeLemmas.{every_run_is_seen_alike}
use Rattle.sa_model.specs.Services.{no_services}
use Rattle.sa_model.specs.ServiceChange.{services_after, service_changes_near}
use Rattle.sa_model.specs.ServiceSight.{services_seen}
use Rattle.sa_model.proofs.ServiceLemmas.{services_depend, shown_of_near}
use Rattle.sa_model.specs.Visible.{SaState, paths_to, visible_nodes, visible_groups, services_of, visible_services}
use Rattle.sa_model.specs.Shown.{node_record_of, group_record_of, service_record_of, path_record_of}
use Rattle.sa_model.specs.Shown.{node_entry, path_entry, group_entry, service_entry}
use Rattle.sa_model.specs.Selected.{Query, at_most, paths_selected, few_paths, groups_selected, services_selected, paths_wanted, selected}
use Rattle.sa_model.specs.Refusals.{refusal}
use Rattle.sa_model.specs.Outcome.{unless_status, the_only_one}
use Rattle.sa_model.specs.QueryLaws.{ServicesAreShownAlike, SelectedAlike, QueriesEndAlike, QueriesDependOnNear, state_after, state_near}
use Rattle.sa_model.specs.QueryLaws.{is_source_near, come_from_near, AnswersComeFromNear}
use Rattle.sa_model.proofs.NearLemmas.{each_leads_near, all_flat, visible_from_near}
use Rattle.sa_model.proofs.VisibleLemmas.{trimmed, visible_of_seen, filter_alike}

-- ---- what is selected is a function of what is seen
groups_of_seen : (ports : List SubnetPort) (own : SubnetPort) (mask : ℕ) (asked : McMemberRecord) → port_with_guid ports own.guid ≡ Some own
    → (partitions : List PartitionGroups) → map group_entry (groups_selected mask asked (visible_groups own (seen ports own.guid partitions)))
    ≡ map group_entry (groups_selected mask asked (visible_groups own partitions))
groups_of_seen ports own mask asked found partitions =
    ap (λ groups. map group_entry (groups_selected mask asked groups)) (visible_of_seen ports own found partitions)
    ∙ filter_alike group_entry (λ one. mc_member_record_selected mask (group_record_of one) asked) (trimmed ports own.guid) (λ one. refl) (λ one. refl)
    (visible_groups own partitions)

pub services_shown_alike : ServicesAreShownAlike
services_shown_alike ports own s t found same = ap (λ places. map service_entry (flat_map services_of places)) same

pub selected_alike : SelectedAlike
selected_alike most ports own s t (Query.for_nodes mask asked) found same = refl
selected_alike most ports own s t (Query.for_paths mask asked) found same = refl
selected_alike most ports own s t (Query.for_groups mask asked) found same =
    sym (groups_of_seen ports own mask asked found s.partitions)
    ∙ (ap (λ partitions. map group_entry (groups_selected mask asked (visible_groups own partitions))) same.groups
    ∙ groups_of_seen ports own mask asked found t.partitions)
selected_alike most ports own s t (Query.for_services mask asked) found same =
    ap (λ places. map service_entry (services_selected mask asked (flat_map services_of places))) same.services

pub queries_end_alike : QueriesEndAlike
queries_end_alike ports own s t query found same = record {
  got = ap (λ entries. unless_status (refusal own query) (the_only_one entries)) (selected_alike (Some 1) ports own s t query found same);
  table = ap (λ entries. unless_status (refusal own query) (Ok entries)) (selected_alike (paths_wanted query) ports own s t query found same);
}

pub queries_depend : QueriesDependOnNear
queries_depend configuration own changes service_changes query found =
    queries_end_alike configuration.ports own (state_after configuration changes service_changes) (state_near configuration own.guid changes service_changes) query found
    (record {
      groups = (every_run_is_seen_alike configuration own.guid changes).same;
      services = sym (shown_of_near configuration.ports own.guid (services_after (no_services configuration.ports) service_changes))
          ∙ (ap (services_seen configuration.ports own.guid) (services_depend configuration.ports own.guid (no_services configuration.ports) service_changes)
          ∙ shown_of_near configuration.ports own.guid
          (services_after (no_services configuration.ports) (service_changes_near configuration.ports own.guid service_changes)));
    })

-- ---- where what is selected comes from
all_selected : {X Y : Type 0} (keep : X → Bool) (f : X → Y) (q : Y → Bool) (xs : List X) → list_all q (map f xs) ≡ true → list_all q (map f (filter keep xs)) ≡ true
all_selected keep f q [] all = refl
all_selected keep f q (x ∷ xs) all =
    let parts = and_parts (q (f x)) (list_all q (map f xs)) all in
    elim (cases_Bool (keep x)) [
      | inl here ↦ rw here (and_from (q (f x)) (list_all q (map f (filter keep xs))) parts.0 (all_selected keep f q xs parts.1))
      | inr out ↦ rw out (all_selected keep f q xs parts.1)
    ]

all_of_filter : {X : Type 0} (keep q : X → Bool) (xs : List X) → list_all q xs ≡ true → list_all q (filter keep xs) ≡ true
all_of_filter keep q [] all = refl
all_of_filter keep q (x ∷ xs) all =
    let parts = and_parts (q x) (list_all q xs) all in
    elim (cases_Bool (keep x)) [
      | inl here ↦ rw here (and_from (q x) (list_all q (filter keep xs)) parts.0 (all_of_filter keep q xs parts.1))
      | inr out ↦ rw out (all_of_filter keep q xs parts.1)
    ]

all_taken : {X : Type 0} (q : X → Bool) (n : ℕ) (xs : List X) → list_all q xs ≡ true → list_all q (take n xs) ≡ true
all_taken q zero xs all = refl
all_taken q (suc n) [] all = refl
all_taken q (suc n) (x ∷ xs) all =
    let parts = and_parts (q x) (list_all q xs) all in and_from (q x) (list_all q (take n xs)) parts.0 (all_taken q n xs parts.1)

all_at_most : {X : Type 0} (q : X → Bool) (most : Option ℕ) (xs : List X) → list_all q xs ≡ true → list_all q (at_most most xs) ≡ true
all_at_most q None xs all = all
all_at_most q (Some most) xs all = all_taken q most xs all

few_paths_near : (ports : List SubnetPort) (own : SubnetPort) (most : Option ℕ) (mask : ℕ) (asked : PathRecord) → port_with_guid ports own.guid ≡ Some own
    → come_from_near ports own.guid (map path_entry (flat_map (few_paths most mask asked own) ports)) ≡ true
few_paths_near ports own most mask asked found =
    list_all-map (λ entry. is_source_near ports own.guid entry.source) path_entry (flat_map (few_paths most mask asked own) ports)
    ∙ all_flat (λ path. is_near ports own.guid path.destination.guid) (few_paths most mask asked own) ports
    (All-weaker (λ other. list_all (λ path. is_near ports own.guid path.destination.guid) (paths_to own other) ≡ true)
    (λ other. list_all (λ path. is_near ports own.guid path.destination.guid) (few_paths most mask asked own other) ≡ true)
    (λ other all. all_at_most (λ path. is_near ports own.guid path.destination.guid) most (paths_selected mask asked (paths_to own other))
    (all_of_filter (λ path. path_record_selected mask (path_record_of path) asked) (λ path. is_near ports own.guid path.destination.guid) (paths_to own other) all))
    ports (each_leads_near ports own found))

selected_from_near : (most : Option ℕ) (ports : List SubnetPort) (own : SubnetPort) (state : SaState) (query : Query) → port_with_guid ports own.guid ≡ Some own
    → is_sound ports state.partitions ≡ true → come_from_near ports own.guid (selected most ports own state query) ≡ true
selected_from_near most ports own state (Query.for_nodes mask asked) found sound =
    all_selected (λ node. node_record_selected mask (node_record_of node) asked) node_entry (λ entry. is_source_near ports own.guid entry.source)
    (visible_nodes ports own) (visible_from_near ports own state found sound).nodes
selected_from_near most ports own state (Query.for_paths mask asked) found sound = few_paths_near ports own most mask asked found
selected_from_near most ports own state (Query.for_groups mask asked) found sound =
    all_selected (λ one. mc_member_record_selected mask (group_record_of one) asked) group_entry (λ entry. is_source_near ports own.guid entry.source)
    (visible_groups own state.partitions) (visible_from_near ports own state found sound).groups
selected_from_near most ports own state (Query.for_services mask asked) found sound =
    all_selected (λ one. service_record_selected mask (service_record_of one) asked) service_entry (λ entry. is_source_near ports own.guid entry.source)
    (visible_services ports own state.services) (visible_from_near ports own state found sound).services

if_not_refused : {X : Type 0} (P : X → Type 0) (refused : Option MadStatus) (outcome : Result X MadStatus) → IfOk outcome P → IfOk (unless_status refused outcome) P
if_not_refused P None outcome holds = holds
if_not_refused P (Some status) outcome holds = tt

only_one_passes : {X : Type 0} (p : X → Bool) (xs : List X) → list_all p xs ≡ true → IfOk (the_only_one xs) (λ x. p x ≡ true)
only_one_passes p [] all = tt
only_one_passes p (x ∷ []) all = (and_parts (p x) true all).0
only_one_passes p (x ∷ y ∷ rest) all = tt

pub answers_from_near : AnswersComeFromNear
answers_from_near ports own state query found sound = record {
  got = if_not_refused (λ entry. is_source_near ports own.guid entry.source ≡ true) (refusal own query) (the_only_one (selected (Some 1) ports own state query))
      (only_one_passes (λ entry. is_source_near ports own.guid entry.source) (selected (Some 1) ports own state query)
      (selected_from_near (Some 1) ports own state query found sound));
  table = if_not_refused (λ entries. come_from_near ports own.guid entries ≡ true) (refusal own query) (Ok (selected (paths_wanted query) ports own state query))
      (selected_from_near (paths_wanted query) ports own state query found sound);
}
