-- What is remembered of groups and services stays that of the configuration, and fits its records.
use Rattle.std.proofs.Common.{◌≡◌, ℕ, ◌+◌, ◌/◌, ◌%◌, ◌^◌, ◌<◌, Bool, true, false, not, ◌==◌, ◌&&◌, ◌||◌, nat_lt, nat_le, if◌then◌else◌}
use Rattle.std.proofs.Common.{List, [], ◌∷◌, length, map, filter, find, replicate, slice_range, take, drop, Option, Some, None, refl, ◌∙◌, inl, inr, arith}
use Rattle.std.specs.List.{list_all, list_any}
use Rattle.std.proofs.lemmas.Bool.{and_from, and_parts, cases_Bool, eq-eqb, eqb-true, leb-true, lt-ltb}
use Rattle.std.proofs.lemmas.List.{length-drop, length-replicate, length-take}
use Rattle.mad_layout.specs.Bits.{field}
use Rattle.mad_layout.proofs.LayoutLemmas.{field_narrow, length-put_all}
use Rattle.mad_layout.specs.Layout.{at}
use Rattle.pkey_rules.specs.PKey.{base_of}
use Rattle.step_results.proofs.ListLemmas.{all_joined}
use Rattle.partition_file.specs.declared.broadcast_group.BroadcastGroup.{BroadcastGroup}
use Rattle.partition_file.specs.declared.heading.Heading.{Heading}
use Rattle.partition_file.specs.Sound.{has_fit_group}
use Rattle.sa_records.specs.Component.{satisfies}
use Rattle.sa_records.specs.Speed.{rate_satisfies}
use Rattle.sa_records.specs.McMemberMask as member_mask
use Rattle.sa_records.specs.McMemberRecord.{group_in}
use Rattle.sa_records.specs.ServiceMask as service_mask
use Rattle.sa_records.specs.ServiceRecord.{service_data_asked, service_in}
use Rattle.subnet_model.specs.Configuration.{ConfigurationState}
use Rattle.subnet_model.specs.Configured.{IsConfigured}
use Rattle.subnet_model.specs.declared.subnet_port.SubnetPort.{SubnetPort}
use Rattle.sa_model.specs.Anchor.{free_mlid, is_kept}
use Rattle.sa_model.specs.Changes.{Change}
use Rattle.sa_model.specs.Groups.{MulticastGroup, PartitionGroups, file_groups, start_from, start_of}
use Rattle.sa_model.specs.Joining.{Join, has_mgid, joined, joined_group, joined_groups, joined_in, may_create, may_join, new_group, with_created}
use Rattle.sa_model.specs.Leaving.{Leave, left, left_group, left_in}
use Rattle.sa_model.proofs.ChangeLemmas.{partitions_stay}
use Rattle.sa_model.proofs.JoinSoundLemmas.{all_with_group, joined_sound}
use Rattle.sa_model.proofs.LeaveSoundLemmas.{left_sound}
use Rattle.sa_model.proofs.ListLemmas.{all_filter, all_map}
use Rattle.sa_model.proofs.SoundLemmas as groups
use Rattle.sa_model.specs.ServiceChange.{Deed, ServiceChange, after_deed, changed_in, has_id, has_room, is_place, lower_id, services_changed}
use Rattle.sa_model.specs.Services.{PortServices, Service, no_services, none_of_port}
use Rattle.sa_model.specs.KeyOrder.{by_base}
use Rattle.sa_model.proofs.ServiceLemmas.{places_stay}
use Rattle.sa_model.proofs.ServiceSoundLemmas as services
use Rattle.sa_model.specs.Selected.{asks}
use Rattle.sa_model.specs.Visible.{SaState}
use Rattle.sa_replies.specs.Request.{request_in}
use Rattle.sa_replies.specs.Joins.{life_taken, mtu_taken, or_zero, parameters_asked, rate_taken}
use Rattle.sa_replies.specs.ServiceRequests.{service_asked}
use Rattle.sa_records.specs.ServiceRecord.{numbers_asked}
use Rattle.sa_replies.specs.Answer.{Administration, answer}
use Rattle.sa_replies.specs.State.{IsRememberedOf, are_fit_groups, are_fit_services, is_fit_group, is_fit_service}
use Rattle.sa_replies.proofs.AnswerLemmas.{AsksFor, KeptBy, answer_leaves_by}

-- ---- groups
abbrev FitJoin : Join → Type 0
FitJoin join = is_fit_group join.parameters ≡ true

joined_fit : (join : Join) (group : MulticastGroup) → is_fit_group group.parameters ≡ true → is_fit_group (joined_group join group).parameters ≡ true
joined_fit join group fit = elim (cases_Bool (has_mgid join.mgid group)) [
  | inl this ↦ rw this fit
  | inr other ↦ rw other fit
]

created_fit : (join : Join) (mlid : Option ℕ) (groups : List MulticastGroup) → FitJoin join → list_all (λ group. is_fit_group group.parameters) groups ≡ true
    → list_all (λ group. is_fit_group group.parameters) (with_created join mlid groups) ≡ true
created_fit join None groups fit all = all
created_fit join (Some mlid) groups fit all = all_with_group (λ group. is_fit_group group.parameters) (new_group join mlid) groups fit all

joined_groups_fit : (ports : List SubnetPort) (join : Join) (partition : PartitionGroups) → FitJoin join → are_fit_groups partition ≡ true
    → list_all (λ group. is_fit_group group.parameters) (joined_groups ports join partition) ≡ true
joined_groups_fit ports join partition fit all = elim (cases_Bool (list_any (has_mgid join.mgid) partition.groups)) [
  | inl there ↦
      rw there
      (all_map (λ group. is_fit_group group.parameters) (λ group. is_fit_group group.parameters) (joined_group join) (joined_fit join) partition.groups all)
  | inr new ↦ elim (cases_Bool (may_create ports join)) [
    | inl may ↦ rw (new, may) (created_fit join (free_mlid partition) partition.groups fit all)
    | inr may_not ↦ rw (new, may_not) all
  ]
]

pub joins_fit : (ports : List SubnetPort) (join : Join) (partitions : List PartitionGroups) → FitJoin join → list_all are_fit_groups partitions ≡ true
    → list_all are_fit_groups (joined ports join partitions) ≡ true
joins_fit ports join partitions fit all = all_map are_fit_groups are_fit_groups (joined_in ports join) one partitions all
  where
    one : (partition : PartitionGroups) → are_fit_groups partition ≡ true → are_fit_groups (joined_in ports join partition) ≡ true
    one partition fits_here = elim (cases_Bool ((partition.base == join.base) && may_join ports join)) [
      | inl here ↦ rw here (joined_groups_fit ports join partition fit fits_here)
      | inr other ↦ rw other fits_here
    ]

leaves_fit : (ports : List SubnetPort) (leave : Leave) (partitions : List PartitionGroups) → list_all are_fit_groups partitions ≡ true
    → list_all are_fit_groups (left ports leave partitions) ≡ true
leaves_fit ports leave partitions all = all_map are_fit_groups are_fit_groups (left_in ports leave) one partitions all
  where
    one : (partition : PartitionGroups) → are_fit_groups partition ≡ true → are_fit_groups (left_in ports leave partition) ≡ true
    one partition fits_here =
        all_filter (λ group. is_fit_group group.parameters) (is_kept ports partition.base) (λ group. is_fit_group group.parameters) (λ group fit kept. fit)
        (map (left_group leave partition.base) partition.groups)
        (all_map (λ group. is_fit_group group.parameters) (λ group. is_fit_group group.parameters) (left_group leave partition.base)
        (λ group fit. fit) partition.groups fits_here)

-- what the partition file asks for
file_fit : (number base : ℕ) (group : Option BroadcastGroup) → has_fit_group group ≡ true
    → list_all (λ group. is_fit_group group.parameters) (file_groups number base group) ≡ true
file_fit number base None fit = refl
file_fit number base (Some group) fit =
    let rate = and_parts (nat_le group.rate 5) _ fit in
    let mtu = and_parts (nat_le group.mtu 4) _ rate.1 in
    let level = and_parts (nat_le group.service_level 15) _ mtu.1 in
    let a : nat_lt group.mtu 64 ≡ true = small group.mtu 4 64 mtu.0 (omega arith) in
    let b : nat_lt group.rate 64 ≡ true = small group.rate 5 64 rate.0 (omega arith) in
    let c : nat_lt group.service_level 16 ≡ true = small group.service_level 15 16 level.0 (omega arith) in
    let d : nat_lt group.scope 16 ≡ true = small group.scope 15 16 level.1 (omega arith) in
    rw (a, b, c, d) refl
  where
    small : (n most limit : ℕ) → nat_le n most ≡ true → most < limit → nat_lt n limit ≡ true
    small n most limit within low = let le = leb-true n most within in lt-ltb n limit (omega (arith, le, low))

start_from_fit : (number : ℕ) (headings : List Heading) → list_all (λ heading. has_fit_group heading.group) headings ≡ true
    → list_all are_fit_groups (start_from number headings) ≡ true
start_from_fit number [] fit = refl
start_from_fit number (heading ∷ headings) fit =
    let parts = and_parts (has_fit_group heading.group) _ fit in
    and_from (are_fit_groups (record { number = number; base = heading.base; groups = file_groups number heading.base heading.group })) _
    (file_fit number heading.base heading.group parts.0) (start_from_fit (number + 1) headings parts.1)

-- ---- what a request asks for
below : (bytes : List ℕ) (off len : ℕ) → nat_lt (field bytes off len) (2 ^ len) ≡ true
below bytes off len = lt-ltb (field bytes off len) (2 ^ len) (field_narrow bytes off len)

taken_small : (test : ℕ → Bool) (codes : List ℕ) → list_all (λ code. nat_lt code 64) codes ≡ true → nat_lt (or_zero (find test codes)) 64 ≡ true
taken_small test [] small = refl
taken_small test (code ∷ codes) small =
    let parts = and_parts (nat_lt code 64) _ small in
    elim (cases_Bool (test code)) [
      | inl this ↦ rw this parts.0
      | inr other ↦ rw other (taken_small test codes parts.1)
    ]

scope_small : (test : Bool) (asked own : ℕ) → nat_lt asked 16 ≡ true → nat_lt (if test then asked else own % 16) 16 ≡ true
scope_small true asked own small = small
scope_small false asked own small = lt-ltb (own % 16) 16 (omega arith)

pub parameters_fit : (mask : ℕ) (content : List ℕ) → is_fit_group (parameters_asked mask (group_in content)) ≡ true
unfolding group_in
parameters_fit mask content =
    let asked = group_in content in
    let mtu : nat_lt (or_zero (mtu_taken mask asked)) 64 ≡ true = taken_small (λ mtu. not (asks mask member_mask.mtu) || satisfies asked.mtu_selector mtu asked.mtu) (4 ∷ 3 ∷ 2 ∷ 1 ∷ []) refl in
    let rate : nat_lt (or_zero (rate_taken mask asked)) 64 ≡ true = taken_small (λ rate. not (asks mask member_mask.rate) || rate_satisfies asked.rate_selector rate asked.rate) (3 ∷ 5 ∷ 2 ∷ []) refl in
    let life : nat_lt (or_zero (life_taken mask asked)) 64 ≡ true =
    taken_small (λ life. not (asks mask member_mask.packet_life_time) || satisfies asked.packet_life_time_selector life asked.packet_life_time) (18 ∷ []) refl in
    let level : nat_lt (field content 352 4) 16 ≡ true = below content 352 4 in
    let flow : nat_lt (field content 356 20) (2 ^ 20) ≡ true = below content 356 20 in
    let scope = scope_small (asks mask member_mask.scope) (field content 384 4) (field content 0 128 / 2 ^ 112) (below content 384 4) in
    and_from _ _ mtu (and_from _ _ rate (and_from _ _ life (and_from _ _ level (and_from _ _ flow scope))))

-- ---- services
abbrev pub FitDeed : Deed → Type 0
FitDeed (Deed.sets service) = is_fit_service service ≡ true
FitDeed (Deed.deletes id) = Unit {0}

abbrev pub FitChange : ServiceChange → Type 0
FitChange change = FitDeed change.deed

some_fit : (test : Service → Bool) (some : List Service) → list_all is_fit_service some ≡ true → list_all is_fit_service (filter test some) ≡ true
some_fit test some all = all_filter is_fit_service test is_fit_service (λ service fit passes. fit) some all

deed_fits : (deed : Deed) (some : List Service) → FitDeed deed → list_all is_fit_service some ≡ true → list_all is_fit_service (after_deed deed some) ≡ true
deed_fits (Deed.sets new) some fit all = elim (cases_Bool (has_room new.service_id some)) [
  | inl room ↦
      rw room
      (all_joined is_fit_service (filter (λ service. lower_id service new) some) (new ∷ filter (λ service. lower_id new service) some)
      (some_fit (λ service. lower_id service new) some all)
      (and_from (is_fit_service new) _ fit (some_fit (λ service. lower_id new service) some all)))
  | inr full ↦ rw full all
]
deed_fits (Deed.deletes id) some fit all = some_fit (λ service. not (has_id id service)) some all

changes_fit : (change : ServiceChange) (places : List PortServices) → FitChange change → list_all are_fit_services places ≡ true
    → list_all are_fit_services (services_changed places change) ≡ true
changes_fit change places fit all = all_map are_fit_services are_fit_services (changed_in change) one places all
  where
    one : (place : PortServices) → are_fit_services place ≡ true → are_fit_services (changed_in change place) ≡ true
    one place fits_here = elim (cases_Bool (is_place change place)) [
      | inl this ↦ rw this (deed_fits change.deed place.services fit fits_here)
      | inr other ↦ rw other fits_here
    ]

no_services_fit : (ports : List SubnetPort) → list_all are_fit_services (no_services ports) ≡ true
no_services_fit [] = refl
no_services_fit (port ∷ ports) =
    all_joined are_fit_services (none_of_port port) (no_services ports) (none_fit (by_base port.keys)) (no_services_fit ports)
  where
    none_fit : (keys : List ℕ) → list_all are_fit_services (map (λ key. record { port = port.guid; base = base_of key; services = [] }) keys) ≡ true
    none_fit [] = refl
    none_fit (key ∷ keys) = none_fit keys

name_long : (test : Bool) (content : List ℕ) → length content ≡ 200 → (length (if test then slice_range content 48 112 else replicate 64 0) == 64) ≡ true
name_long true content long =
    let rest = length-drop 48 content in
    let part = length-take 64 (drop 48 content) in
    eq-eqb (length (take 64 (drop 48 content))) 64 (omega arith)
name_long false content long = refl

pub numbers_long : (mask : ℕ) (numbers : List ℕ) → length (numbers_asked mask numbers) ≡ 64
numbers_long mask numbers =
    length-put_all (replicate 64 0)
    (map (λ one. at one.off one.len (field numbers one.off one.len)) (filter (λ one. asks mask one.bits) service_data_asked))
    ∙ length-replicate {A = ℕ} 64 0

set_fits : (mask : ℕ) (content : List ℕ) → length content ≡ 200 → is_fit_service (service_asked mask (service_in content)) ≡ true
unfolding service_in
set_fits mask content long =
    and_from _ _ (name_long (asks mask service_mask.service_name) content long)
    (eq-eqb (length (numbers_asked mask (service_in content).service_data)) 64
    (numbers_long mask (service_in content).service_data))

-- ---- so a request asks for what fits
content_long : (payload : List ℕ) → (length payload == 256) ≡ true → length (request_in payload).content ≡ 200
unfolding request_in
content_long payload whole =
    let long = eqb-true (length payload) 256 whole in
    let rest = length-drop 56 payload in
    let part = length-take 200 (drop 56 payload) in
    omega arith

asks_fit : (own : SubnetPort) (payload : List ℕ) → (length payload == 256) ≡ true → AsksFor own (request_in payload) FitJoin FitChange
asks_fit own payload whole = record {
  join = parameters_fit (request_in payload).component_mask (request_in payload).content;
  set = set_fits (request_in payload).component_mask (request_in payload).content (content_long payload whole);
  deletion = tt;
}

-- ---- the start, and each answer
pub starts_remembered : (configuration : ConfigurationState) → IsConfigured configuration
    → IsRememberedOf configuration (record { partitions = start_of configuration; services = no_services configuration.ports })
starts_remembered configuration configured = record {
  partitions = refl;
  groups = groups.start_sound configuration.ports configuration;
  fit_groups = start_from_fit 0 configuration.partitions configured.headings.groups;
  places = refl;
  services = services.start_sound configuration.ports;
  fit_services = no_services_fit configuration.ports;
}

pub change_remembered : (configuration : ConfigurationState) (state : SaState) (change : ServiceChange) → FitChange change → IsRememberedOf configuration state
    → IsRememberedOf configuration (record state { services = services_changed state.services change })
change_remembered configuration state change fit is = record {
  partitions = is.partitions;
  groups = is.groups;
  fit_groups = is.fit_groups;
  places = places_stay state.services change ∙ is.places;
  services = services.services_stay_sound configuration.ports state.services change is.services;
  fit_services = changes_fit change state.services fit is.fit_services;
}

pub join_remembered : (configuration : ConfigurationState) (state : SaState) (join : Join) → FitJoin join → IsRememberedOf configuration state
    → IsRememberedOf configuration (record state { partitions = joined configuration.ports join state.partitions })
join_remembered configuration state join fit is = record {
  partitions = partitions_stay configuration.ports state.partitions (Change.joins join) ∙ is.partitions;
  groups = joined_sound configuration.ports join state.partitions is.groups;
  fit_groups = joins_fit configuration.ports join state.partitions fit is.fit_groups;
  places = is.places;
  services = is.services;
  fit_services = is.fit_services;
}

pub leave_remembered : (configuration : ConfigurationState) (state : SaState) (leave : Leave) → IsRememberedOf configuration state
    → IsRememberedOf configuration (record state { partitions = left configuration.ports leave state.partitions })
leave_remembered configuration state leave is = record {
  partitions = partitions_stay configuration.ports state.partitions (Change.leaves leave) ∙ is.partitions;
  groups = left_sound configuration.ports leave state.partitions is.groups;
  fit_groups = leaves_fit configuration.ports leave state.partitions is.fit_groups;
  places = is.places;
  services = is.services;
  fit_services = is.fit_services;
}

kept : (configuration : ConfigurationState) (own : SubnetPort) (state : SaState) → IsRememberedOf configuration state
    → KeptBy configuration.ports own state FitJoin FitChange (IsRememberedOf configuration)
kept configuration own state is = record {
  same = is;
  joins = λ join e fit. join_remembered configuration state join fit is;
  leaves = λ leave e. leave_remembered configuration state leave is;
  changes = λ change e fit. change_remembered configuration state change fit is;
}

abbrev RemembersOf : ConfigurationState → Administration → Type 0
RemembersOf configuration state = IsRememberedOf configuration state.remembered

pub answers_remember : (configuration : ConfigurationState) (own : SubnetPort) (payload : List ℕ) (state : Administration)
    → IsRememberedOf configuration state.remembered → IsRememberedOf configuration (answer configuration.ports own payload state).1.remembered
answers_remember configuration own payload state is =
    answer_leaves_by (RemembersOf configuration) FitJoin FitChange configuration.ports own payload state (λ table. is) is
    (λ whole. asks_fit own payload whole) (kept configuration own state.remembered is)
