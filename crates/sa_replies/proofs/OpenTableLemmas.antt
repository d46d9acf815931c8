-- Each port keeps its place for a table, and each table that is open can be sent.
use Rattle.std.proofs.Common.{◌≡◌, ℕ, ◌+◌, ◌*◌, ◌/◌, ◌^◌, ◌<◌, ◌≤◌, Bool, true, not, ◌==◌, ◌&&◌, nat_lt, nat_le, if◌then◌else◌, bit_and, max}
use Rattle.std.proofs.Common.{List, [], ◌∷◌, length, map, filter, Option, Some, None, Result, Ok, Err, refl, sym, ◌∙◌, ap, subst, inl, inr, arith}
use Rattle.std.specs.Int.Digits.{AllBelowBase}
use Rattle.std.specs.List.{AllByRecursion, flat_map, list_all}
use Rattle.std.proofs.lemmas.Bool.{and_from, and_parts, cases_Bool, eqb-true, le-leb, leb-true, ltb-true}
use Rattle.step_results.proofs.ListLemmas.{list_all_weaker}
use Rattle.pkey_rules.specs.KeyTable.{accepts}
use Rattle.pkey_rules.specs.PKey.{base_of}
use Rattle.sa_model.proofs.SourceLemmas.{all_filtered}
use Rattle.sa_model.specs.Members.{is_in}
use Rattle.sa_records.specs.declared.node_record.NodeRecord.{NodeRecord}
use Rattle.sa_records.specs.declared.path_record.PathRecord.{PathRecord}
use Rattle.sa_records.specs.declared.mc_member_record.McMemberRecord.{McMemberRecord}
use Rattle.sa_records.specs.declared.service_record.ServiceRecord.{ServiceRecord}
use Rattle.sa_records.specs.NodeRecord.{node_record_selected}
use Rattle.sa_records.specs.PathRecord.{path_record_selected}
use Rattle.sa_records.specs.McMemberRecord.{mc_member_record_selected}
use Rattle.sa_records.specs.ServiceRecord.{service_record_selected}
use Rattle.std.proofs.Math.Nat.{mul-suc}
use Rattle.std.proofs.lemmas.List.{length-append, length-map, length-take}
use Rattle.std.proofs.lemmas.List.Elements.{All-from_recursion, recursion_from_All}
use Rattle.mad_layout.specs.Bits.{field}
use Rattle.mad_layout.specs.Method.{method_code}
use Rattle.mad_layout.specs.RmppKind.{rmpp_kind_code}
use Rattle.mad_layout.specs.declared.method.Method.TheVariants.{Get, Set, GetTable, Delete}
use Rattle.mad_layout.specs.declared.rmpp_kind.RmppKind.TheVariants.{Ack, Stop, Abort}
use Rattle.mad_layout.specs.declared.rmpp_header.RmppHeader.{RmppHeader}
use Rattle.mad_layout.specs.declared.status.MadStatus.{MadStatus}
use Rattle.mad_layout.specs.declared.status.MadStatus.TheVariants.{MethodNotSupported}
use Rattle.partition_file.specs.declared.heading.Heading.{Heading}
use Rattle.rmpp_core.specs.Acks.{after_ack}
use Rattle.pkey_rules.specs.declared.key_table.TheConstants.{PARTITIONS}
use Rattle.rmpp_core.specs.declared.abort.AbortCause.{AbortCause}
use Rattle.rmpp_core.specs.declared.sender.Acknowledged.{Acknowledged}
use Rattle.rmpp_core.specs.Laws.{IsTransfer}
use Rattle.rmpp_core.specs.Segments.{Transfer, opened, payload_size, segment_count}
use Rattle.subnet_model.specs.Configuration.{ConfigurationState}
use Rattle.subnet_model.specs.Configured.{HoldsKnownKeys, IsConfigured}
use Rattle.subnet_model.specs.Delivery.{port_with_guid}
use Rattle.subnet_model.specs.declared.subnet_port.SubnetPort.{SubnetPort}
use Rattle.sa_model.specs.Changes.{partition_of}
use Rattle.sa_model.specs.Groups.{MulticastGroup, PartitionGroups, first_mlid, start_from, start_of}
use Rattle.sa_model.specs.Sound.{is_sound, is_sound_group, is_sound_partition, lower_mlid, pairwise}
use Rattle.sa_model.proofs.SoundLemmas.{partition_parts, sound_parts}
use Rattle.sa_model.specs.KeyOrder.{by_base, with_key}
use Rattle.sa_model.specs.ServiceChange.{lower_id, most_services, port_and_base}
use Rattle.sa_model.specs.Services.{PortServices, Service, no_services, none_of_port}
use Rattle.sa_model.specs.ServiceSight.{is_shown, services_seen}
use Rattle.sa_model.specs.ServiceSound.{are_sound_services, holds_base, is_sound_place}
use Rattle.sa_model.specs.Outcome.{unless_status}
use Rattle.sa_model.specs.Refusals.{refusal}
use Rattle.sa_model.specs.Selected.{Query, at_most, few_paths, groups_selected, nodes_selected, paths_selected, paths_wanted, selected, services_selected}
use Rattle.sa_model.specs.Shown.{Entry, node_entry, path_entry, group_entry, group_record_of, node_record_of, path_record_of, service_entry, service_record_of}
use Rattle.sa_model.specs.Visible.{GroupOfBase, Path, SaState, ServiceOfPort, groups_of, keys_to, may_know, paths_to, paths_under, services_of, visible_groups, visible_nodes, visible_services}
use Rattle.sa_replies.specs.Answer.{Administration, after_rmpp, all_records, answer, answer_to, get_outcome, offset_of, outcome, query_of, set_or_refused, delete_or_refused, table_outcome, answered_with, version_refused}
use Rattle.sa_records.specs.SaRecord.{record_bytes}
use Rattle.sa_replies.specs.Reply.{table_header}
use Rattle.sa_replies.specs.Request.{Request, has_versions, is_response, request_in}
use Rattle.sa_replies.specs.State.{AnswersKeepStates, IsRememberedOf, StartsAreStates}
use Rattle.sa_replies.specs.Success.{Success}
use Rattle.sa_replies.specs.Transfers.{CanBeSent, PortTransfer, acknowledged, by_kind, is_of_table, no_transfers, on_ack, on_rmpp, table_of, with_table}
use Rattle.sa_replies.proofs.AnswerLemmas.{answer_leaves, second_if}
use Rattle.sa_replies.proofs.StateLemmas.{answers_remember, starts_remembered}
use Rattle.sa_replies.proofs.RefusalLemmas.{Ends, IsGot, IsOneReply, IsReply, delete_is_one, ends_if, ends_more, get_ends, set_or_refused_ends}
use Rattle.sa_replies.proofs.StatusLemmas.{IsCopied, is_copied, record_is_data, records_below}

-- ---- how many there are
pub filter_few : {X : Type 0} (test : X → Bool) (xs : List X) → length (filter test xs) ≤ length xs
filter_few test [] = omega arith
filter_few test (x ∷ xs) = elim (cases_Bool (test x)) [
  | inl passes ↦ rw passes (let rest = filter_few test xs in omega arith)
  | inr fails ↦ rw fails (let rest = filter_few test xs in omega arith)
]

flat_few : {X Y : Type 0} (f : X → List Y) (most : ℕ) (xs : List X) → AllByRecursion (λ x. length (f x) ≤ most) xs → length (flat_map f xs) ≤ most * length xs
flat_few f most [] each = omega arith
flat_few f most (x ∷ xs) each =
    let rest = flat_few f most xs each.1 in
    let both = length-append (f x) (flat_map f xs) in
    let one = each.0 in
    let more : most * length (x ∷ xs) ≡ most * length xs + most = mul-suc most (length xs) in
    omega (arith, both, rest, one, more)

key_placed : (key : ℕ) (some : List ℕ) → length (with_key key some) ≡ length some + 1
key_placed key [] = refl
key_placed key (held ∷ rest) = elim (cases_Bool (nat_le (base_of key) (base_of held))) [
  | inl before ↦ rw before (omega arith)
  | inr behind ↦ rw behind (let more = key_placed key rest in omega arith)
]

by_base_few : (keys : List ℕ) → length (by_base keys) ≡ length keys
by_base_few [] = refl
by_base_few (key ∷ keys) = let one = key_placed key (by_base keys) in let rest = by_base_few keys in omega arith

-- ---- what is selected of each kind
keys_few : (configuration : ConfigurationState) (own : SubnetPort) → IsConfigured configuration
    → port_with_guid configuration.ports own.guid ≡ Some own → length own.keys ≤ PARTITIONS
keys_few configuration own configured found =
    found_few configuration.ports (recursion_from_All (HoldsKnownKeys configuration.partitions) configuration.ports configured.keys) found
  where
    found_few : (ports : List SubnetPort) → AllByRecursion (HoldsKnownKeys configuration.partitions) ports → port_with_guid ports own.guid ≡ Some own
        → length own.keys ≤ PARTITIONS
    found_few [] each found_here = absurd (cc)
    found_few (port ∷ ports) each found_here = elim (cases_Bool (port.guid == own.guid)) [
      | inl this ↦
          let head : Some port ≡ Some own = rw this at found_here in
          let same : port ≡ own = cc in
          subst (λ (one : SubnetPort). length one.keys ≤ PARTITIONS) same each.0.few
      | inr other ↦ found_few ports each.1 (rw other at found_here)
    ]

paths_few : (most : Option ℕ) (mask : ℕ) (asked : PathRecord) (own other : SubnetPort) → length own.keys ≤ PARTITIONS
    → length (few_paths most mask asked own other) ≤ PARTITIONS
paths_few most mask asked own other few =
    let keys = by_base_few own.keys in
    let accepted = filter_few (λ key. accepts key other.keys) (by_base own.keys) in
    let paths : length (paths_to own other) ≡ length (keys_to own other) = under (keys_to own other) in
    let chosen = filter_few (λ path. path_record_selected mask (path_record_of path) asked) (paths_to own other) in
    let taken = taken_few most (paths_selected mask asked (paths_to own other)) in
    omega arith
  where
    under : (keys : List ℕ) → length (paths_under keys own other) ≡ length keys
    under [] = refl
    under (key ∷ keys) = let rest = under keys in omega arith

    taken_few : (some : Option ℕ) (paths : List Path) → length (at_most some paths) ≤ length paths
    taken_few None paths = omega arith
    taken_few (Some n) paths = let part = length-take n paths in omega arith

each_few : {X Y : Type 0} (f : X → List Y) (most : ℕ) → ((x : X) → length (f x) ≤ most) → (xs : List X) → AllByRecursion (λ x. length (f x) ≤ most) xs
each_few f most all [] = tt
each_few f most all (x ∷ xs) = (all x, each_few f most all xs)

-- MLIDs that rise within the 32 of a partition are 32 at most
ranged_few : (first : ℕ) (low : ℕ) (groups : List MulticastGroup) → pairwise lower_mlid groups ≡ true
    → list_all (λ group. nat_le low group.mlid && nat_lt group.mlid (first + 32)) groups ≡ true → low ≤ first + 32 → low + length groups ≤ first + 32
ranged_few first low [] rise ranged within = omega arith
ranged_few first low (group ∷ groups) rise ranged within =
    let parts = and_parts (list_all (lower_mlid group) groups) (pairwise lower_mlid groups) rise in
    let here = and_parts (nat_le low group.mlid && nat_lt group.mlid (first + 32)) _ ranged in
    let both = and_parts (nat_le low group.mlid) (nat_lt group.mlid (first + 32)) here.0 in
    let least = leb-true low group.mlid both.0 in
    let most = ltb-true group.mlid (first + 32) both.1 in
    let rest = ranged_few first (group.mlid + 1) groups parts.1 (higher group groups parts.0 here.1) (omega arith) in
    omega arith
  where
    higher : (low_one : MulticastGroup) (some : List MulticastGroup) → list_all (lower_mlid low_one) some ≡ true
        → list_all (λ one. nat_le low one.mlid && nat_lt one.mlid (first + 32)) some ≡ true
        → list_all (λ one. nat_le (low_one.mlid + 1) one.mlid && nat_lt one.mlid (first + 32)) some ≡ true
    higher low_one [] above all = refl
    higher low_one (one ∷ some) above all =
        let first_two = and_parts (lower_mlid low_one one) _ above in
        let ranged_too = and_parts (nat_le low one.mlid && nat_lt one.mlid (first + 32)) _ all in
        let halves = and_parts (nat_le low one.mlid) (nat_lt one.mlid (first + 32)) ranged_too.0 in
        let up = ltb-true low_one.mlid one.mlid first_two.0 in
        and_from (nat_le (low_one.mlid + 1) one.mlid && nat_lt one.mlid (first + 32)) _
        (and_from (nat_le (low_one.mlid + 1) one.mlid) (nat_lt one.mlid (first + 32)) (le-leb (low_one.mlid + 1) one.mlid (omega arith)) halves.1)
        (higher low_one some first_two.1 ranged_too.1)

pub groups_few : (ports : List SubnetPort) (partition : PartitionGroups) → is_sound_partition ports partition ≡ true → length partition.groups ≤ 32
groups_few ports partition sound =
    let parts = partition_parts ports partition sound in
    let within = ranged_few (first_mlid partition.number) (first_mlid partition.number) partition.groups parts.order
    (list_all_weaker (is_sound_group ports partition) (λ group. nat_le (first_mlid partition.number) group.mlid && nat_lt group.mlid (first_mlid partition.number + 32))
    (λ group is. (sound_parts ports partition group is).ranged) partition.groups parts.each) (omega arith) in
    omega arith

-- ---- places: as many partitions as headings, and as many places for services as keys of all ports
start_few : (number : ℕ) (headings : List Heading) → length (start_from number headings) ≡ length headings
start_few number [] = refl
start_few number (heading ∷ headings) = let rest = start_few (number + 1) headings in omega arith

mapped_few : {X Y Z : Type 0} (f : X → Z) (g : Y → Z) (xs : List X) (ys : List Y) → map f xs ≡ map g ys → length xs ≡ length ys
mapped_few f g xs ys same =
    let left = length-map xs f in
    let right = length-map ys g in
    let both = ap (λ zs. length zs) same in
    omega arith

empty_place : SubnetPort → ℕ → PortServices
empty_place port key = record { port = port.guid; base = base_of key; services = [] }

none_few : (port : SubnetPort) → length (none_of_port port) ≡ length port.keys
unfolding empty_place
none_few port = length-map {A = ℕ} {B = PortServices} (by_base port.keys) (empty_place port) ∙ by_base_few port.keys

each_port_few : (headings : List Heading) (ports : List SubnetPort) → AllByRecursion (HoldsKnownKeys headings) ports
    → AllByRecursion (λ port. length (none_of_port port) ≤ PARTITIONS) ports
each_port_few headings [] held = tt
each_port_few headings (port ∷ ports) held =
    let keys = none_few port in
    let few = held.0.few in
    (omega arith, each_port_few headings ports held.1)

places_few : (headings : List Heading) (ports : List SubnetPort) → AllByRecursion (HoldsKnownKeys headings) ports → length (no_services ports) ≤ PARTITIONS * length ports
places_few headings ports each = flat_few none_of_port PARTITIONS ports (each_port_few headings ports each)

-- ---- how many records a table has: 16 services of each of 320 end ports in each of its partitions are the most
pub most_entries : ℕ
most_entries = 16 * (PARTITIONS * 320)

each_partition_few : (ports : List SubnetPort) (partitions : List PartitionGroups) → is_sound ports partitions ≡ true
    → AllByRecursion (λ partition. length (groups_of partition) ≤ 32) partitions
each_partition_few ports [] sound = tt
each_partition_few ports (partition ∷ partitions) sound =
    let parts = and_parts (is_sound_partition ports partition) _ sound in
    let few = groups_few ports partition parts.0 in
    let same : length (groups_of partition) ≡ length partition.groups =
    length-map {A = MulticastGroup} {B = GroupOfBase} partition.groups (λ group. record { base = partition.base; group = group }) in
    (omega arith, each_partition_few ports partitions parts.1)

each_place_few : (ports : List SubnetPort) (places : List PortServices) → are_sound_services ports places ≡ true
    → AllByRecursion (λ place. length (services_of place) ≤ 16) places
each_place_few ports [] sound = tt
each_place_few ports (place ∷ places) sound =
    let parts = and_parts (is_sound_place ports place) _ sound in
    let held = and_parts (holds_base ports place.base place.port) _ parts.0 in
    let few = and_parts (pairwise lower_id place.services) (nat_le (length place.services) most_services) held.1 in
    let least = leb-true (length place.services) most_services few.1 in
    let same : length (services_of place) ≡ length place.services =
    length-map {A = Service} {B = ServiceOfPort} place.services (λ service. record { port = place.port; base = place.base; service = service }) in
    (omega arith, each_place_few ports places parts.1)

nodes_most : (ports : List SubnetPort) (own : SubnetPort) (mask : ℕ) (asked : NodeRecord) → length ports ≤ 320
    → length (map node_entry (nodes_selected mask asked (visible_nodes ports own))) ≤ most_entries
unfolding most_entries
nodes_most ports own mask asked few =
    let a = filter_few (may_know own) ports in
    let b = filter_few (λ node. node_record_selected mask (node_record_of node) asked) (visible_nodes ports own) in
    let c = length-map (nodes_selected mask asked (visible_nodes ports own)) node_entry in
    omega arith

paths_most : (most : Option ℕ) (ports : List SubnetPort) (own : SubnetPort) (mask : ℕ) (asked : PathRecord) → length ports ≤ 320 → length own.keys ≤ PARTITIONS
    → length (map path_entry (flat_map (few_paths most mask asked own) ports)) ≤ most_entries
unfolding most_entries
paths_most most ports own mask asked few keys =
    let a = flat_few (few_paths most mask asked own) PARTITIONS ports (each_few (few_paths most mask asked own) PARTITIONS (λ other. paths_few most mask asked own other keys) ports) in
    let b = length-map (flat_map (few_paths most mask asked own) ports) path_entry in
    omega arith

groups_most : (ports : List SubnetPort) (own : SubnetPort) (partitions : List PartitionGroups) (mask : ℕ) (asked : McMemberRecord) → is_sound ports partitions ≡ true
    → length partitions ≤ PARTITIONS → length (map group_entry (groups_selected mask asked (visible_groups own partitions))) ≤ most_entries
unfolding most_entries
groups_most ports own partitions mask asked sound few =
    let mine = filter (λ partition. is_in own partition.base) partitions in
    let a = filter_few (λ partition. is_in own partition.base) partitions in
    let b = flat_few groups_of 32 mine (all_filtered (λ partition. length (groups_of partition) ≤ 32) (λ partition. is_in own partition.base) partitions (each_partition_few ports partitions sound)) in
    let c = filter_few (λ one. mc_member_record_selected mask (group_record_of one) asked) (visible_groups own partitions) in
    let d = length-map (groups_selected mask asked (visible_groups own partitions)) group_entry in
    omega arith

services_most : (ports : List SubnetPort) (own : SubnetPort) (places : List PortServices) (mask : ℕ) (asked : ServiceRecord) → are_sound_services ports places ≡ true
    → length places ≤ PARTITIONS * 320 → length (map service_entry (services_selected mask asked (visible_services ports own places))) ≤ most_entries
unfolding most_entries
services_most ports own places mask asked sound few =
    let shown = services_seen ports own.guid places in
    let a = filter_few (is_shown ports own.guid) places in
    let b = flat_few services_of 16 shown (all_filtered (λ place. length (services_of place) ≤ 16) (is_shown ports own.guid) places (each_place_few ports places sound)) in
    let c = filter_few (λ one. service_record_selected mask (service_record_of one) asked) (visible_services ports own places) in
    let d = length-map (services_selected mask asked (visible_services ports own places)) service_entry in
    omega arith

pub selected_most : (most : Option ℕ) (configuration : ConfigurationState) (own : SubnetPort) (state : SaState) (query : Query) → IsConfigured configuration
    → port_with_guid configuration.ports own.guid ≡ Some own → IsRememberedOf configuration state
    → length (selected most configuration.ports own state query) ≤ most_entries
selected_most most configuration own state (Query.for_nodes mask asked) configured found is = nodes_most configuration.ports own mask asked configured.few
selected_most most configuration own state (Query.for_paths mask asked) configured found is =
    paths_most most configuration.ports own mask asked configured.few (keys_few configuration own configured found)
selected_most most configuration own state (Query.for_groups mask asked) configured found is =
    let same = mapped_few partition_of partition_of state.partitions (start_of configuration) is.partitions in
    let start = start_few 0 configuration.partitions in
    let bases = length-map configuration.partitions (λ heading. heading.base) in
    let room = configured.headings.bases.room in
    groups_most configuration.ports own state.partitions mask asked is.groups (omega arith)
selected_most most configuration own state (Query.for_services mask asked) configured found is =
    let same = mapped_few port_and_base port_and_base state.services (no_services configuration.ports) is.places in
    let few = places_few configuration.partitions configuration.ports (recursion_from_All (HoldsKnownKeys configuration.partitions) configuration.ports configured.keys) in
    let ports = configured.few in
    services_most configuration.ports own state.services mask asked is.services (omega arith)

-- ---- so its length can be reported
bytes_few : (entries : List Entry) → length (flat_map (λ entry. record_bytes entry.shown) entries) ≤ 200 * length entries
bytes_few entries =
    flat_few (λ entry. record_bytes entry.shown) 200 entries
    (each_few (λ entry. record_bytes entry.shown) 200 (λ entry. (record_is_data entry.shown).short) entries)

pub size_low : (entries : List Entry) → length entries ≤ most_entries → payload_size (flat_map (λ entry. record_bytes entry.shown) entries) < 2 ^ 32
unfolding most_entries
size_low entries few =
    let bytes = flat_map (λ entry. record_bytes entry.shown) entries in
    let long = bytes_few entries in
    let count = max_low 1 ((length bytes + 199) / 200) in
    omega arith
  where
    max_low : (a b : ℕ) → max a b ≤ a + b
    max_low a b = grind arith

-- ---- places stay, and what is open in them can be sent
pub places_same : (port : ℕ) (table_now : Option Transfer) (places : List PortTransfer)
    → map (λ place. place.port) (with_table port table_now places) ≡ map (λ place. place.port) places
places_same port table_now [] = refl
places_same port table_now (place ∷ places) = elim (cases_Bool (place.port == port)) [
  | inl this ↦ rw this (ap (λ (n : ℕ). n ∷ map (λ one. one.port) (with_table port table_now places)) (sym (eqb-true place.port port this)) ∙ ap (λ rest. place.port ∷ rest) (places_same port table_now places))
  | inr other ↦ rw other (ap (λ rest. place.port ∷ rest) (places_same port table_now places))
]

a_place_each : (ports : List SubnetPort) → map (λ place. place.port) (no_transfers ports) ≡ map (λ port. port.guid) ports
a_place_each [] = refl
a_place_each (port ∷ ports) = ap (λ rest. port.guid ∷ rest) (a_place_each ports)

abbrev pub AllCanBeSent : List PortTransfer → Type 0
AllCanBeSent places = AllByRecursion (λ place. CanBeSent place.open_table) places

none_is_open : (ports : List SubnetPort) → AllCanBeSent (no_transfers ports)
none_is_open [] = tt
none_is_open (port ∷ ports) = (tt, none_is_open ports)

placed_can : (port : ℕ) (table_now : Option Transfer) (places : List PortTransfer) → CanBeSent table_now → AllCanBeSent places → AllCanBeSent (with_table port table_now places)
placed_can port table_now [] can all = tt
placed_can port table_now (place ∷ places) can all = elim (cases_Bool (place.port == port)) [
  | inl this ↦ rw this (can, placed_can port table_now places can all.1)
  | inr other ↦ rw other (all.0, placed_can port table_now places can all.1)
]

pub found_can : (port : ℕ) (places : List PortTransfer) → AllCanBeSent places → CanBeSent (table_of port places)
found_can port [] all = tt
found_can port (place ∷ places) all = elim (cases_Bool (place.port == port)) [
  | inl this ↦ rw this all.0
  | inr other ↦ rw other (found_can port places all.1)
]

acknowledged_can : (transfer : Transfer) (window : ℕ) (result : Result Acknowledged AbortCause) → IsTransfer transfer → CanBeSent (acknowledged transfer window result).1
acknowledged_can transfer window (Err cause) is = tt
acknowledged_can transfer window (Ok acked) is = elim (cases_Bool acked.is_complete) [
  | inl complete ↦ rw complete tt
  | inr more ↦
      rw more
      (record { header = is.header; attribute_offset = is.attribute_offset; component_mask = is.component_mask; bytes = is.bytes; size = is.size })
]

kind_can : (transfer : Transfer) (rmpp : RmppHeader) → IsTransfer transfer → CanBeSent (by_kind transfer rmpp).1
kind_can transfer rmpp is =
    second_if CanBeSent (rmpp.kind == rmpp_kind_code Ack) (on_ack transfer rmpp) _
    (acknowledged_can transfer rmpp.payload_length_or_new_window_last
    (after_ack transfer.window (segment_count transfer.bytes) rmpp.segment_number rmpp.payload_length_or_new_window_last) is)
    (second_if CanBeSent (rmpp.kind == rmpp_kind_code Stop) ([], None) _ tt
    (second_if CanBeSent (rmpp.kind == rmpp_kind_code Abort) ([], None) ([], Some transfer) tt is))

rmpp_can : (request : Request) (table_now : Option Transfer) → CanBeSent table_now → CanBeSent (on_rmpp request table_now).1
rmpp_can request None can = tt
rmpp_can request (Some transfer) can =
    second_if CanBeSent (is_of_table transfer request) (by_kind transfer request.rmpp) ([], Some transfer) (kind_can transfer request.rmpp can) can

-- a table that a request opens
abbrev pub TableLow : Success → Type 0
TableLow (Success.one_reply bytes next) = Unit {0}
TableLow (Success.whole_table offset bytes) = (offset < 2 ^ 16) × AllBelowBase 256 bytes × (payload_size bytes < 2 ^ 32)

got_low : (state : SaState) (success : Success) → IsGot state success → TableLow success
got_low state (Success.one_reply bytes next) is = tt
got_low state (Success.whole_table offset bytes) is = absurd is

reply_low : (success : Success) → IsReply success → TableLow success
reply_low (Success.one_reply bytes next) is = tt
reply_low (Success.whole_table offset bytes) is = absurd is

one_low : (success : Success) → IsOneReply success → TableLow success
one_low (Success.one_reply bytes next) is = tt
one_low (Success.whole_table offset bytes) is = absurd is

offset_low : (query : Query) → offset_of query < 2 ^ 16
offset_low (Query.for_nodes mask asked) = omega arith
offset_low (Query.for_paths mask asked) = omega arith
offset_low (Query.for_groups mask asked) = omega arith
offset_low (Query.for_services mask asked) = omega arith

all_low : (query : Query) (refused : Option MadStatus) (entries : List Entry) → length entries ≤ most_entries
    → Ends TableLow (all_records query (unless_status refused (Ok entries)))
all_low query (Some status) entries few = tt
all_low query None entries few = (offset_low query, records_below entries, size_low entries few)

table_low : (configuration : ConfigurationState) (own : SubnetPort) (state : SaState) (query : Option Query) → IsConfigured configuration
    → port_with_guid configuration.ports own.guid ≡ Some own → IsRememberedOf configuration state
    → Ends TableLow (table_outcome configuration.ports own state query)
table_low configuration own state None configured found is = tt
table_low configuration own state (Some query) configured found is =
    all_low query (refusal own query) (selected (paths_wanted query) configuration.ports own state query)
    (selected_most (paths_wanted query) configuration own state query configured found is)

pub outcome_low : (configuration : ConfigurationState) (own : SubnetPort) (state : SaState) (request : Request) → IsConfigured configuration
    → port_with_guid configuration.ports own.guid ≡ Some own → IsRememberedOf configuration state
    → Ends TableLow (outcome configuration.ports own state request)
outcome_low configuration own state request configured found is =
    ends_if TableLow (request.header.method == method_code Get) (get_outcome ports own state (query_of request)) _
    (ends_more (IsGot state) TableLow (got_low state) (get_outcome ports own state (query_of request)) (get_ends ports own state (query_of request)))
    (ends_if TableLow (request.header.method == method_code GetTable) (table_outcome ports own state (query_of request)) _
    (table_low configuration own state (query_of request) configured found is)
    (ends_if TableLow (request.header.method == method_code Set) (set_or_refused ports own state request) _
    (ends_more IsReply TableLow reply_low (set_or_refused ports own state request) (set_or_refused_ends ports own state request))
    (ends_if TableLow (request.header.method == method_code Delete) (delete_or_refused ports own state request) (Err MethodNotSupported)
    (ends_more IsOneReply TableLow one_low (delete_or_refused ports own state request) (delete_is_one ports own state request)) tt)))
  where
    ports : List SubnetPort
    ports = configuration.ports

reported_can : (own : SubnetPort) (request : Request) (state : Administration) (result : Result Success MadStatus) → IsCopied request → Ends TableLow result
    → AllCanBeSent state.transfers → AllCanBeSent (answered_with own request state result).1.transfers
reported_can own request state (Err status) copied low all = all
reported_can own request state (Ok (Success.one_reply bytes next)) copied low all = all
reported_can own request state (Ok (Success.whole_table offset bytes)) copied low all =
    placed_can own.guid (Some (opened (table_header request offset) bytes)) state.transfers
    (record { header = copied.header 0 (omega arith); attribute_offset = low.0; component_mask = copied.mask; bytes = low.1; size = low.2 }) all

abbrev TablesCanBeSent : Administration → Type 0
TablesCanBeSent state = AllCanBeSent state.transfers

answers_can : (configuration : ConfigurationState) (own : SubnetPort) (payload : List ℕ) (state : Administration) → IsConfigured configuration
    → port_with_guid configuration.ports own.guid ≡ Some own → IsRememberedOf configuration state.remembered → TablesCanBeSent state
    → TablesCanBeSent (answer configuration.ports own payload state).1
answers_can configuration own payload state configured found is all =
    second_if TablesCanBeSent ((length payload == 256) && (field payload 8 8 == 3)) (answer_to configuration.ports own request state) ([], state)
    (second_if TablesCanBeSent (not (has_versions request.header)) (version_refused request, state) _ all
    (second_if TablesCanBeSent (bit_and request.rmpp.flags 1 == 1) (after_rmpp own state (on_rmpp request (table_of own.guid state.transfers))) _
    (placed_can own.guid (on_rmpp request (table_of own.guid state.transfers)).1 state.transfers
    (rmpp_can request (table_of own.guid state.transfers) (found_can own.guid state.transfers all)) all) asked)) all
  where
    request : Request
    request = request_in payload

    asked : TablesCanBeSent (if is_response request.header then ([], state) else answered_with own request state (outcome configuration.ports own state.remembered request)).1
    asked = elim (cases_Bool (is_response request.header)) [
      | inl response ↦ rw response all
      | inr asks ↦
          rw asks
          (reported_can own request state (outcome configuration.ports own state.remembered request) (is_copied payload asks)
          (outcome_low configuration own state.remembered request configured found is) all)
    ]

abbrev HasPlaces : List SubnetPort → Administration → Type 0
HasPlaces ports state = map (λ place. place.port) state.transfers ≡ map (λ port. port.guid) ports

-- ---- all of it
pub starts_are_states : StartsAreStates
starts_are_states configuration configured = record {
  remembered = starts_remembered configuration configured;
  places = a_place_each configuration.ports;
  tables = All-from_recursion (λ place. CanBeSent place.open_table) (no_transfers configuration.ports) (none_is_open configuration.ports);
}

pub answers_keep_states : AnswersKeepStates
answers_keep_states configuration own payload state configured found is =
    let all = recursion_from_All (λ (place : PortTransfer). CanBeSent place.open_table) state.transfers is.tables in
    record {
      remembered = answers_remember configuration own payload state is.remembered;
      places = answer_leaves (HasPlaces configuration.ports) configuration.ports own payload state
          (λ table_now. places_same own.guid table_now state.transfers ∙ is.places) is.places
          (record { same = is.places; joins = λ join e. is.places; leaves = λ leave e. is.places; changes = λ change e. is.places });
      tables = All-from_recursion (λ place. CanBeSent place.open_table) (answer configuration.ports own payload state).1.transfers
          (answers_can configuration own payload state configured found is.remembered all);
    }
