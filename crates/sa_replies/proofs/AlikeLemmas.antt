-- A requester is answered by what it sees.
use Rattle.std.proofs.Common.{ℕ, zero, suc, Bool, true, false, ◌==◌, ◌&&◌, ◌||◌, not, List, [], ◌∷◌, ◌++◌, Option, Some, None, is_none, Result, Ok, Err, map, filter, find, option_map}
use Rattle.std.proofs.Common.{◌≡◌, ◌∙◌, ap, refl, sym, inl, inr, if◌then◌else◌, length, bit_and}
use Rattle.std.specs.List.{list_all, list_any, flat_map}
use Rattle.std.proofs.lemmas.Bool.{cases_Bool, both_ways, false_from_ne_true, and_parts, or_left, eqb-true, eq-eqb}
use Rattle.std.proofs.lemmas.List.{map-append}
use Rattle.step_results.proofs.ListLemmas.{none_passes}
use Rattle.mad_layout.specs.Bits.{field}
use Rattle.mad_layout.specs.Method.{method_code}
use Rattle.mad_layout.specs.declared.method.Method.TheVariants.{Get, Set, GetTable, Delete}
use Rattle.mad_layout.specs.declared.status.MadStatus.{MadStatus}
use Rattle.pkey_rules.specs.PKey.{base_of}
use Rattle.rmpp_core.specs.Segments.{Transfer}
use Rattle.sa_records.specs.declared.mc_member_record.McMemberRecord.{McMemberRecord}
use Rattle.sa_records.specs.declared.service_record.ServiceRecord.{ServiceRecord}
use Rattle.sa_records.specs.McMemberRecord.{mc_member_record_bytes, group_in}
use Rattle.sa_records.specs.declared.sa_attribute.SaAttribute.TheVariants as sa_attribute
use Rattle.subnet_model.specs.declared.subnet_port.SubnetPort.{SubnetPort}
use Rattle.subnet_model.specs.Delivery.{port_with_guid}
use Rattle.subnet_model.specs.Near.{is_near, ports_share}
use Rattle.sa_model.specs.JoinState.{is_joined}
use Rattle.sa_model.specs.Members.{is_in, is_member}
use Rattle.sa_model.specs.Groups.{Membership, MulticastGroup, PartitionGroups}
use Rattle.sa_model.specs.Anchor.{free_mlid}
use Rattle.sa_model.specs.Joining.{has_mgid, is_of, joined}
use Rattle.sa_model.specs.Leaving.{Leave, is_left}
use Rattle.sa_model.specs.Sound.{is_sound_membership, is_sound_group, is_sound_partition, is_sound}
use Rattle.sa_model.specs.Sight.{group_seen, partition_seen, seen, Alike}
use Rattle.sa_model.proofs.SoundLemmas.{sound_parts, partition_parts}
use Rattle.step_results.proofs.FilterLemmas.{any_within, any_map_same}
use Rattle.sa_model.proofs.SightLemmas.{near_leave}
use Rattle.sa_model.proofs.JoinSightLemmas.{free_seen, near_join}
use Rattle.sa_model.specs.Services.{PortServices}
use Rattle.sa_model.specs.ServiceChange.{Deed, ServiceChange, is_place}
use Rattle.sa_model.specs.ServiceLaws.{ServiceSight}
use Rattle.sa_model.specs.ServiceSight.{services_seen}
use Rattle.sa_model.proofs.ServiceLemmas.{KeepsShown, PlaceRule, kept_by, near_keeps_shown, near_place, of_place, shown_keeps_shown, shown_place, stays_alike}
use Rattle.sa_model.proofs.DeedLemmas.{filter_within}
use Rattle.sa_model.specs.Visible.{SaState}
use Rattle.sa_model.specs.Shown.{Entry, group_record_of}
use Rattle.sa_model.specs.Selected.{Query}
use Rattle.sa_model.specs.Refusals.{Question, first_refusal}
use Rattle.sa_model.specs.Outcome.{unless_status, got, table}
use Rattle.sa_model.specs.QueryLaws.{SeesSame}
use Rattle.sa_model.proofs.NearLemmas.{member_if_in}
use Rattle.sa_model.proofs.QueryLemmas.{queries_end_alike}
use Rattle.mad_layout.specs.declared.status.MadStatus.TheVariants.{NoRecords, NoResources}
use Rattle.rmpp_core.specs.Segments.{opened, segment_mad}
use Rattle.sa_model.specs.ServiceChange.{has_id, has_room}
use Rattle.sa_model.specs.Gid.{gid_of}
use Rattle.sa_model.specs.Refusals.{refused_if}
use Rattle.sa_replies.specs.Request.{Request, request_in, is_response, has_versions, is_about}
use Rattle.sa_records.specs.ServiceRecord.{service_in}
use Rattle.sa_replies.specs.Reply.{reply, refusal_reply, table_header}
use Rattle.sa_replies.specs.Transfers.{PortTransfer, with_table, table_place, table_at, table_of, on_rmpp}
use Rattle.sa_replies.specs.Success.{Success}
use Rattle.sa_replies.specs.Joins.{join_asked, leave_asked, join_questions, founding_by, join_refusal, group_questions, group_named, bits_of_member, member_bytes, has_free_mlid}
use Rattle.sa_replies.specs.Joins.{join_done, join_outcome, after_join, has_bit_of, is_taken_from, takes_some, leaving_by, leave_questions, leave_outcome}
use Rattle.sa_replies.specs.ServiceRequests.{owner_questions, service_asked, change_asked, services_at, service_set, service_deleted}
use Rattle.sa_replies.specs.Answer.{Administration, Answered, query_of, one_record, all_records, get_outcome, table_outcome}
use Rattle.sa_records.specs.SaRecord.{record_bytes}
use Rattle.sa_replies.specs.Answer.{set_or_refused, delete_or_refused, outcome, answered_with, after_rmpp, answer_to, answer}
use Rattle.sa_replies.specs.Laws.{RequestersAreAnsweredAlikeBy, SeesAlike, RequestersAreAnsweredAlike}

-- ---- what is looked for is kept
find_within : {X : Type 0} (test keep : X → Bool) → ((x : X) → test x ≡ true → keep x ≡ true) → (xs : List X) → find test (filter keep xs) ≡ find test xs
find_within test keep within [] = refl
find_within test keep within (x ∷ xs) = elim (cases_Bool (keep x)) [
  | inl here ↦ elim (cases_Bool (test x)) [
    | inl found ↦ rw (here, found) refl
    | inr other ↦ rw (here, other) (find_within test keep within xs)
  ]
  | inr out ↦
      let other : test x ≡ false = false_from_ne_true (test x) (λ found. both_ways (keep x) out (within x found)) in
      rw (out, other) (find_within test keep within xs)
]

find_map : {X : Type 0} (test : X → Bool) (f : X → X) → ((x : X) → test (f x) ≡ test x) → (xs : List X) → find test (map f xs) ≡ option_map f (find test xs)
find_map test f same [] = refl
find_map test f same (x ∷ xs) = elim (cases_Bool (test x)) [
  | inl found ↦ rw (same x, found) refl
  | inr other ↦ rw (same x, other) (find_map test f same xs)
]

-- ---- the group that is named, by what is seen
abbrev pub groups_in : ℕ → List PartitionGroups → List MulticastGroup
groups_in base partitions = flat_map (λ partition. partition.groups) (filter (λ partition. partition.base == base) partitions)

pub groups_in_seen : (ports : List SubnetPort) (p base : ℕ) → is_member ports base p ≡ true → (partitions : List PartitionGroups)
    → groups_in base (seen ports p partitions) ≡ map (group_seen ports p) (groups_in base partitions)
groups_in_seen ports p base member [] = refl
groups_in_seen ports p base member (x ∷ xs) = elim (cases_Bool (x.base == base)) [
  | inl this ↦
      let here : is_member ports x.base p ≡ true = ap (λ b. is_member ports b p) (eqb-true x.base base this) ∙ member in
      rw (here, this) (ap (λ rest. map (group_seen ports p) x.groups ++ rest) (groups_in_seen ports p base member xs)
      ∙ sym (map-append (group_seen ports p) x.groups (groups_in base xs)))
  | inr other ↦ elim (cases_Bool (is_member ports x.base p)) [
    | inl here ↦ rw (here, other) (groups_in_seen ports p base member xs)
    | inr outside ↦ rw (outside, other) (groups_in_seen ports p base member xs)
  ]
]

group_named_seen : (ports : List SubnetPort) (p base mgid : ℕ) → is_member ports base p ≡ true → (partitions : List PartitionGroups)
    → group_named base mgid (seen ports p partitions) ≡ option_map (group_seen ports p) (group_named base mgid partitions)
group_named_seen ports p base mgid member partitions =
    ap (find (has_mgid mgid)) (groups_in_seen ports p base member partitions)
    ∙ find_map (has_mgid mgid) (group_seen ports p) (λ group. refl) (groups_in base partitions)

has_free_seen : (ports : List SubnetPort) (p base : ℕ) → is_member ports base p ≡ true → (partitions : List PartitionGroups)
    → has_free_mlid base (seen ports p partitions) ≡ has_free_mlid base partitions
has_free_seen ports p base member partitions =
    any_map_same (λ x. (x.base == base) && not (is_none (free_mlid x))) (λ x. (x.base == base) && not (is_none (free_mlid x))) (partition_seen ports p)
    (λ x. ap (λ mlid. (x.base == base) && not (is_none mlid)) (free_seen ports p x)) (filter (λ partition. is_member ports partition.base p) partitions)
    ∙ any_within (λ x. (x.base == base) && not (is_none (free_mlid x))) (λ partition. is_member ports partition.base p)
    (λ x e. ap (λ b. is_member ports b p) (eqb-true x.base base (and_parts (x.base == base) (not (is_none (free_mlid x))) e).0) ∙ member) partitions

questions_of_seen : (ports : List SubnetPort) (p : ℕ) (own : SubnetPort) (mask : ℕ) (asked : McMemberRecord) (partitions : List PartitionGroups) (group : Option MulticastGroup)
    → is_member ports (base_of asked.p_key) p ≡ true
    → group_questions ports own mask asked (seen ports p partitions) (option_map (group_seen ports p) group)
    ≡ group_questions ports own mask asked partitions group
questions_of_seen ports p own mask asked partitions (Some group) member = refl
questions_of_seen ports p own mask asked partitions None member =
    ap (λ free. founding_by ports own mask asked free) (has_free_seen ports p (base_of asked.p_key) member partitions)

pub questions_seen : (ports : List SubnetPort) (p : ℕ) (own : SubnetPort) (mask : ℕ) (asked : McMemberRecord) (partitions : List PartitionGroups)
    → is_member ports (base_of asked.p_key) p ≡ true
    → group_questions ports own mask asked (seen ports p partitions) (group_named (base_of asked.p_key) asked.mgid (seen ports p partitions))
    ≡ group_questions ports own mask asked partitions (group_named (base_of asked.p_key) asked.mgid partitions)
questions_seen ports p own mask asked partitions member =
    ap (group_questions ports own mask asked (seen ports p partitions)) (group_named_seen ports p (base_of asked.p_key) asked.mgid member partitions)
    ∙ questions_of_seen ports p own mask asked partitions (group_named (base_of asked.p_key) asked.mgid partitions) member

own_near : (ports : List SubnetPort) (p : ℕ) (m : Membership) → is_of p m ≡ true → is_near ports p m.port ≡ true
own_near ports p m e = or_left (m.port == p) (ports_share ports p m.port) e

member_of_seen : (ports : List SubnetPort) (own : SubnetPort) (base : ℕ) (group : Option MulticastGroup)
    → member_bytes own base (option_map (group_seen ports own.guid) group) ≡ member_bytes own base group
member_of_seen ports own base None = refl
member_of_seen ports own base (Some group) =
    ap (λ found. mc_member_record_bytes (record (group_record_of (record { base = base; group = group })) { port_gid = gid_of own.guid; join_state = bits_of_member found }))
    (find_within (is_of own.guid) (λ m. is_near ports own.guid m.port) (λ m e. own_near ports own.guid m e) group.memberships)

member_seen : (ports : List SubnetPort) (own : SubnetPort) (base mgid : ℕ) (partitions : List PartitionGroups) → is_member ports base own.guid ≡ true
    → member_bytes own base (group_named base mgid (seen ports own.guid partitions)) ≡ member_bytes own base (group_named base mgid partitions)
member_seen ports own base mgid partitions member =
    ap (member_bytes own base) (group_named_seen ports own.guid base mgid member partitions) ∙ member_of_seen ports own base (group_named base mgid partitions)

-- ---- whether a leave takes some bit of its port, by what is seen
abbrev taken_in : Leave → PartitionGroups → Bool
taken_in leave partition = list_any (λ group. list_any (is_taken_from leave partition.base group) group.memberships) partition.groups

taken_in_seen : (ports : List SubnetPort) (leave : Leave) (partition : PartitionGroups) → taken_in leave (partition_seen ports leave.port partition) ≡ taken_in leave partition
taken_in_seen ports leave partition =
    any_map_same (λ group. list_any (is_taken_from leave partition.base group) group.memberships) (λ group. list_any (is_taken_from leave partition.base group) group.memberships)
    (group_seen ports leave.port)
    (λ group. any_within (is_taken_from leave partition.base group) (λ m. is_near ports leave.port m.port)
    (λ m e. own_near ports leave.port m
    (and_parts (is_of leave.port m) _ (and_parts (is_left leave partition.base group m) (has_bit_of leave.join_state m.join_state) e).0).0) group.memberships)
    partition.groups

outside_not_taken : (ports : List SubnetPort) (leave : Leave) (partition : PartitionGroups) → is_member ports partition.base leave.port ≡ false
    → is_sound_partition ports partition ≡ true → taken_in leave partition ≡ false
outside_not_taken ports leave partition outside sound =
    none_passes (is_sound_group ports partition) (λ group. list_any (is_taken_from leave partition.base group) group.memberships)
    (λ group e. none_passes (is_sound_membership ports partition.base) (is_taken_from leave partition.base group)
    (λ m h. false_from_ne_true (is_taken_from leave partition.base group m) (λ taken.
    let its_own = (and_parts (is_of leave.port m) _ (and_parts (is_left leave partition.base group m) (has_bit_of leave.join_state m.join_state) taken).0).0 in
    both_ways (is_member ports partition.base leave.port) outside
    (ap (is_member ports partition.base) (sym (eqb-true m.port leave.port its_own)) ∙ (and_parts (is_member ports partition.base m.port) (is_joined m.join_state) h).0)))
    group.memberships (sound_parts ports partition group e).members) partition.groups (partition_parts ports partition sound).each

any_of_kept : {X : Type 0} (p test keep : X → Bool) → ((x : X) → p x ≡ true → keep x ≡ false → test x ≡ false) → (xs : List X) → list_all p xs ≡ true
    → list_any test (filter keep xs) ≡ list_any test xs
any_of_kept p test keep fails [] all = refl
any_of_kept p test keep fails (x ∷ xs) all =
    let parts = and_parts (p x) (list_all p xs) all in
    elim (cases_Bool (keep x)) [
      | inl here ↦ rw here (ap (λ rest. test x || rest) (any_of_kept p test keep fails xs parts.1))
      | inr out ↦ rw (out, fails x parts.0 out) (any_of_kept p test keep fails xs parts.1)
    ]

takes_seen : (ports : List SubnetPort) (leave : Leave) (partitions : List PartitionGroups) → is_sound ports partitions ≡ true
    → takes_some leave (seen ports leave.port partitions) ≡ takes_some leave partitions
takes_seen ports leave partitions sound =
    any_map_same (taken_in leave) (taken_in leave) (partition_seen ports leave.port) (λ x. taken_in_seen ports leave x) (filter (λ partition. is_member ports partition.base leave.port) partitions)
    ∙ any_of_kept (is_sound_partition ports) (taken_in leave) (λ partition. is_member ports partition.base leave.port)
    (λ x e outside. outside_not_taken ports leave x outside e) partitions sound

-- ---- the services of a port, by those that a rule keeps
pub kept_services : (keeps : PlaceRule) (ports : List SubnetPort) (p : ℕ) (change : ServiceChange) (places : List PortServices)
    → keeps ports p change.port change.base ≡ true
    → services_at change (kept_by keeps ports p places) ≡ services_at change places
kept_services keeps ports p change places kept =
    ap (flat_map (λ place. place.services)) (filter_within (is_place change) (λ place. keeps ports p place.port place.base)
    (λ place e. of_place keeps ports p change place e ∙ kept) places)

services_at_alike : (keeps : PlaceRule) → KeepsShown keeps → (ports : List SubnetPort) (own : SubnetPort) (asked : ServiceRecord) (deed : Deed)
    (s t : List PortServices) → kept_by keeps ports own.guid s ≡ kept_by keeps ports own.guid t
    → services_at (change_asked own asked deed) s ≡ services_at (change_asked own asked deed) t
services_at_alike keeps rule ports own asked deed s t same =
    let own_kept = rule.own ports own.guid (base_of asked.service_p_key) in
    sym (kept_services keeps ports own.guid (change_asked own asked deed) s own_kept)
    ∙ (ap (services_at (change_asked own asked deed)) same ∙ kept_services keeps ports own.guid (change_asked own asked deed) t own_kept)

-- ---- outcomes that are alike to the requester
abbrev Same : (SaState → SaState → Type 0) → Result Success MadStatus → Result Success MadStatus → Type 0
Same A (Err x) (Err y) = x ≡ y
Same A (Err x) (Ok (Success.one_reply c m)) = ⊥
Same A (Err x) (Ok (Success.whole_table q c)) = ⊥
Same A (Ok (Success.one_reply b n)) (Err y) = ⊥
Same A (Ok (Success.one_reply b n)) (Ok (Success.one_reply c m)) = (b ≡ c) × A n m
Same A (Ok (Success.one_reply b n)) (Ok (Success.whole_table q c)) = ⊥
Same A (Ok (Success.whole_table o b)) (Err y) = ⊥
Same A (Ok (Success.whole_table o b)) (Ok (Success.one_reply c m)) = ⊥
Same A (Ok (Success.whole_table o b)) (Ok (Success.whole_table q c)) = (o ≡ q) × (b ≡ c)

same_if : (A : SaState → SaState → Type 0) (test : Bool) (a b c d : Result Success MadStatus) → Same A a c → Same A b d
    → Same A (if test then a else b) (if test then c else d)
same_if A true a b c d first second = first
same_if A false a b c d first second = second

unless_same : (A : SaState → SaState → Type 0) (r q : Option MadStatus) (a b : Result Success MadStatus) → r ≡ q → Same A a b
    → Same A (unless_status r a) (unless_status q b)
unless_same A None None a b e same = same
unless_same A (Some x) (Some y) a b e same = let reported : x ≡ y = cc in reported
unless_same A None (Some y) a b e same = absurd (cc)
unless_same A (Some x) None a b e same = absurd (cc)

unless_then : (A : SaState → SaState → Type 0) (r : Option MadStatus) (a b : Result Success MadStatus) → (r ≡ None → Same A a b)
    → Same A (unless_status r a) (unless_status r b)
unless_then A None a b same = same refl
unless_then A (Some x) a b same = refl

none_refused : (question : Question) (questions : List Question) → first_refusal (question ∷ questions) ≡ None
    → (question.is_so ≡ false) × (first_refusal questions ≡ None)
none_refused question questions e = elim (cases_Bool question.is_so) [
  | inl so ↦ let reported : Some question.status ≡ None = rw so at e in absurd (cc)
  | inr not_so ↦ (not_so, rw not_so at e)
]

-- where none of the questions refuses, the one at each place is answered by no
abbrev pub is_so_at : ℕ → List Question → Bool
is_so_at n [] = false
is_so_at zero (question ∷ questions) = question.is_so
is_so_at (suc n) (question ∷ questions) = is_so_at n questions

pub none_so : (n : ℕ) (questions : List Question) → first_refusal questions ≡ None → is_so_at n questions ≡ false
none_so n [] e = refl
none_so zero (question ∷ questions) e = (none_refused question questions e).0
none_so (suc n) (question ∷ questions) e = none_so n questions (none_refused question questions e).1

pub unless_not : (b : Bool) → not b ≡ false → b ≡ true
unless_not true e = refl
unless_not false e = absurd (cc)

one_same : (A : SaState → SaState → Type 0) (s t : SaState) (r q : Result Entry MadStatus) → r ≡ q → A s t → Same A (one_record s r) (one_record t q)
one_same A s t (Ok x) (Ok y) e same = let entry : x ≡ y = cc in (ap (λ z. record_bytes z.shown) entry, same)
one_same A s t (Err x) (Err y) e same = let reported : x ≡ y = cc in reported
one_same A s t (Ok x) (Err y) e same = absurd (cc)
one_same A s t (Err x) (Ok y) e same = absurd (cc)

all_same : (A : SaState → SaState → Type 0) (query : Query) (r q : Result (List Entry) MadStatus) → r ≡ q → Same A (all_records query r) (all_records query q)
all_same A query (Ok xs) (Ok ys) e = let entries : xs ≡ ys = cc in (refl, ap (flat_map (λ entry. record_bytes entry.shown)) entries)
all_same A query (Err x) (Err y) e = let reported : x ≡ y = cc in reported
all_same A query (Ok xs) (Err y) e = absurd (cc)
all_same A query (Err x) (Ok ys) e = absurd (cc)

-- ---- a table that a port opens, or that closes
pub own_place : (p : ℕ) (table : Option Transfer) (transfers : List PortTransfer)
    → table_place p (with_table p table transfers) ≡ option_map (λ place. record { port = p; open_table = table }) (table_place p transfers)
own_place p table [] = refl
own_place p table (x ∷ xs) = elim (cases_Bool (x.port == p)) [
  | inl this ↦ rw (this, eq-eqb p p refl) refl
  | inr other ↦ rw (other, other) (own_place p table xs)
]

with_table_alike : (p : ℕ) (table : Option Transfer) (s t : List PortTransfer) → table_place p s ≡ table_place p t
    → table_place p (with_table p table s) ≡ table_place p (with_table p table t)
with_table_alike p table s t same =
    own_place p table s ∙ (ap (option_map (λ place. record { port = p; open_table = table })) same ∙ sym (own_place p table t))

-- ---- each request
pub join_is_in : (own : SubnetPort) (mask : ℕ) (asked : McMemberRecord) → first_refusal (join_questions own mask asked) ≡ None
    → is_in own (base_of asked.p_key) ≡ true
join_is_in own mask asked e = unless_not (is_in own (base_of asked.p_key)) (none_so 3 (join_questions own mask asked) e)

pub record Alikes (sight : ServiceSight) (ports : List SubnetPort) (own : SubnetPort) (s t : SaState) : Type 0 where
  pub found : port_with_guid ports own.guid ≡ Some own
  pub left_sound : is_sound ports s.partitions ≡ true
  pub right_sound : is_sound ports t.partitions ≡ true
  pub same : SeesSame sight ports own.guid s t

-- ---- whatever of services the rule keeps, if it keeps what is shown
module _ (keeps : PlaceRule) (rule : KeepsShown keeps) where
  shown_same : (ports : List SubnetPort) (p : ℕ) (s t : SaState) → SeesSame (kept_by keeps) ports p s t → SeesSame services_seen ports p s t
  shown_same ports p s t same = record { groups = same.groups; services = rule.shown ports p s.services t.services same.services }

  get_same : (ports : List SubnetPort) (own : SubnetPort) (s t : SaState) (query : Option Query) → Alikes (kept_by keeps) ports own s t
      → Same (SeesSame (kept_by keeps) ports own.guid) (get_outcome ports own s query) (get_outcome ports own t query)
  get_same ports own s t (Some query) a =
      one_same (SeesSame (kept_by keeps) ports own.guid) s t (got ports own s query) (got ports own t query) (queries_end_alike ports own s t query a.found (shown_same ports own.guid s t a.same)).got a.same
  get_same ports own s t None a = refl

  table_same : (ports : List SubnetPort) (own : SubnetPort) (s t : SaState) (query : Option Query) → Alikes (kept_by keeps) ports own s t
      → Same (SeesSame (kept_by keeps) ports own.guid) (table_outcome ports own s query) (table_outcome ports own t query)
  table_same ports own s t (Some query) a =
      all_same (SeesSame (kept_by keeps) ports own.guid) query (table ports own s query) (table ports own t query) (queries_end_alike ports own s t query a.found (shown_same ports own.guid s t a.same)).table
  table_same ports own s t None a = refl

  groups_alike : (ports : List SubnetPort) (own : SubnetPort) (s t : SaState) → Alikes (kept_by keeps) ports own s t → Alike ports own.guid s.partitions t.partitions
  groups_alike ports own s t a = record { left_sound = a.left_sound; right_sound = a.right_sound; same = a.same.groups }

  join_same : (ports : List SubnetPort) (own : SubnetPort) (s t : SaState) (mask : ℕ) (asked : McMemberRecord) → Alikes (kept_by keeps) ports own s t
      → Same (SeesSame (kept_by keeps) ports own.guid) (join_outcome ports own s mask asked) (join_outcome ports own t mask asked)
  join_same ports own s t mask asked a =
      let join = join_asked own mask asked in
      let base = base_of asked.p_key in
      let after = near_join ports own.guid join s.partitions t.partitions (or_left (own.guid == own.guid) (ports_share ports own.guid own.guid) (eq-eqb own.guid own.guid refl)) (groups_alike ports own s t a) in
      unless_then (SeesSame (kept_by keeps) ports own.guid) (first_refusal (join_questions own mask asked)) _ _ (λ e.
      let member = member_if_in ports own base a.found (join_is_in own mask asked e) in
      unless_same (SeesSame (kept_by keeps) ports own.guid) (join_refusal ports own mask asked s.partitions) (join_refusal ports own mask asked t.partitions) (Ok (join_done own join (after_join ports join s))) (Ok (join_done own join (after_join ports join t)))
      (ap first_refusal (sym (questions_seen ports own.guid own mask asked s.partitions member)
      ∙ (ap (λ seen_ones. group_questions ports own mask asked seen_ones (group_named base asked.mgid seen_ones)) a.same.groups
      ∙ questions_seen ports own.guid own mask asked t.partitions member))) (
        sym (member_seen ports own base asked.mgid (joined ports join s.partitions) member)
            ∙ (ap (λ seen_ones. member_bytes own base (group_named base asked.mgid seen_ones)) after.same
            ∙ member_seen ports own base asked.mgid (joined ports join t.partitions) member),
        record { groups = after.same; services = a.same.services },
      ))

  leave_same : (ports : List SubnetPort) (own : SubnetPort) (s t : SaState) (mask : ℕ) (asked : McMemberRecord) (content : List ℕ) → Alikes (kept_by keeps) ports own s t
      → Same (SeesSame (kept_by keeps) ports own.guid) (leave_outcome ports own s mask asked content) (leave_outcome ports own t mask asked content)
  leave_same ports own s t mask asked content a =
      let leave = leave_asked own mask asked in
      let takes : takes_some leave s.partitions ≡ takes_some leave t.partitions =
      sym (takes_seen ports leave s.partitions a.left_sound) ∙ (ap (takes_some leave) a.same.groups ∙ takes_seen ports leave t.partitions a.right_sound) in
      unless_same (SeesSame (kept_by keeps) ports own.guid) (first_refusal (leave_questions own s mask asked)) (first_refusal (leave_questions own t mask asked)) _ _
      (ap (λ some. first_refusal (leaving_by own mask asked some)) takes)
      (refl, record { groups = (near_leave ports own.guid leave s.partitions t.partitions (groups_alike ports own s t a)).same; services = a.same.services })

  set_same : (ports : List SubnetPort) (own : SubnetPort) (s t : SaState) (mask : ℕ) (asked : ServiceRecord) → Alikes (kept_by keeps) ports own s t
      → Same (SeesSame (kept_by keeps) ports own.guid) (service_set own s mask asked) (service_set own t mask asked)
  set_same ports own s t mask asked a =
      let service = service_asked mask asked in
      let change = change_asked own asked (Deed.sets service) in
      unless_same (SeesSame (kept_by keeps) ports own.guid) (first_refusal (owner_questions own mask asked)) (first_refusal (owner_questions own mask asked)) _ _ refl
      (unless_same (SeesSame (kept_by keeps) ports own.guid) _ _ _ _
      (ap (λ services. first_refusal (refused_if (not (has_room service.service_id services)) NoResources ∷ []))
      (services_at_alike keeps rule ports own asked (Deed.sets service) s.services t.services a.same.services))
      (refl, record { groups = a.same.groups; services = stays_alike keeps ports own.guid s.services t.services change a.same.services }))

  delete_same : (ports : List SubnetPort) (own : SubnetPort) (s t : SaState) (mask : ℕ) (asked : ServiceRecord) (content : List ℕ) → Alikes (kept_by keeps) ports own s t
      → Same (SeesSame (kept_by keeps) ports own.guid) (service_deleted own s mask asked content) (service_deleted own t mask asked content)
  delete_same ports own s t mask asked content a =
      let change = change_asked own asked (Deed.deletes asked.service_id) in
      unless_same (SeesSame (kept_by keeps) ports own.guid) (first_refusal (owner_questions own mask asked)) (first_refusal (owner_questions own mask asked)) _ _ refl
      (unless_same (SeesSame (kept_by keeps) ports own.guid) _ _ _ _
      (ap (λ services. first_refusal (refused_if (not (list_any (has_id asked.service_id) services)) NoRecords ∷ []))
      (services_at_alike keeps rule ports own asked (Deed.deletes asked.service_id) s.services t.services a.same.services))
      (refl, record { groups = a.same.groups; services = stays_alike keeps ports own.guid s.services t.services change a.same.services }))

  set_or_refused_same : (ports : List SubnetPort) (own : SubnetPort) (s t : SaState) (request : Request) → Alikes (kept_by keeps) ports own s t
      → Same (SeesSame (kept_by keeps) ports own.guid) (set_or_refused ports own s request) (set_or_refused ports own t request)
  set_or_refused_same ports own s t request a =
      same_if (SeesSame (kept_by keeps) ports own.guid) (is_about sa_attribute.McMemberRecord request) _ _ _ _
      (join_same ports own s t request.component_mask (group_in request.content) a)
      (same_if (SeesSame (kept_by keeps) ports own.guid) (is_about sa_attribute.ServiceRecord request) _ _ _ _
      (set_same ports own s t request.component_mask (service_in request.content) a) refl)

  delete_or_refused_same : (ports : List SubnetPort) (own : SubnetPort) (s t : SaState) (request : Request) → Alikes (kept_by keeps) ports own s t
      → Same (SeesSame (kept_by keeps) ports own.guid) (delete_or_refused ports own s request) (delete_or_refused ports own t request)
  delete_or_refused_same ports own s t request a =
      same_if (SeesSame (kept_by keeps) ports own.guid) (is_about sa_attribute.McMemberRecord request) _ _ _ _
      (leave_same ports own s t request.component_mask (group_in request.content) request.content a)
      (same_if (SeesSame (kept_by keeps) ports own.guid) (is_about sa_attribute.ServiceRecord request) _ _ _ _
      (delete_same ports own s t request.component_mask (service_in request.content) request.content a) refl)

  outcome_same : (ports : List SubnetPort) (own : SubnetPort) (s t : SaState) (request : Request) → Alikes (kept_by keeps) ports own s t
      → Same (SeesSame (kept_by keeps) ports own.guid) (outcome ports own s request) (outcome ports own t request)
  outcome_same ports own s t request a =
      same_if (SeesSame (kept_by keeps) ports own.guid) (request.header.method == method_code Get) _ _ _ _ (get_same ports own s t (query_of request) a)
      (same_if (SeesSame (kept_by keeps) ports own.guid) (request.header.method == method_code GetTable) _ _ _ _ (table_same ports own s t (query_of request) a)
      (same_if (SeesSame (kept_by keeps) ports own.guid) (request.header.method == method_code Set) _ _ _ _ (set_or_refused_same ports own s t request a)
      (same_if (SeesSame (kept_by keeps) ports own.guid) (request.header.method == method_code Delete) _ _ _ _ (delete_or_refused_same ports own s t request a) refl)))

  -- ---- and so is it answered
  abbrev Reported : List SubnetPort → ℕ → Answered → Answered → Type 0
  Reported ports p a b = (a.0 ≡ b.0) × SeesAlike (kept_by keeps) ports p a.1 b.1

  reported_if : (ports : List SubnetPort) (p : ℕ) (test : Bool) (a b c d : Answered) → Reported ports p a c → Reported ports p b d
      → Reported ports p (if test then a else b) (if test then c else d)
  reported_if ports p true a b c d first second = first
  reported_if ports p false a b c d first second = second

  reported_same : (ports : List SubnetPort) (own : SubnetPort) (request : Request) (s t : Administration) (r q : Result Success MadStatus) → SeesAlike (kept_by keeps) ports own.guid s t
      → Same (SeesSame (kept_by keeps) ports own.guid) r q → Reported ports own.guid (answered_with own request s r) (answered_with own request t q)
  reported_same ports own request s t (Err x) (Err y) same e = (ap (λ status. refusal_reply request status ∷ []) e, same)
  reported_same ports own request s t (Err x) (Ok (Success.one_reply c m)) same e = absurd e
  reported_same ports own request s t (Err x) (Ok (Success.whole_table o c)) same e = absurd e
  reported_same ports own request s t (Ok (Success.one_reply b n)) (Err y) same e = absurd e
  reported_same ports own request s t (Ok (Success.one_reply b n)) (Ok (Success.one_reply c m)) same e =
      (ap (λ bytes. reply request bytes ∷ []) e.0, record { remembered = e.1; own_table = same.own_table })
  reported_same ports own request s t (Ok (Success.one_reply b n)) (Ok (Success.whole_table o c)) same e = absurd e
  reported_same ports own request s t (Ok (Success.whole_table o b)) (Err y) same e = absurd e
  reported_same ports own request s t (Ok (Success.whole_table o b)) (Ok (Success.one_reply c m)) same e = absurd e
  reported_same ports own request s t (Ok (Success.whole_table o b)) (Ok (Success.whole_table q c)) same e =
      let opened_same : opened (table_header request o) b ≡ opened (table_header request q) c =
      ap (λ offset. opened (table_header request offset) b) e.0 ∙ ap (λ bytes. opened (table_header request q) bytes) e.1 in (
        ap (λ table. segment_mad table 1 ∷ []) opened_same,
        record {
          remembered = same.remembered;
          own_table = with_table_alike own.guid (Some (opened (table_header request o) b)) s.transfers t.transfers same.own_table
              ∙ ap (λ table. table_place own.guid (with_table own.guid (Some table) t.transfers)) opened_same;
        },
      )

  rmpp_same : (ports : List SubnetPort) (own : SubnetPort) (request : Request) (s t : Administration) → SeesAlike (kept_by keeps) ports own.guid s t
      → Reported ports own.guid (after_rmpp own s (on_rmpp request (table_of own.guid s.transfers))) (after_rmpp own t (on_rmpp request (table_of own.guid t.transfers)))
  rmpp_same ports own request s t same =
      let answers : on_rmpp request (table_of own.guid s.transfers) ≡ on_rmpp request (table_of own.guid t.transfers) =
      ap (λ place. on_rmpp request (table_at place)) same.own_table in (
        ap (λ answered. answered.0) answers,
        record {
          remembered = same.remembered;
          own_table = with_table_alike own.guid (on_rmpp request (table_of own.guid s.transfers)).1 s.transfers t.transfers same.own_table
              ∙ ap (λ answered. table_place own.guid (with_table own.guid answered.1 t.transfers)) answers;
        },
      )

  answer_to_same : (ports : List SubnetPort) (own : SubnetPort) (request : Request) (s t : Administration) → SeesAlike (kept_by keeps) ports own.guid s t
      → Alikes (kept_by keeps) ports own s.remembered t.remembered → Reported ports own.guid (answer_to ports own request s) (answer_to ports own request t)
  answer_to_same ports own request s t same a =
      reported_if ports own.guid (not (has_versions request.header)) _ _ _ _ (refl, same)
      (reported_if ports own.guid (bit_and request.rmpp.flags 1 == 1) _ _ _ _ (rmpp_same ports own request s t same)
      (reported_if ports own.guid (is_response request.header) _ _ _ _ (refl, same)
      (reported_same ports own request s t (outcome ports own s.remembered request) (outcome ports own t.remembered request) same
      (outcome_same ports own s.remembered t.remembered request a))))

  answer_same : (ports : List SubnetPort) (own : SubnetPort) (payload : List ℕ) (s t : Administration) → SeesAlike (kept_by keeps) ports own.guid s t
      → Alikes (kept_by keeps) ports own s.remembered t.remembered → Reported ports own.guid (answer ports own payload s) (answer ports own payload t)
  answer_same ports own payload s t same a =
      reported_if ports own.guid ((length payload == 256) && (field payload 8 8 == 3)) _ _ _ _ (answer_to_same ports own (request_in payload) s t same a) (refl, same)

  pub answered_alike : RequestersAreAnsweredAlikeBy (kept_by keeps)
  answered_alike ports own payload s t found left_sound right_sound same =
      let both = answer_same ports own payload s t same
      (record { found = found; left_sound = left_sound; right_sound = right_sound; same = same.remembered }) in
      record { mads = both.0; after = both.1 }

pub requesters_alike : RequestersAreAnsweredAlike
requesters_alike = record { shown = answered_alike shown_place shown_keeps_shown; near = answered_alike near_place near_keeps_shown }
