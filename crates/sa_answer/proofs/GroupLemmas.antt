-- Groups of partitions, as they are gone through: what is passed over does not agree, and what a slot more brings.
use Rattle.std.proofs.Common.{◌≡◌, ℕ, ◌+◌, ◌^◌, ◌<◌, ◌≤◌, ◌==◌, Bool, true, false, not, ◌&&◌, ◌||◌, bit_and, nat_le, nat_lt, List, [], ◌∷◌, ◌++◌, length, map, drop, get_or, Option, Some, None, refl, sym, ◌∙◌, ap, inl, inr, arith}
use Rattle.std.specs.List.{flat_map}
use Rattle.std.proofs.lemmas.Bool.{and_parts, and_right, cases_Bool, false≢true, le-leb, lt-ltb, ltb-true, ne_eqb}
use Rattle.std.proofs.lemmas.List.{drop_more, map-append}
use Rattle.std.proofs.lemmas.List.Elements.{filter-append}
use Rattle.pkey_rules.specs.PKey.{key_of}
use Rattle.pkey_rules.specs.KeyTable.{same_base}
use Rattle.sa_records.specs.Component.{on, passes}
use Rattle.sa_records.specs.McMemberRecord.{mc_member_record_selected}
use Rattle.sa_records.specs.declared.mc_member_record.McMemberRecord.{McMemberRecord}
use Rattle.subnet_model.specs.declared.subnet_port.SubnetPort.{SubnetPort}
use Rattle.sa_model.specs.Groups.{GroupParameters, PartitionGroups, first_mlid}
use Rattle.sa_model.specs.Members.{is_in}
use Rattle.sa_model.specs.Sound.{is_in_range}
use Rattle.sa_model.specs.Selected.{groups_selected}
use Rattle.sa_model.specs.Shown.{group_entry, group_record_of}
use Rattle.sa_model.specs.Visible.{GroupOfBase, groups_of, visible_groups}
use Rattle.sa_replies.specs.State.{is_fit_group}
use Rattle.sa_answer.specs.Taken.{bytes_of}
use Rattle.sa_answer.proofs.TakenLemmas.{bytes_are, flat_reported}
use Rattle.sa_answer.specs.Groups.{group_bytes, group_of, groups_agreeing, groups_shown, groups_reported, is_named, is_searched}
use Rattle.sa_store.specs.MlidRange.{SlotGroup, groups_in, partition_in, with_mlid}
use Rattle.sa_store.proofs.SlotLemmas.{groups_joined}

-- ---- what is fixed for a group fits the fields of its record
pub record IsNarrow (parameters : GroupParameters) : Type 0 where
  pub mtu : parameters.mtu < 64
  pub rate : parameters.rate < 64
  pub life : parameters.packet_life_time < 64
  pub level : parameters.service_level < 16
  pub flow : parameters.flow_label < 2 ^ 20
  pub scope : parameters.scope < 16

pub narrow : (parameters : GroupParameters) → is_fit_group parameters ≡ true → IsNarrow parameters
narrow parameters fit =
    let mtu = and_parts (nat_lt parameters.mtu 64) _ fit in
    let rate = and_parts (nat_lt parameters.rate 64) _ mtu.1 in
    let life = and_parts (nat_lt parameters.packet_life_time 64) _ rate.1 in
    let level = and_parts (nat_lt parameters.service_level 16) _ life.1 in
    let flow = and_parts (nat_lt parameters.flow_label (2 ^ 20)) _ level.1 in
    record {
      mtu = ltb-true parameters.mtu 64 mtu.0;
      rate = ltb-true parameters.rate 64 rate.0;
      life = ltb-true parameters.packet_life_time 64 life.0;
      level = ltb-true parameters.service_level 16 level.0;
      flow = ltb-true parameters.flow_label (2 ^ 20) flow.0;
      scope = ltb-true parameters.scope 16 flow.1;
    }

-- ---- a group that is passed over does not agree
abbrev pub agrees : ℕ → McMemberRecord → GroupOfBase → Bool
agrees mask asked one = mc_member_record_selected mask (group_record_of one) asked

and_fourth : (a b c d : Bool) → (a && (b && (c && (false && d)))) ≡ false
and_fourth a b c d = and_right a _ (and_right b _ (and_right c _ refl))

and_seventh : (a b c d e f g : Bool) → (a && (b && (c && (d && (e && (f && (false && g))))))) ≡ false
and_seventh a b c d e f g = and_right a _ (and_right b _ (and_right c _ (and_right d _ (and_right e _ (and_right f _ refl)))))

other_mgid : (mask : ℕ) (asked : McMemberRecord) (one : GroupOfBase) → passes mask (on 1 (one.group.mgid == asked.mgid)) ≡ false → agrees mask asked one ≡ false
unfolding mc_member_record_selected
other_mgid mask asked one other = rw other refl

other_mlid : (mask : ℕ) (asked : McMemberRecord) (one : GroupOfBase) → passes mask (on 8 (one.group.mlid == asked.mlid)) ≡ false → agrees mask asked one ≡ false
unfolding mc_member_record_selected
other_mlid mask asked one other = rw other (search and_fourth)

other_key : (mask : ℕ) (asked : McMemberRecord) (one : GroupOfBase) → passes mask (on 128 (same_base (key_of one.base true) asked.p_key)) ≡ false
    → agrees mask asked one ≡ false
unfolding mc_member_record_selected
other_key mask asked one other = rw other (search and_seventh)

-- ---- nor does what is in a slot or in a partition that is passed over
pub not_named : (mask : ℕ) (asked : McMemberRecord) (base mlid : ℕ) (slot : Option SlotGroup) → is_named mask asked mlid slot ≡ false
    → groups_agreeing mask asked base mlid (slot ∷ []) ≡ []
not_named mask asked base mlid None other = refl
not_named mask asked base mlid (Some group) other =
    let one = group_of base (with_mlid mlid group) in
    elim (cases_Bool (passes mask (on 1 (group.mgid == asked.mgid)))) [
      | inl same ↦ let differs : agrees mask asked one ≡ false = other_mlid mask asked one (rw same at other) in rw differs refl
      | inr apart ↦ let differs : agrees mask asked one ≡ false = other_mgid mask asked one apart in rw differs refl
    ]

none_of_key : (mask : ℕ) (asked : McMemberRecord) (base mlid : ℕ) (slots : List (Option SlotGroup))
    → passes mask (on 128 (same_base (key_of base true) asked.p_key)) ≡ false → groups_agreeing mask asked base mlid slots ≡ []
none_of_key mask asked base mlid [] other = refl
none_of_key mask asked base mlid (None ∷ slots) other = none_of_key mask asked base (mlid + 1) slots other
none_of_key mask asked base mlid (Some group ∷ slots) other =
    let differs : agrees mask asked (group_of base (with_mlid mlid group)) ≡ false = other_key mask asked (group_of base (with_mlid mlid group)) other in
    rw differs (none_of_key mask asked base (mlid + 1) slots other)

asked_parts : (a b : Bool) → (not a || b) ≡ false → (a ≡ true) × (b ≡ false)
asked_parts true b h = (refl, h)
asked_parts false b h = absurd (cc)

none_of_mlid : (mask : ℕ) (asked : McMemberRecord) (base mlid : ℕ) (slots : List (Option SlotGroup))
    → ((n : ℕ) → mlid ≤ n → n < mlid + length slots → passes mask (on 8 (n == asked.mlid)) ≡ false) → groups_agreeing mask asked base mlid slots ≡ []
none_of_mlid mask asked base mlid [] apart = refl
none_of_mlid mask asked base mlid (None ∷ slots) apart =
    none_of_mlid mask asked base (mlid + 1) slots (λ n above below. apart n (omega arith) (omega arith))
none_of_mlid mask asked base mlid (Some group ∷ slots) apart =
    let differs : agrees mask asked (group_of base (with_mlid mlid group)) ≡ false =
    other_mlid mask asked (group_of base (with_mlid mlid group)) (apart mlid (omega arith) (omega arith)) in
    rw differs (none_of_mlid mask asked base (mlid + 1) slots (λ n above below. apart n (omega arith) (omega arith)))

none_in_range : (mask : ℕ) (asked : McMemberRecord) (number base : ℕ) (slots : List (Option SlotGroup)) → length slots ≡ 32
    → passes mask (on 8 (is_in_range number asked.mlid)) ≡ false → groups_agreeing mask asked base (first_mlid number) slots ≡ []
none_in_range mask asked number base slots all other =
    let parts = asked_parts (bit_and mask 8 == 8) (is_in_range number asked.mlid) other in
    none_of_mlid mask asked base (first_mlid number) slots (λ n above below.
    let apart : (n == asked.mlid) ≡ false = ne_eqb n asked.mlid (λ same. absurd (
    let low : nat_le (first_mlid number) asked.mlid ≡ true = le-leb (first_mlid number) asked.mlid (omega (arith, same, above)) in
    let high : nat_lt asked.mlid (first_mlid number + 32) ≡ true = lt-ltb asked.mlid (first_mlid number + 32) (omega (arith, same, below, all)) in
    false≢true (sym parts.1 ∙ rw (low, high) refl))) in
    rw (parts.0, apart) refl)

slots_are : (mask : ℕ) (asked : McMemberRecord) (partition : PartitionGroups) (slots : List (Option SlotGroup))
    → partition ≡ partition_in partition.number partition.base slots
    → groups_selected mask asked (groups_of partition) ≡ groups_agreeing mask asked partition.base (first_mlid partition.number) slots
slots_are mask asked partition slots is = ap (λ (one : PartitionGroups). groups_selected mask asked (map (group_of partition.base) one.groups)) is

pub searched : (own : SubnetPort) (mask : ℕ) (asked : McMemberRecord) (partition : PartitionGroups) (slots : List (Option SlotGroup))
    → partition ≡ partition_in partition.number partition.base slots → is_searched own mask asked partition ≡ true
    → groups_shown own mask asked partition ≡ groups_agreeing mask asked partition.base (first_mlid partition.number) slots
searched own mask asked partition slots is so =
    let rest = and_parts (passes mask (on 128 (same_base (key_of partition.base true) asked.p_key))) _ so in
    let member = and_parts (passes mask (on 8 (is_in_range partition.number asked.mlid))) (is_in own partition.base) rest.1 in
    rw member.1 (slots_are mask asked partition slots is)

pub not_searched : (own : SubnetPort) (mask : ℕ) (asked : McMemberRecord) (partition : PartitionGroups) (slots : List (Option SlotGroup))
    → partition ≡ partition_in partition.number partition.base slots → length slots ≡ 32 → is_searched own mask asked partition ≡ false
    → groups_shown own mask asked partition ≡ []
not_searched own mask asked partition slots is all not_so = elim (cases_Bool (is_in own partition.base)) [
  | inr foreign ↦ rw foreign refl
  | inl member ↦ elim (cases_Bool (passes mask (on 128 (same_base (key_of partition.base true) asked.p_key)))) [
    | inr other ↦ rw member (slots_are mask asked partition slots is ∙ none_of_key mask asked partition.base (first_mlid partition.number) slots other)
    | inl same ↦
        let apart : passes mask (on 8 (is_in_range partition.number asked.mlid)) ≡ false = only_second _ (rw (same, member) at not_so) in
        rw member (slots_are mask asked partition slots is ∙ none_in_range mask asked partition.number partition.base slots all apart)
  ]
]
  where
    only_second : (a : Bool) → a && true ≡ false → a ≡ false
    only_second true h = h
    only_second false h = refl

-- ---- one slot more
agreeing_joined : (mask : ℕ) (asked : McMemberRecord) (base mlid next : ℕ) (xs ys : List (Option SlotGroup)) → next ≡ mlid + length xs
    → groups_agreeing mask asked base mlid (xs ++ ys) ≡ groups_agreeing mask asked base mlid xs ++ groups_agreeing mask asked base next ys
agreeing_joined mask asked base mlid next xs ys is =
    ap (λ groups. groups_selected mask asked (map (group_of base) groups)) (groups_joined mlid next xs ys is)
    ∙ (ap (groups_selected mask asked) (map-append (group_of base) (groups_in mlid xs) (groups_in next ys))
    ∙ filter-append (agrees mask asked) (map (group_of base) (groups_in mlid xs)) (map (group_of base) (groups_in next ys)))

-- what is left from a slot on
pub slot_next : (mask : ℕ) (asked : McMemberRecord) (base mlid : ℕ) (slots : List (Option SlotGroup)) (i : ℕ) (slot : Option SlotGroup) (here : List (List ℕ))
    → i < length slots → slot ≡ get_or slots i slot → map group_bytes (groups_agreeing mask asked base (mlid + i) (slot ∷ [])) ≡ here
    → map group_bytes (groups_agreeing mask asked base (mlid + i) (drop i slots))
    ≡ here ++ map group_bytes (groups_agreeing mask asked base (mlid + (i + 1)) (drop (i + 1) slots))
slot_next mask asked base mlid slots i slot here within is reported =
    ap (λ some. map group_bytes (groups_agreeing mask asked base (mlid + i) some))
    (drop_more slots i slot within ∙ ap (λ (one : Option SlotGroup). one ∷ drop (i + 1) slots) (sym is))
    ∙ (ap (map group_bytes) (agreeing_joined mask asked base (mlid + i) (mlid + (i + 1)) (slot ∷ []) (drop (i + 1) slots) (omega arith))
    ∙ (map-append group_bytes (groups_agreeing mask asked base (mlid + i) (slot ∷ [])) (groups_agreeing mask asked base (mlid + (i + 1)) (drop (i + 1) slots))
    ∙ ap (λ (some : List (List ℕ)). some ++ map group_bytes (groups_agreeing mask asked base (mlid + (i + 1)) (drop (i + 1) slots))) reported))

-- what shows nothing is nothing
pub nothing_reported : (groups : List GroupOfBase) → [] ≡ map group_bytes groups → groups ≡ []
nothing_reported [] h = refl
nothing_reported (one ∷ groups) h = absurd (cc)

-- ---- what is shown partition by partition is what is visible of all
pub shown_is : (own : SubnetPort) (mask : ℕ) (asked : McMemberRecord) (partitions : List PartitionGroups)
    → flat_map (groups_shown own mask asked) partitions ≡ groups_selected mask asked (visible_groups own partitions)
shown_is own mask asked [] = refl
shown_is own mask asked (partition ∷ partitions) =
    let rest = shown_is own mask asked partitions in
    elim (cases_Bool (is_in own partition.base)) [
      | inl member ↦
          rw member
          (ap (λ (more : List GroupOfBase). groups_selected mask asked (groups_of partition) ++ more) rest
          ∙ sym (filter-append (agrees mask asked) (groups_of partition) (visible_groups own partitions)))
      | inr foreign ↦ rw foreign rest
    ]

pub groups_are : (own : SubnetPort) (mask : ℕ) (asked : McMemberRecord) (partitions : List PartitionGroups)
    → flat_map (groups_reported own mask asked) partitions ≡ bytes_of (map group_entry (groups_selected mask asked (visible_groups own partitions)))
groups_are own mask asked partitions =
    flat_reported group_bytes (groups_shown own mask asked) partitions
    ∙ (ap (map group_bytes) (shown_is own mask asked partitions) ∙ sym (bytes_are group_entry (groups_selected mask asked (visible_groups own partitions))))
