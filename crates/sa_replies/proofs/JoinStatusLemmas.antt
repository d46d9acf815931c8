-- A join is refused by the first reason that holds.
use Rattle.std.proofs.Common.{ℕ, ◌≡◌, ◌∙◌, ◌+◌, ◌==◌, ◌&&◌, ◌||◌, Bool, true, false, not, nat_lt, if◌then◌else◌, bit_and, bit_or, is_none, List, [], ◌∷◌, ◌++◌, filter, find, map, Option, Some, None, Ok, ap, refl, sym, inl, inr, arith, nat_eq}
use Rattle.std.specs.Int.Bits.{and_zero_r}
use Rattle.std.specs.List.{IsDistinct, flat_map, list_all, list_any}
use Rattle.std.proofs.Math.Bool.{or_comm}
use Rattle.std.proofs.lemmas.Bool.{cases_Bool, and_parts, both_ways, eqb-true, false_from_ne_true}
use Rattle.std.proofs.lemmas.List.{append-nil}
use Rattle.std.proofs.lemmas.List.Elements.{filter-append}
use Rattle.step_results.proofs.ListLemmas.{found_passes as found_by}
use Rattle.subnet_model.proofs.IsolationLemmas.{found_in}
use Rattle.std.proofs.lemmas.Bool.Decides.{nat_tests}
use Rattle.std.proofs.lemmas.List.Folds.{list_any-append}
use Rattle.std.proofs.lemmas.Nat.{and_assoc}
use Rattle.step_results.proofs.BoolLemmas.{or_false}
use Rattle.mad_layout.specs.Method.{method_code}
use Rattle.mad_layout.specs.declared.method.Method.TheVariants.{Set}
use Rattle.pkey_rules.specs.KeyTable.{same_base}
use Rattle.pkey_rules.specs.PKey.{base_of}
use Rattle.sa_records.specs.Component.{Component, on, passes, same_bit, satisfies}
use Rattle.sa_records.specs.McMemberMask as member_mask
use Rattle.sa_records.specs.McMemberRecord.{group_in, mc_member_record_selected}
use Rattle.sa_records.specs.Speed.{rate_satisfies}
use Rattle.sa_records.specs.declared.mc_member_record.McMemberRecord.{McMemberRecord}
use Rattle.sa_records.specs.declared.sa_attribute.SaAttribute.TheVariants as sa_attribute
use Rattle.subnet_model.specs.declared.subnet_port.SubnetPort.{SubnetPort}
use Rattle.sa_model.specs.Anchor.{free_mlid, mlid_range}
use Rattle.sa_model.specs.FreeMlid.{has_mlid}
use Rattle.sa_model.specs.Groups.{MulticastGroup, PartitionGroups}
use Rattle.sa_model.specs.Joining.{has_mgid}
use Rattle.sa_model.specs.Members.{is_full_member, is_in}
use Rattle.sa_model.specs.Sound.{is_sound, is_sound_partition}
use Rattle.sa_model.proofs.ReceiverLemmas.{any_alike}
use Rattle.sa_model.proofs.SoundLemmas.{partition_parts}
use Rattle.sa_model.specs.Gid.{gid_of}
use Rattle.sa_model.specs.Outcome.{unless_status}
use Rattle.sa_model.specs.Refusals.{asks_unknown_mtu, asks_unknown_rate, is_mtu_code, is_rate_code}
use Rattle.sa_model.specs.Selected.{asks}
use Rattle.sa_model.specs.Shown.{group_record_of}
use Rattle.sa_model.specs.Visible.{SaState}
use Rattle.sa_replies.specs.Answer.{answer}
use Rattle.sa_replies.specs.Joins.{after_join, agrees_with, compared, group_named, group_questions, has_free_mlid, is_join_state, is_multicast, join_asked, join_done, join_outcome, join_questions, join_refusal, join_state_of}
use Rattle.sa_replies.specs.Request.{has_versions, is_about, request_in}
use Rattle.sa_replies.specs.Taken.{life_fits, mtu_fits, our_life_times, our_mtus, our_rates, rate_fits}
use Rattle.sa_replies.specs.GroupReasons.{disagrees, is_full, none_fits, parameters_compared, reasons_by_group, reasons_of_join, reasons_to_join}
use Rattle.sa_replies.specs.Reasons.{Reason, lacks, names_unknown, status_by}
use Rattle.sa_replies.specs.Refused.{IsRefusedBy, is_join}
use Rattle.sa_replies.specs.Registrations.{groups_at, has_base, is_some, is_there, partitions_at}
use Rattle.sa_replies.proofs.AcceptedLemmas.{outcome_of_join}
use Rattle.sa_replies.proofs.NamedLemmas.{asks_part}
use Rattle.sa_replies.proofs.EnteredLemmas.{found_none, named_in, some_partition}
use Rattle.sa_replies.proofs.OneLemmas.{filter_none, found_has, one_group, one_partition, own_bases}
use Rattle.sa_replies.proofs.StatusByLemmas.{all_or_none, any_kept, both_asked, code_by, code_of, either, else_by, else_more, none_found, reasons_in, status_is}

-- ---- what is required
pub one_lacks : (mask bits : ℕ) → lacks mask (bits ∷ []) ≡ not (asks mask bits)
one_lacks mask bits = or_false (not (asks mask bits))

-- a list of components, and all of them at once
pub lacks_one : (mask bits rest : ℕ) (components : List ℕ) (whole : ℕ) → whole ≡ bit_or bits rest → bit_and whole bits ≡ bits → bit_and whole rest ≡ rest
    → lacks mask components ≡ not (asks mask rest) → lacks mask (bits ∷ components) ≡ not (asks mask whole)
lacks_one mask bits rest components whole joined first second others = elim (cases_Bool (asks mask bits)) [
  | inl named ↦ elim (cases_Bool (asks mask rest)) [
    | inl all ↦ let both = both_asked mask bits rest whole joined named all in rw (named, both, others, all) refl
    | inr some ↦
        let not_all : asks mask whole ≡ false = false_from_ne_true (asks mask whole) (λ all. both_ways (asks mask rest) some (asks_part mask whole rest second all)) in
        rw (named, not_all, others, some) refl
  ]
  | inr missing ↦
      let not_all : asks mask whole ≡ false = false_from_ne_true (asks mask whole) (λ all. both_ways (asks mask bits) missing (asks_part mask whole bits first all)) in
      rw (missing, not_all) refl
]

lacks_to_join : (mask : ℕ) → lacks mask (1 ∷ 2 ∷ 128 ∷ 65536 ∷ []) ≡ not (asks mask 65667)
lacks_to_join mask =
    lacks_one mask 1 65666 (2 ∷ 128 ∷ 65536 ∷ []) 65667 refl refl refl
    (lacks_one mask 2 65664 (128 ∷ 65536 ∷ []) 65666 refl refl refl
    (lacks_one mask 128 65536 (65536 ∷ []) 65664 refl refl refl (one_lacks mask 65536)))

lacks_to_make : (mask : ℕ) → lacks mask (4 ∷ 64 ∷ 4096 ∷ 8192 ∷ []) ≡ not (asks mask 12356)
lacks_to_make mask =
    lacks_one mask 4 12352 (64 ∷ 4096 ∷ 8192 ∷ []) 12356 refl refl refl
    (lacks_one mask 64 12288 (4096 ∷ 8192 ∷ []) 12352 refl refl refl
    (lacks_one mask 4096 8192 (8192 ∷ []) 12288 refl refl refl (one_lacks mask 8192)))

-- ---- codes
no_mtu : (code : ℕ) → not (is_mtu_code code) ≡ (nat_lt code 1 || nat_lt 5 code)
no_mtu code = grind (arith, nat_tests)

no_rate : (code : ℕ) → not (is_rate_code code) ≡ (nat_lt code 2 || nat_lt 10 code)
no_rate code = grind (arith, nat_tests)

no_state : (bits : ℕ) → not (is_join_state bits) ≡ ((bits == 0) || nat_lt 7 bits)
no_state bits = grind (arith, nat_tests)

pub unknown_mtu : (mask bits code : ℕ) → asks_unknown_mtu mask bits code ≡ names_unknown mask bits 1 5 code
unknown_mtu mask bits code = ap (λ (b : Bool). asks mask bits && b) (no_mtu code)

pub unknown_rate : (mask bits code : ℕ) → asks_unknown_rate mask bits code ≡ names_unknown mask bits 2 10 code
unknown_rate mask bits code = ap (λ (b : Bool). asks mask bits && b) (no_rate code)

-- ---- to any group
to_join : (own : SubnetPort) (mask : ℕ) (asked : McMemberRecord) (rest : ℕ)
    → else_by (reasons_in (join_questions own mask asked)) rest ≡ else_by (reasons_to_join own mask asked) rest
to_join own mask asked rest =
    let needed = sym (lacks_to_join mask) in
    let state = no_state asked.join_state in
    let mtu = unknown_mtu mask member_mask.mtu asked.mtu in
    let rate = unknown_rate mask member_mask.rate asked.rate in
    let proxy = asks mask member_mask.proxy_join && asked.proxy_join in
    let last : (if names_unknown mask member_mask.mtu 1 5 asked.mtu then 512 else if names_unknown mask member_mask.rate 2 10 asked.rate then 512 else rest)
    ≡ (if names_unknown mask member_mask.mtu 1 5 asked.mtu || names_unknown mask member_mask.rate 2 10 asked.rate then 512 else rest) =
    sym (either (names_unknown mask member_mask.mtu 1 5 asked.mtu) (names_unknown mask member_mask.rate 2 10 asked.rate) 512 rest) in
    let behind = λ (tail : ℕ). if (asked.join_state == 0) || nat_lt 7 asked.join_state then 512 else if proxy then 512 else tail in
    (λ i. if needed i then 1536
    else if not (asked.port_gid == gid_of own.guid) then 1280
    else if not (is_multicast asked.mgid) then 512
    else if not (is_in own (base_of asked.p_key)) then 512
    else if state i then 512
    else if proxy then 512
    else if mtu i then 512
    else if rate i then 512
    else rest)
    ∙ ap (λ (tail : ℕ). if lacks mask (1 ∷ 2 ∷ 128 ∷ 65536 ∷ []) then 1536 else if not (asked.port_gid == gid_of own.guid) then 1280 else tail)
    (sym (either (not (is_multicast asked.mgid)) (not (is_in own (base_of asked.p_key))) 512 _)
    ∙ ap (λ (tail : ℕ). if not (is_multicast asked.mgid) || not (is_in own (base_of asked.p_key)) then 512 else behind tail) last)

-- ---- whether a request agrees with a group
apart : (mask some bits : ℕ) (holds : Bool) → bit_and some bits ≡ 0 → (0 == bits) ≡ false → passes (bit_and mask some) (on bits holds) ≡ true
apart mask some bits holds none other =
    let known : bit_and (bit_and mask some) bits ≡ 0 = and_assoc bits mask some ∙ (ap (bit_and mask) none ∙ and_zero_r mask) in
    ap (λ (n : ℕ). not (n == bits) || holds) known ∙ ap (λ (b : Bool). not b || holds) other

kept : (mask some bits : ℕ) (holds : Bool) → bit_and some bits ≡ bits → passes (bit_and mask some) (on bits holds) ≡ passes mask (on bits holds)
kept mask some bits holds within =
    let known : bit_and (bit_and mask some) bits ≡ bit_and mask bits = and_assoc bits mask some ∙ ap (bit_and mask) within in
    ap (λ (n : ℕ). not (n == bits) || holds) known

some_fails : (mask : ℕ) (components : List Component)
    → not (list_all (passes mask) components) ≡ list_any (λ (one : Component). asks mask one.bits && not one.holds) components
some_fails mask [] = refl
some_fails mask (one ∷ components) = elim (cases_Bool (asks mask one.bits)) [
  | inl named ↦ elim (cases_Bool one.holds) [
    | inl holds ↦ rw (named, holds) (some_fails mask components)
    | inr fails ↦ rw (named, fails) refl
  ]
  | inr missing ↦ rw missing (some_fails mask components)
]

agreement : (mask : ℕ) (asked : McMemberRecord) (base : ℕ) (group : MulticastGroup)
    → agrees_with mask asked base group ≡ list_all (passes mask) (parameters_compared asked group.parameters)
unfolding mc_member_record_selected
agreement mask asked base group =
    let shown = group_record_of (record { base = base; group = group }) in
    (λ i. apart mask compared 1 (shown.mgid == asked.mgid) refl refl i
    && (apart mask compared 2 (shown.port_gid == asked.port_gid) refl refl i
    && (kept mask compared 4 (shown.q_key == asked.q_key) refl i
    && (apart mask compared 8 (shown.mlid == asked.mlid) refl refl i
    && (kept mask compared 48 (satisfies asked.mtu_selector shown.mtu asked.mtu) refl i
    && (kept mask compared 64 (shown.t_class == asked.t_class) refl i
    && (apart mask compared 128 (same_base shown.p_key asked.p_key) refl refl i
    && (kept mask compared 768 (rate_satisfies asked.rate_selector shown.rate asked.rate) refl i
    && (kept mask compared 3072 (satisfies asked.packet_life_time_selector shown.packet_life_time asked.packet_life_time) refl i
    && (kept mask compared 4096 (shown.sl == asked.sl) refl i
    && (kept mask compared 8192 (shown.flow_label == asked.flow_label) refl i
    && (kept mask compared 16384 (shown.hop_limit == asked.hop_limit) refl i
    && (kept mask compared 32768 (shown.scope == asked.scope) refl i
    && (apart mask compared 65536 (shown.join_state == asked.join_state) refl refl i
    && (apart mask compared 131072 (same_bit shown.proxy_join asked.proxy_join) refl refl i && true)))))))))))))))

disagreement : (mask : ℕ) (asked : McMemberRecord) (base : ℕ) (group : MulticastGroup)
    → not (agrees_with mask asked base group) ≡ disagrees mask asked group.parameters
disagreement mask asked base group = ap not (agreement mask asked base group) ∙ some_fails mask (parameters_compared asked group.parameters)

-- ---- whether some of ours fits
four : (p : ℕ → Bool) → list_any p (4 ∷ 3 ∷ 2 ∷ 1 ∷ []) ≡ list_any p (1 ∷ 2 ∷ 3 ∷ 4 ∷ [])
four p =
    list_any-append p (4 ∷ 3 ∷ 2 ∷ []) (1 ∷ [])
    ∙ (or_comm (list_any p (4 ∷ 3 ∷ 2 ∷ [])) (list_any p (1 ∷ []))
    ∙ (sym (list_any-append p (1 ∷ []) (4 ∷ 3 ∷ 2 ∷ []))
    ∙ ap (λ (b : Bool). p 1 || b) (list_any-append p (4 ∷ 3 ∷ []) (2 ∷ [])
    ∙ (or_comm (list_any p (4 ∷ 3 ∷ [])) (list_any p (2 ∷ []))
    ∙ (sym (list_any-append p (2 ∷ []) (4 ∷ 3 ∷ []))
    ∙ ap (λ (b : Bool). p 2 || b) (list_any-append p (4 ∷ []) (3 ∷ [])
    ∙ (or_comm (list_any p (4 ∷ [])) (list_any p (3 ∷ [])) ∙ sym (list_any-append p (3 ∷ []) (4 ∷ [])))))))))

three : (p : ℕ → Bool) → list_any p (3 ∷ 5 ∷ 2 ∷ []) ≡ list_any p (2 ∷ 3 ∷ 5 ∷ [])
three p =
    list_any-append p (3 ∷ 5 ∷ []) (2 ∷ [])
    ∙ (or_comm (list_any p (3 ∷ 5 ∷ [])) (list_any p (2 ∷ [])) ∙ sym (list_any-append p (2 ∷ []) (3 ∷ 5 ∷ [])))

-- ---- whether an MLID is free
full_or_free : (base : ℕ) (partitions : List PartitionGroups) → is_full base partitions ≡ not (has_free_mlid base partitions)
full_or_free base partitions =
    all_or_none full (partitions_at base partitions)
    ∙ ap not (any_kept (λ x. not (full x)) (has_base base) partitions
    ∙ any_alike (λ x. has_base base x && not (full x)) (λ x. has_base base x && not (is_none (free_mlid x)))
    (λ x. ap (λ (b : Bool). has_base base x && not b) (one_full x)) partitions)
  where
    full : PartitionGroups → Bool
    full partition = list_all (λ mlid. has_mlid mlid partition) (mlid_range partition.number)

    one_full : (x : PartitionGroups) → full x ≡ is_none (free_mlid x)
    one_full x =
        all_or_none (λ mlid. has_mlid mlid x) (mlid_range x.number)
        ∙ sym (none_found (λ mlid. not (has_mlid mlid x)) (mlid_range x.number))

-- ---- to the group that is there, or one that is to be made
module _ (ports : List SubnetPort) (own : SubnetPort) (mask : ℕ) (asked : McMemberRecord) (partitions : List PartitionGroups) where
  abbrev base : ℕ
  base = base_of asked.p_key

  to_old : (group : MulticastGroup) → groups_at base asked.mgid partitions ≡ group ∷ []
      → else_by (reasons_in (group_questions ports own mask asked partitions (Some group))) 0 ≡ status_by (reasons_by_group ports own mask asked partitions false)
  to_old group one =
      let same : not (agrees_with mask asked base group) ≡ list_any (λ (x : MulticastGroup). disagrees mask asked x.parameters) (groups_at base asked.mgid partitions) =
      disagreement mask asked base group
      ∙ (sym (or_false (disagrees mask asked group.parameters))
      ∙ ap (list_any (λ (x : MulticastGroup). disagrees mask asked x.parameters)) (sym one)) in
      (λ i. if same i then 512 else 0)

  to_new : groups_at base asked.mgid partitions ≡ []
      → else_by (reasons_in (group_questions ports own mask asked partitions None)) 0 ≡ status_by (reasons_by_group ports own mask asked partitions true)
  to_new none =
      let no_group : list_any (λ (x : MulticastGroup). disagrees mask asked x.parameters) (groups_at base asked.mgid partitions) ≡ false =
      ap (list_any (λ (x : MulticastGroup). disagrees mask asked x.parameters)) none in
      let full_member = is_full_member ports base own.guid in
      let as_full = (join_state_of asked.join_state).full_member in
      let may = not_both full_member as_full in
      let needed = sym (lacks_to_make mask) in
      let mtu = none_found (mtu_fits mask asked) (4 ∷ 3 ∷ 2 ∷ 1 ∷ []) ∙ ap not (four (mtu_fits mask asked)) in
      let rate = none_found (rate_fits mask asked) (3 ∷ 5 ∷ 2 ∷ []) ∙ ap not (three (rate_fits mask asked)) in
      let life = none_found (life_fits mask asked) (18 ∷ []) in
      let full = sym (full_or_free base partitions) in
      let no_mtu = not (list_any (mtu_fits mask asked) our_mtus) in
      let no_rate = not (list_any (rate_fits mask asked) our_rates) in
      let no_life = not (list_any (life_fits mask asked) our_life_times) in
      let last = if is_full base partitions then 256 else 0 in
      (λ i. if may i then 512
      else if needed i then 1536
      else if mtu i then 512
      else if rate i then 512
      else if life i then 512
      else if full i then 256
      else 0)
      ∙ (either (not full_member) (not as_full) 512 _
      ∙ ap (λ (tail : ℕ). if not full_member then 512 else if not as_full then 512 else if lacks mask (4 ∷ 64 ∷ 4096 ∷ 8192 ∷ []) then 1536 else tail)
      (ap (λ (tail : ℕ). if no_mtu then 512 else tail) (sym (either no_rate no_life 512 last)) ∙ sym (either no_mtu (no_rate || no_life) 512 last))
      ∙ (λ i. if sym no_group i then 512
      else if not full_member then 512
      else if not as_full then 512
      else if lacks mask (4 ∷ 64 ∷ 4096 ∷ 8192 ∷ []) then 1536
      else if none_fits mask asked then 512
      else last))
    where
      not_both : (a b : Bool) → not (a && b) ≡ (not a || not b)
      not_both true b = refl
      not_both false b = refl

-- ---- the group that is named
first_is : (mgid : ℕ) (groups : List MulticastGroup) (found one : MulticastGroup) → find (has_mgid mgid) groups ≡ Some found
    → filter (has_mgid mgid) groups ≡ one ∷ [] → filter (has_mgid mgid) groups ≡ found ∷ []
first_is mgid groups found one first all = all ∙ ap (λ x. x ∷ []) (same groups first all)
  where
    same : (xs : List MulticastGroup) → find (has_mgid mgid) xs ≡ Some found → filter (has_mgid mgid) xs ≡ one ∷ [] → one ≡ found
    same [] is kept = absurd (cc)
    same (x ∷ xs) is kept = elim (cases_Bool (has_mgid mgid x)) [
      | inl here ↦
          let head : Some x ≡ Some found = rw here at is in
          let alone : x ∷ filter (has_mgid mgid) xs ≡ one ∷ [] = rw here at kept in
          cc
      | inr out ↦ same xs (rw out at is) (rw out at kept)
    ]

-- none is found where none is
none_at : (base mgid : ℕ) (partitions : List PartitionGroups) → group_named base mgid partitions ≡ None → groups_at base mgid partitions ≡ []
none_at base mgid partitions none = in_all (partitions_at base partitions) none
  where
    in_all : (xs : List PartitionGroups) → find (has_mgid mgid) (flat_map (λ (x : PartitionGroups). x.groups) xs) ≡ None
        → flat_map (λ (x : PartitionGroups). filter (has_mgid mgid) x.groups) xs ≡ []
    in_all xs e = sym (kept_in xs) ∙ filter_none (has_mgid mgid) (flat_map (λ (x : PartitionGroups). x.groups) xs) (found_none (has_mgid mgid) _ e)
      where
        kept_in : (ys : List PartitionGroups) → filter (has_mgid mgid) (flat_map (λ (x : PartitionGroups). x.groups) ys)
            ≡ flat_map (λ (x : PartitionGroups). filter (has_mgid mgid) x.groups) ys
        kept_in [] = refl
        kept_in (y ∷ ys) =
            filter-append (has_mgid mgid) y.groups (flat_map (λ (x : PartitionGroups). x.groups) ys)
            ∙ ap (λ rest. filter (has_mgid mgid) y.groups ++ rest) (kept_in ys)

pub join_status : (ports : List SubnetPort) (own : SubnetPort) (s : SaState) (mask : ℕ) (asked : McMemberRecord) → is_sound ports s.partitions ≡ true
    → IsDistinct nat_eq (map (λ partition. partition.base) s.partitions)
    → code_of (join_outcome ports own s mask asked)
    ≡ status_by (reasons_to_join own mask asked ++ reasons_by_group ports own mask asked s.partitions (not (is_there (base_of asked.p_key) asked.mgid s.partitions)))
join_status ports own s mask asked sound distinct =
    let base = base_of asked.p_key in
    let named = group_named base asked.mgid s.partitions in
    code_by (join_questions own mask asked)
    (unless_status (join_refusal ports own mask asked s.partitions) (Ok (join_done own (join_asked own mask asked) (after_join ports (join_asked own mask asked) s))))
    ∙ (ap (else_by (reasons_in (join_questions own mask asked)))
    (code_by (group_questions ports own mask asked s.partitions named) (Ok (join_done own (join_asked own mask asked) (after_join ports (join_asked own mask asked) s)))
    ∙ by_named named refl)
    ∙ (to_join own mask asked (status_by by_group) ∙ sym (else_more (reasons_to_join own mask asked) by_group)))
  where
    by_group : List Reason
    by_group = reasons_by_group ports own mask asked s.partitions (not (is_there (base_of asked.p_key) asked.mgid s.partitions))

    by_named : (named : Option MulticastGroup) → group_named (base_of asked.p_key) asked.mgid s.partitions ≡ named
        → else_by (reasons_in (group_questions ports own mask asked s.partitions named)) 0
        ≡ status_by (reasons_by_group ports own mask asked s.partitions (not (is_there (base_of asked.p_key) asked.mgid s.partitions)))
    by_named (Some group) found =
        let base = base_of asked.p_key in
        let one = one_partition base s.partitions distinct (some_partition base asked.mgid s.partitions group found) in
        let its : groups_at base asked.mgid s.partitions ≡ filter (has_mgid asked.mgid) one.one.groups =
        ap (flat_map (λ (x : PartitionGroups). filter (has_mgid asked.mgid) x.groups)) one.is ∙ append-nil (filter (has_mgid asked.mgid) one.one.groups) in
        let here : find (has_mgid asked.mgid) one.one.groups ≡ Some group = sym (named_in base asked.mgid s.partitions one.one one.is) ∙ found in
        let some = found_in (has_mgid asked.mgid) (has_mgid asked.mgid) one.one.groups group here (found_by (has_mgid asked.mgid) one.one.groups group here) in
        let parts = partition_parts ports one.one (found_has (has_base base) (is_sound_partition ports) s.partitions one.one sound one.is) in
        let alone = one_group asked.mgid one.one.groups parts.apart some in
        let there = its ∙ first_is asked.mgid one.one.groups group alone.one here alone.is in
        to_old ports own mask asked s.partitions group there
        ∙ ap (λ (b : Bool). status_by (reasons_by_group ports own mask asked s.partitions b)) (ap (λ (groups : List MulticastGroup). not (is_some groups)) (sym there))
    by_named None found =
        let base = base_of asked.p_key in
        let none = none_at base asked.mgid s.partitions found in
        to_new ports own mask asked s.partitions none
        ∙ ap (λ (b : Bool). status_by (reasons_by_group ports own mask asked s.partitions b)) (ap (λ (groups : List MulticastGroup). not (is_some groups)) (sym none))

pub joins_are_refused_by_reasons : IsRefusedBy is_join reasons_of_join answer
joins_are_refused_by_reasons configuration own payload state configured found is below asks join =
    let request = request_in payload in
    let parts = and_parts (request.header.method == method_code Set) (is_about sa_attribute.McMemberRecord request) join in
    let outcome_is = outcome_of_join configuration.ports own state.remembered request (eqb-true request.header.method (method_code Set) parts.0) (eqb-true request.header.attribute_id 56 parts.1) in
    let status = ap code_of outcome_is
    ∙ join_status configuration.ports own state.remembered request.component_mask (group_in request.content) is.remembered.groups (own_bases configuration state.remembered configured is.remembered) in
    status_is configuration own payload state configured found is below asks
    ∙ ap (λ (n : ℕ). (if not (has_versions request.header) then 4 else n) ∷ []) status
