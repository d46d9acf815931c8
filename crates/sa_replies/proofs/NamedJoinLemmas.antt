-- Joins and leaves of two requests that are the same where the mask names a field.
use Rattle.std.proofs.Common.{ℕ, ◌≡◌, ◌∙◌, ◌+◌, ◌/◌, ◌%◌, ◌^◌, ◌==◌, ◌&&◌, ◌||◌, Bool, true, not, if◌then◌else◌, bit_and, is_none, List, [], ◌∷◌, map, find, Option, Some, None, Result, Ok, ap, refl, sym, inl, inr, nat_eq}
use Rattle.std.specs.List.{IsDistinct, list_all, list_any}
use Rattle.std.proofs.lemmas.Bool.{and_parts, cases_Bool}
use Rattle.mad_layout.specs.declared.status.MadStatus.{MadStatus}
use Rattle.mad_layout.specs.declared.status.MadStatus.TheVariants.{RequestInvalid, InvalidGid, InsufficientComponents, NoResources}
use Rattle.pkey_rules.specs.PKey.{base_of}
use Rattle.sa_records.specs.Component.{satisfies}
use Rattle.sa_records.specs.McMemberMask as member_mask
use Rattle.sa_records.specs.McMemberRecord.{mc_member_record_selected}
use Rattle.sa_records.specs.Speed.{rate_satisfies}
use Rattle.sa_records.specs.declared.mc_member_record.McMemberRecord.{McMemberRecord}
use Rattle.subnet_model.proofs.IsolationLemmas.{found_in}
use Rattle.subnet_model.specs.declared.subnet_port.SubnetPort.{SubnetPort}
use Rattle.sa_model.specs.Groups.{GroupParameters, MulticastGroup, PartitionGroups}
use Rattle.sa_model.specs.Joining.{Join, has_mgid, joined, joined_in, may_create}
use Rattle.sa_model.specs.Leaving.{left}
use Rattle.sa_model.specs.Members.{is_full_member, is_in}
use Rattle.sa_model.specs.Gid.{gid_of}
use Rattle.sa_model.specs.Outcome.{unless_status}
use Rattle.sa_model.specs.Refusals.{first_refusal, refused_if}
use Rattle.sa_model.specs.Selected.{asks}
use Rattle.sa_model.specs.Shown.{group_record_of}
use Rattle.sa_model.specs.Visible.{SaState}
use Rattle.sa_replies.specs.Joins.{after_join, compared, founding_by, group_named, group_questions, has_free_mlid, is_join_state, is_multicast, join_asked, join_done, join_outcome, join_questions, join_refusal, join_state_of, leave_asked, leave_outcome, leave_questions, life_taken, member_bytes, mtu_taken, or_zero, parameters_asked, rate_taken, takes_some}
use Rattle.sa_replies.specs.Success.{Success}
use Rattle.sa_replies.proofs.AlikeLemmas.{none_so, unless_not}
use Rattle.step_results.proofs.ListLemmas.{found_passes as found_by}
use Rattle.step_results.proofs.BoolLemmas.{and_alike}
use Rattle.sa_replies.specs.Registrations.{has_base, partitions_at}
use Rattle.sa_replies.proofs.EnteredLemmas.{named_in, some_partition}
use Rattle.sa_replies.proofs.NamedLemmas.{asks_part, only_then, or_then}
use Rattle.sa_replies.proofs.NamedQueryLemmas.{unknown_mtu_same, unknown_rate_same}
use Rattle.sa_replies.proofs.NamedRecordLemmas.{SameGroup, group_selected_same, life_same, mtu_same, rate_same, same_by_less}
use Rattle.sa_replies.proofs.OneLemmas.{one_partition}

-- ---- a result behind a refusal
pub unless_alike : (r : Option MadStatus) (a b : Result Success MadStatus) → (r ≡ None → a ≡ b) → unless_status r a ≡ unless_status r b
unless_alike None a b same = same refl
unless_alike (Some status) a b same = refl

-- ---- two joins that differ in parameters alone do the same where the group is there
abbrev has_group : ℕ → ℕ → PartitionGroups → Bool
has_group base mgid partition = not (has_base base partition) || list_any (has_mgid mgid) partition.groups

each_has_group : (base mgid : ℕ) (partitions : List PartitionGroups) (partition : PartitionGroups) → partitions_at base partitions ≡ partition ∷ []
    → list_any (has_mgid mgid) partition.groups ≡ true → list_all (has_group base mgid) partitions ≡ true
each_has_group base mgid [] partition one there = refl
each_has_group base mgid (x ∷ xs) partition one there = elim (cases_Bool (has_base base x)) [
  | inl here ↦
      let all : x ∷ partitions_at base xs ≡ partition ∷ [] = rw here at one in
      let same : x ≡ partition = cc in
      let none : partitions_at base xs ≡ [] = cc in
      let its : list_any (has_mgid mgid) x.groups ≡ true = ap (λ (p : PartitionGroups). list_any (has_mgid mgid) p.groups) same ∙ there in
      rw (here, its) (none_of xs none)
  | inr out ↦ let later : partitions_at base xs ≡ partition ∷ [] = rw out at one in rw out (each_has_group base mgid xs partition later there)
]
  where
    none_of : (xs : List PartitionGroups) → partitions_at base xs ≡ [] → list_all (has_group base mgid) xs ≡ true
    none_of [] none = refl
    none_of (x ∷ xs) none = elim (cases_Bool (has_base base x)) [
      | inl here ↦ let wrong : x ∷ partitions_at base xs ≡ [] = rw here at none in absurd (cc)
      | inr out ↦ let later : partitions_at base xs ≡ [] = rw out at none in rw out (none_of xs later)
    ]

abbrev join_with : ℕ → ℕ → McMemberRecord → GroupParameters → Join
join_with port mask asked parameters =
    record { port = port; base = base_of asked.p_key; mgid = asked.mgid; join_state = join_state_of asked.join_state; parameters = parameters }

module _ (ports : List SubnetPort) (port mask : ℕ) (asked : McMemberRecord) (p q : GroupParameters) where
  one_same : (partition : PartitionGroups) → has_group (base_of asked.p_key) asked.mgid partition ≡ true
      → joined_in ports (join_with port mask asked p) partition ≡ joined_in ports (join_with port mask asked q) partition
  one_same partition has = elim (cases_Bool (has_base (base_of asked.p_key) partition)) [
    | inl here ↦
        let there : list_any (has_mgid asked.mgid) partition.groups ≡ true = rw here at has in
        rw (here, there) refl
    | inr out ↦ rw out refl
  ]

  all_same : (partitions : List PartitionGroups) → list_all (has_group (base_of asked.p_key) asked.mgid) partitions ≡ true
      → joined ports (join_with port mask asked p) partitions ≡ joined ports (join_with port mask asked q) partitions
  all_same [] all = refl
  all_same (x ∷ xs) all =
      let parts = and_parts (has_group (base_of asked.p_key) asked.mgid x) (list_all (has_group (base_of asked.p_key) asked.mgid) xs) all in
      (λ i. one_same x parts.0 i ∷ all_same xs parts.1 i)

-- ---- what a join needs
abbrev needed : ℕ
needed = member_mask.mgid + member_mask.port_gid + member_mask.p_key + member_mask.join_state

abbrev to_found : ℕ
to_found = member_mask.q_key + member_mask.t_class + member_mask.sl + member_mask.flow_label

module _ (ports : List SubnetPort) (own : SubnetPort) (s : SaState) (mask : ℕ) (x y : McMemberRecord) (same : SameGroup mask x y) where
  mtu_taken_same : mtu_taken mask x ≡ mtu_taken mask y
  mtu_taken_same =
      let fits = λ (mtu : ℕ). or_then (asks mask member_mask.mtu) (satisfies x.mtu_selector mtu x.mtu) (satisfies y.mtu_selector mtu y.mtu) (mtu_same mask x y same mtu) in
      (λ i. find (λ mtu. fits mtu i) (4 ∷ 3 ∷ 2 ∷ 1 ∷ []))

  rate_taken_same : rate_taken mask x ≡ rate_taken mask y
  rate_taken_same =
      let fits = λ (rate : ℕ). or_then (asks mask member_mask.rate) (rate_satisfies x.rate_selector rate x.rate) (rate_satisfies y.rate_selector rate y.rate) (rate_same mask x y same rate) in
      (λ i. find (λ rate. fits rate i) (3 ∷ 5 ∷ 2 ∷ []))

  life_taken_same : life_taken mask x ≡ life_taken mask y
  life_taken_same =
      let fits = λ (life : ℕ). or_then (asks mask member_mask.packet_life_time) (satisfies x.packet_life_time_selector life x.packet_life_time) (satisfies y.packet_life_time_selector life y.packet_life_time) (life_same mask x y same life) in
      (λ i. find (λ life. fits life i) (18 ∷ []))

  module _ (named : asks mask needed ≡ true) where
    mgid_is : x.mgid ≡ y.mgid
    mgid_is = same.mgid (asks_part mask needed 1 refl named)

    gid_is : x.port_gid ≡ y.port_gid
    gid_is = same.port_gid (asks_part mask needed 2 refl named)

    key_is : x.p_key ≡ y.p_key
    key_is = same.p_key (asks_part mask needed 128 refl named)

    state_is : x.join_state ≡ y.join_state
    state_is = same.join_state (asks_part mask needed 65536 refl named)

    questions_same : join_questions own mask x ≡ join_questions own mask y
    questions_same =
        let proxy = and_alike (asks mask member_mask.proxy_join) x.proxy_join y.proxy_join same.proxy_join in
        let mtu = unknown_mtu_same mask member_mask.mtu x.mtu y.mtu (λ e. same.mtu (asks_part mask member_mask.mtu 32 refl e)) in
        let rate = unknown_rate_same mask member_mask.rate x.rate y.rate (λ e. same.rate (asks_part mask member_mask.rate 512 refl e)) in
        (λ i. refused_if (not (asks mask needed)) InsufficientComponents
        ∷ refused_if (not (gid_is i == gid_of own.guid)) InvalidGid
        ∷ refused_if (not (is_multicast (mgid_is i))) RequestInvalid
        ∷ refused_if (not (is_in own (base_of (key_is i)))) RequestInvalid
        ∷ refused_if (not (is_join_state (state_is i))) RequestInvalid
        ∷ refused_if (proxy i) RequestInvalid
        ∷ refused_if (mtu i) RequestInvalid
        ∷ refused_if (rate i) RequestInvalid
        ∷ [])

    agrees_same : (group : MulticastGroup)
        → mc_member_record_selected (bit_and mask compared) (group_record_of (record { base = base_of x.p_key; group = group })) x
        ≡ mc_member_record_selected (bit_and mask compared) (group_record_of (record { base = base_of y.p_key; group = group })) y
    agrees_same group =
        ap (λ (key : ℕ). mc_member_record_selected (bit_and mask compared) (group_record_of (record { base = base_of key; group = group })) x) key_is
        ∙ group_selected_same (bit_and mask compared) (group_record_of (record { base = base_of y.p_key; group = group })) x y (same_by_less mask compared x y same)

    create_same : may_create ports (join_asked own mask x) ≡ may_create ports (join_asked own mask y)
    create_same = (λ i. is_full_member ports (base_of (key_is i)) own.guid && (join_state_of (state_is i)).full_member)

    founding_same : (free : Bool) → founding_by ports own mask x free ≡ founding_by ports own mask y free
    founding_same free =
        (λ i. refused_if (not (create_same i)) RequestInvalid
        ∷ refused_if (not (asks mask to_found)) InsufficientComponents
        ∷ refused_if (is_none (mtu_taken_same i)) RequestInvalid
        ∷ refused_if (is_none (rate_taken_same i)) RequestInvalid
        ∷ refused_if (is_none (life_taken_same i)) RequestInvalid
        ∷ refused_if (not free) NoResources
        ∷ [])

    group_questions_same : (found : Option MulticastGroup)
        → group_questions ports own mask x s.partitions found ≡ group_questions ports own mask y s.partitions found
    group_questions_same (Some group) = (λ i. refused_if (not (agrees_same group i)) RequestInvalid ∷ [])
    group_questions_same None =
        founding_same (has_free_mlid (base_of x.p_key) s.partitions)
        ∙ ap (λ (key : ℕ). founding_by ports own mask y (has_free_mlid (base_of key) s.partitions)) key_is

    refusal_same : join_refusal ports own mask x s.partitions ≡ join_refusal ports own mask y s.partitions
    refusal_same =
        ap first_refusal (group_questions_same (group_named (base_of x.p_key) x.mgid s.partitions)
        ∙ (λ i. group_questions ports own mask y s.partitions (group_named (base_of (key_is i)) (mgid_is i) s.partitions)))

    -- ---- the groups after it
    parameters_same : asks mask to_found ≡ true → parameters_asked mask x ≡ parameters_asked mask y
    parameters_same all =
        let q_key = same.q_key (asks_part mask to_found 4 refl all) in
        let traffic_class = same.t_class (asks_part mask to_found 64 refl all) in
        let service_level = same.sl (asks_part mask to_found 4096 refl all) in
        let flow_label = same.flow_label (asks_part mask to_found 8192 refl all) in
        let hop_limit = only_then (asks mask member_mask.hop_limit) x.hop_limit y.hop_limit same.hop_limit 0 in
        let scope = only_then (asks mask member_mask.scope) x.scope y.scope same.scope (x.mgid / 2 ^ 112 % 16)
        ∙ ap (λ (mgid : ℕ). if asks mask member_mask.scope then y.scope else mgid / 2 ^ 112 % 16) mgid_is in
        (λ i. record {
          q_key = q_key i;
          mtu = or_zero (mtu_taken_same i);
          traffic_class = traffic_class i;
          rate = or_zero (rate_taken_same i);
          packet_life_time = or_zero (life_taken_same i);
          service_level = service_level i;
          flow_label = flow_label i;
          hop_limit = hop_limit i;
          scope = scope i;
        })

    with_same : join_asked own mask x ≡ join_with own.guid mask y (parameters_asked mask x)
    with_same = (λ i. record {
      port = own.guid;
      base = base_of (key_is i);
      mgid = mgid_is i;
      join_state = join_state_of (state_is i);
      parameters = parameters_asked mask x;
    })

    joined_same : IsDistinct nat_eq (map (λ partition. partition.base) s.partitions) → (found : Option MulticastGroup)
        → group_named (base_of y.p_key) y.mgid s.partitions ≡ found → first_refusal (group_questions ports own mask y s.partitions found) ≡ None
        → joined ports (join_asked own mask x) s.partitions ≡ joined ports (join_asked own mask y) s.partitions
    joined_same distinct (Some group) found allowed =
        let base = base_of y.p_key in
        let one = one_partition base s.partitions distinct (some_partition base y.mgid s.partitions group found) in
        let here : find (has_mgid y.mgid) one.one.groups ≡ Some group = sym (named_in base y.mgid s.partitions one.one one.is) ∙ found in
        let there = found_in (has_mgid y.mgid) (has_mgid y.mgid) one.one.groups group here (found_by (has_mgid y.mgid) one.one.groups group here) in
        ap (λ join. joined ports join s.partitions) with_same
        ∙ all_same ports own.guid mask y (parameters_asked mask x) (parameters_asked mask y) s.partitions (each_has_group base y.mgid s.partitions one.one one.is there)
    joined_same distinct None found allowed =
        let questions = founding_by ports own mask y (has_free_mlid (base_of y.p_key) s.partitions) in
        let all = unless_not (asks mask to_found) (none_so 1 questions allowed) in
        ap (λ join. joined ports join s.partitions) (with_same ∙ ap (join_with own.guid mask y) (parameters_same all))

    done_same : joined ports (join_asked own mask x) s.partitions ≡ joined ports (join_asked own mask y) s.partitions
        → join_done own (join_asked own mask x) (after_join ports (join_asked own mask x) s) ≡ join_done own (join_asked own mask y) (after_join ports (join_asked own mask y) s)
    done_same groups =
        (λ i. Success.one_reply (member_bytes own (base_of (key_is i)) (group_named (base_of (key_is i)) (mgid_is i) (groups i))) (record s { partitions = groups i }))

  pub join_same : IsDistinct nat_eq (map (λ partition. partition.base) s.partitions) → join_outcome ports own s mask x ≡ join_outcome ports own s mask y
  join_same distinct = elim (cases_Bool (asks mask needed)) [
    | inr missing ↦ rw missing refl
    | inl named ↦
        let done = λ (asked : McMemberRecord). Ok (join_done own (join_asked own mask asked) (after_join ports (join_asked own mask asked) s)) in
        let inner = λ (asked : McMemberRecord). unless_status (join_refusal ports own mask asked s.partitions) (done asked) in
        ap (λ questions. unless_status (first_refusal questions) (inner x)) (questions_same named)
        ∙ unless_alike (first_refusal (join_questions own mask y)) (inner x) (inner y) (λ well.
        ap (λ refused. unless_status refused (done x)) (refusal_same named)
        ∙ unless_alike (join_refusal ports own mask y s.partitions) (done x) (done y) (λ allowed.
        ap (λ success. Ok success) (done_same named (joined_same named distinct (group_named (base_of y.p_key) y.mgid s.partitions) refl allowed))))
  ]

  -- ---- leaves: what they leave, whatever the data of the reply
  abbrev needed_to_leave : ℕ
  needed_to_leave = member_mask.mgid + member_mask.port_gid + member_mask.join_state

  leave_is : asks mask needed_to_leave ≡ true → leave_asked own mask x ≡ leave_asked own mask y
  leave_is named =
      let base = only_then (asks mask member_mask.p_key) (Some (base_of x.p_key)) (Some (base_of y.p_key)) (λ e. ap (λ (key : ℕ). Some (base_of key)) (same.p_key e)) None in
      let mgid = same.mgid (asks_part mask needed_to_leave 1 refl named) in
      let state = same.join_state (asks_part mask needed_to_leave 65536 refl named) in
      (λ i. record { port = own.guid; base = base i; mgid = mgid i; join_state = join_state_of (state i) })

  leave_questions_same : asks mask needed_to_leave ≡ true → leave_questions own s mask x ≡ leave_questions own s mask y
  leave_questions_same named =
      let gid = same.port_gid (asks_part mask needed_to_leave 2 refl named) in
      let state = same.join_state (asks_part mask needed_to_leave 65536 refl named) in
      let outside = and_alike (asks mask member_mask.p_key) (not (is_in own (base_of x.p_key))) (not (is_in own (base_of y.p_key)))
      (λ e. ap (λ (key : ℕ). not (is_in own (base_of key))) (same.p_key e)) in
      let leave = leave_is named in
      (λ i. refused_if (not (asks mask needed_to_leave)) InsufficientComponents
      ∷ refused_if (not (gid i == gid_of own.guid)) InvalidGid
      ∷ refused_if (state i == 0) RequestInvalid
      ∷ refused_if (outside i) RequestInvalid
      ∷ refused_if (not (takes_some (leave i) s.partitions)) RequestInvalid
      ∷ [])

  pub leave_same : (content : List ℕ) → leave_outcome ports own s mask x content ≡ leave_outcome ports own s mask y content
  leave_same content = elim (cases_Bool (asks mask needed_to_leave)) [
    | inr missing ↦ rw missing refl
    | inl named ↦
        let questions = leave_questions_same named in
        let leave = leave_is named in
        (λ i. unless_status (first_refusal (questions i)) (Ok (Success.one_reply content (record s { partitions = left ports (leave i) s.partitions }))))
  ]
