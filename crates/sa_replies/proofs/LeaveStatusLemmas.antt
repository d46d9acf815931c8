-- A leave is refused by the first reason that holds.
use Rattle.std.proofs.Common.{ℕ, ◌≡◌, ◌∙◌, ◌==◌, ◌&&◌, ◌||◌, Bool, true, false, not, if◌then◌else◌, List, [], ◌∷◌, filter, Ok, ap, refl, sym}
use Rattle.std.specs.List.{list_any}
use Rattle.std.proofs.lemmas.Bool.{and_parts, eq-eqb, eqb-true}
use Rattle.step_results.proofs.ListLemmas.{any_flat, any_map}
use Rattle.step_results.proofs.BoolLemmas.{and_true}
use Rattle.mad_layout.specs.Method.{method_code}
use Rattle.mad_layout.specs.declared.method.Method.TheVariants.{Delete}
use Rattle.pkey_rules.specs.PKey.{base_of}
use Rattle.sa_records.specs.McMemberMask as member_mask
use Rattle.sa_records.specs.McMemberRecord.{group_in}
use Rattle.sa_records.specs.declared.mc_member_record.McMemberRecord.{McMemberRecord}
use Rattle.sa_records.specs.declared.sa_attribute.SaAttribute.TheVariants as sa_attribute
use Rattle.subnet_model.specs.declared.subnet_port.SubnetPort.{SubnetPort}
use Rattle.sa_model.specs.Groups.{Membership, MulticastGroup, PartitionGroups}
use Rattle.sa_model.specs.JoinState.{JoinState}
use Rattle.sa_model.specs.Joining.{has_mgid, is_of}
use Rattle.sa_model.specs.Leaving.{left, names_base}
use Rattle.sa_model.specs.Members.{is_in}
use Rattle.sa_model.proofs.ReceiverLemmas.{any_alike}
use Rattle.sa_model.specs.Gid.{gid_of}
use Rattle.sa_model.specs.Selected.{asks}
use Rattle.sa_model.specs.Visible.{SaState}
use Rattle.sa_replies.specs.Answer.{answer}
use Rattle.sa_replies.specs.Joins.{is_taken_from, join_state_of, leave_asked, leave_outcome, leave_questions, takes_some}
use Rattle.sa_replies.specs.Request.{Request, has_versions, is_about, request_in}
use Rattle.sa_replies.specs.Success.{Success}
use Rattle.sa_replies.specs.Left.{is_left_group}
use Rattle.sa_replies.specs.GroupReasons.{has_some_in, has_some_to_leave, holds_one_of, reasons_of_leave}
use Rattle.sa_replies.specs.Reasons.{lacks, status_by}
use Rattle.sa_replies.specs.Refused.{IsRefusedBy, is_leave}
use Rattle.sa_replies.specs.Registrations.{states_in}
use Rattle.sa_replies.proofs.AcceptedLemmas.{outcome_of_leave}
use Rattle.sa_replies.proofs.JoinStatusLemmas.{lacks_one, one_lacks}
use Rattle.sa_replies.proofs.LeaveLemmas.{names}
use Rattle.sa_replies.proofs.StatusByLemmas.{and_any, any_kept, code_by, code_of, else_none, reasons_in, status_is}

lacks_to_leave : (mask : ℕ) → lacks mask (1 ∷ 2 ∷ 65536 ∷ []) ≡ not (asks mask 65539)
lacks_to_leave mask =
    lacks_one mask 1 65538 (2 ∷ 65536 ∷ []) 65539 refl refl refl
    (lacks_one mask 2 65536 (65536 ∷ []) 65538 refl refl refl (one_lacks mask 65536))

-- ---- whether there is a bit to take
reordered : (its mgid base bit : Bool) → ((its && (mgid && base)) && bit) ≡ (base && (mgid && (its && bit)))
reordered true true base bit = refl
reordered true false true bit = refl
reordered true false false bit = refl
reordered false mgid true bit = none mgid
  where
    none : (a : Bool) → false ≡ (a && false)
    none true = refl
    none false = refl
reordered false mgid false bit = refl

module _ (own : SubnetPort) (mask : ℕ) (asked : McMemberRecord) where
  abbrev bits : JoinState
  bits = join_state_of asked.join_state

  is_named : ℕ → Bool
  is_named base = names_base (leave_asked own mask asked).base base

  in_group : (base : ℕ) (group : MulticastGroup) → list_any (is_taken_from (leave_asked own mask asked) base group) group.memberships
      ≡ (is_named base && (has_mgid asked.mgid group && list_any (holds_one_of bits) (states_in own.guid group)))
  unfolding is_named
  in_group base group =
      let held = λ (m : Membership). holds_one_of bits m.join_state in
      any_alike (is_taken_from (leave_asked own mask asked) base group) (λ m. is_named base && (has_mgid asked.mgid group && (is_of own.guid m && held m)))
      (λ m. reordered (is_of own.guid m) (has_mgid asked.mgid group) (is_named base) (held m)) group.memberships
      ∙ (sym (and_any (is_named base) (λ m. has_mgid asked.mgid group && (is_of own.guid m && held m)) group.memberships)
      ∙ ap (λ (b : Bool). is_named base && b) (sym (and_any (has_mgid asked.mgid group) (λ m. is_of own.guid m && held m) group.memberships)
      ∙ ap (λ (b : Bool). has_mgid asked.mgid group && b) (sym (any_kept held (is_of own.guid) group.memberships)
      ∙ sym (any_map (holds_one_of bits) (λ (m : Membership). m.join_state) (filter (is_of own.guid) group.memberships)))))

  in_partition : (partition : PartitionGroups) → list_any (λ group. list_any (is_taken_from (leave_asked own mask asked) partition.base group) group.memberships) partition.groups
      ≡ (is_left_group mask asked partition.base asked.mgid && has_some_in own asked partition)
  unfolding is_named
  in_partition partition =
      any_alike (λ group. list_any (is_taken_from (leave_asked own mask asked) partition.base group) group.memberships)
      (λ group. is_named partition.base && (has_mgid asked.mgid group && list_any (holds_one_of bits) (states_in own.guid group))) (in_group partition.base) partition.groups
      ∙ (sym (and_any (is_named partition.base) (λ group. has_mgid asked.mgid group && list_any (holds_one_of bits) (states_in own.guid group)) partition.groups)
      ∙ (ap (λ (b : Bool). is_named partition.base && b) (sym (any_kept (λ group. list_any (holds_one_of bits) (states_in own.guid group)) (has_mgid asked.mgid) partition.groups)
      ∙ sym (any_flat (holds_one_of bits) (states_in own.guid) (filter (has_mgid asked.mgid) partition.groups)))
      ∙ ap (λ (b : Bool). b && has_some_in own asked partition)
      (names (asks mask member_mask.p_key) (base_of asked.p_key) partition.base ∙ same_mgid (not (asks mask member_mask.p_key) || (partition.base == base_of asked.p_key)))))
    where
      same_mgid : (b : Bool) → b ≡ (b && (asked.mgid == asked.mgid))
      same_mgid b = rw (eq-eqb asked.mgid asked.mgid refl) (sym (and_true b))

  takes_is : (partitions : List PartitionGroups) → takes_some (leave_asked own mask asked) partitions ≡ has_some_to_leave own mask asked partitions
  takes_is partitions =
      any_alike (λ partition. list_any (λ group. list_any (is_taken_from (leave_asked own mask asked) partition.base group) group.memberships) partition.groups)
      (λ partition. is_left_group mask asked partition.base asked.mgid && has_some_in own asked partition) in_partition partitions

pub leave_status : (ports : List SubnetPort) (own : SubnetPort) (s : SaState) (request : Request)
    → code_of (leave_outcome ports own s request.component_mask (group_in request.content) request.content) ≡ status_by (reasons_of_leave ports own s request)
leave_status ports own s request =
    let mask = request.component_mask in
    let asked = group_in request.content in
    let needed = sym (lacks_to_leave mask) in
    let takes = takes_is own mask asked s.partitions in
    code_by (leave_questions own s mask asked) (Ok (Success.one_reply request.content (record s { partitions = left ports (leave_asked own mask asked) s.partitions })))
    ∙ (else_none (reasons_in (leave_questions own s mask asked))
    ∙ (λ i. if needed i then 1536
    else if not (asked.port_gid == gid_of own.guid) then 1280
    else if asked.join_state == 0 then 512
    else if asks mask member_mask.p_key && not (is_in own (base_of asked.p_key)) then 512
    else if not (takes i) then 512
    else 0))

pub leaves_are_refused_by_reasons : IsRefusedBy is_leave reasons_of_leave answer
leaves_are_refused_by_reasons configuration own payload state configured found is below asks leave =
    let request = request_in payload in
    let parts = and_parts (request.header.method == method_code Delete) (is_about sa_attribute.McMemberRecord request) leave in
    let outcome_is = outcome_of_leave configuration.ports own state.remembered request (eqb-true request.header.method (method_code Delete) parts.0) (eqb-true request.header.attribute_id 56 parts.1) in
    status_is configuration own payload state configured found is below asks
    ∙ ap (λ (n : ℕ). (if not (has_versions request.header) then 4 else n) ∷ []) (ap code_of outcome_is ∙ leave_status configuration.ports own state.remembered request)
