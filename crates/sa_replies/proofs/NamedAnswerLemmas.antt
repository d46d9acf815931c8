-- Two MADs that ask the same are answered alike.
use Rattle.std.proofs.Common.{ℕ, ◌≡◌, ◌∙◌, ◌+◌, ◌-◌, ◌==◌, Bool, true, false, not, if◌then◌else◌, bit_and, List, [], ◌∷◌, ◌++◌, length, map, drop, take, Option, Some, None, Result, Ok, Err, ap, refl, sym, subst, inl, inr, arith, nat_eq}
use Rattle.std.specs.Int.Digits.{AllBelowBase}
use Rattle.std.specs.List.{IsDistinct, list_any}
use Rattle.std.proofs.lemmas.Bool.{cases_Bool, eqb-true}
use Rattle.std.proofs.lemmas.List.{length-take, length-drop}
use Rattle.mad_layout.specs.Bits.{field}
use Rattle.mad_layout.specs.Method.{method_code}
use Rattle.mad_layout.specs.declared.mad_header.Header.{Header}
use Rattle.mad_layout.specs.declared.method.Method.TheVariants.{Get, Set, GetTable, Delete}
use Rattle.mad_layout.specs.declared.status.MadStatus.{MadStatus}
use Rattle.mad_layout.specs.declared.status.MadStatus.TheVariants.{AttributeNotSupported, MethodNotSupported, NoRecords}
use Rattle.rmpp_core.specs.Segments.{Transfer}
use Rattle.sa_records.specs.McMemberRecord.{group_in, mc_member_record_asked}
use Rattle.sa_records.specs.NodeRecord.{node_in}
use Rattle.sa_records.specs.PathRecord.{path_in}
use Rattle.sa_records.specs.ServiceRecord.{service_in, service_record_asked}
use Rattle.sa_records.specs.declared.sa_attribute.SaAttribute.TheVariants as sa_attribute
use Rattle.subnet_model.specs.declared.subnet_port.SubnetPort.{SubnetPort}
use Rattle.sa_model.specs.Leaving.{left}
use Rattle.sa_model.specs.ServiceChange.{Deed, has_id}
use Rattle.sa_model.specs.Refusals.{first_refusal, refused_if}
use Rattle.sa_model.specs.Outcome.{unless_status}
use Rattle.sa_model.specs.Selected.{Query}
use Rattle.sa_model.specs.Visible.{SaState}
use Rattle.sa_replies.specs.Answer.{Administration, Answered, after_rmpp, answer_to, answered_with, delete_or_refused, get_outcome, outcome, query_of, set_or_refused, table_outcome, version_refused}
use Rattle.sa_replies.specs.Joins.{leave_asked, leave_outcome, leave_questions}
use Rattle.sa_replies.specs.Reply.{refusal_reply, reply}
use Rattle.sa_replies.specs.Request.{Request, has_versions, is_about, is_response, request_in}
use Rattle.sa_replies.specs.ServiceRequests.{after_change, change_asked, delete_outcome, owner_questions, service_deleted, services_at}
use Rattle.sa_replies.specs.Success.{Success}
use Rattle.sa_replies.specs.Transfers.{on_rmpp, table_of}
use Rattle.sa_replies.proofs.RefusalLemmas.{Ends, ends_if, ends_unless}
use Rattle.sa_replies.proofs.StatusLemmas.{AreData, IsCopied, content_is_data, is_copied, reply_status}
use Rattle.sa_replies.specs.Named.{AreAnsweredAlike, OnlyNamedFieldsCount, agree_where_named, compared_of, fields_of, name_and_data}
use Rattle.sa_replies.proofs.NamedJoinLemmas.{join_same, leave_same}
use Rattle.sa_replies.proofs.NamedQueryLemmas.{SameQuery, get_same, group_query, node_query, path_query, table_same}
use Rattle.sa_replies.proofs.NamedRecordLemmas.{same_group, same_node, same_path}
use Rattle.sa_replies.proofs.NamedServiceLemmas.{deleted_same, same_service, service_query, set_same}
use Rattle.sa_replies.proofs.OneLemmas.{own_bases}

-- ---- a request with other data
abbrev by_data : Request → List ℕ → Request
by_data request content = record request { content = content }

-- a result whose reply has no data
abbrev blank : Result Success MadStatus → Result Success MadStatus
blank (Ok (Success.one_reply bytes next)) = Ok (Success.one_reply [] next)
blank (Ok (Success.whole_table offset bytes)) = Ok (Success.whole_table offset bytes)
blank (Err status) = Err status

-- data of 200 bytes that are the same where the mask names a field
record SameData (request : Request) (x y : List ℕ) : Type 0 where
  fields : agree_where_named (fields_of request) request.component_mask x y ≡ true
  below : AllBelowBase 256 x
  too : AllBelowBase 256 y
  long : length x ≡ 200
  wide : length y ≡ 200

abbrev OptionsSame : List SubnetPort → SubnetPort → SaState → Option Query → Option Query → Type 0
OptionsSame ports own s None None = Unit {0}
OptionsSame ports own s (Some x) (Some y) = SameQuery ports own s x y
OptionsSame ports own s None (Some y) = ⊥
OptionsSame ports own s (Some x) None = ⊥

get_of : (ports : List SubnetPort) (own : SubnetPort) (s : SaState) (mask : ℕ) (x y : Option Query) → OptionsSame ports own s x y
    → get_outcome ports own s x ≡ get_outcome ports own s y
get_of ports own s mask None None same = refl
get_of ports own s mask (Some x) (Some y) same = get_same ports own s mask x y same
get_of ports own s mask None (Some y) same = absurd same
get_of ports own s mask (Some x) None same = absurd same

table_at : (ports : List SubnetPort) (own : SubnetPort) (s : SaState) (mask : ℕ) (x y : Option Query) → OptionsSame ports own s x y
    → table_outcome ports own s x ≡ table_outcome ports own s y
table_at ports own s mask None None same = refl
table_at ports own s mask (Some x) (Some y) same = table_same ports own s mask x y same
table_at ports own s mask None (Some y) same = absurd same
table_at ports own s mask (Some x) None same = absurd same

module _ (ports : List SubnetPort) (own : SubnetPort) (s : SaState) (request : Request) (x y : List ℕ) (same : SameData request x y)
    (distinct : IsDistinct nat_eq (map (λ partition. partition.base) s.partitions)) where
  abbrev mask : ℕ
  mask = request.component_mask

  queries_same : OptionsSame ports own s (query_of (by_data request x)) (query_of (by_data request y))
  queries_same = elim (cases_Bool (is_about sa_attribute.NodeRecord request)) [
    | inl nodes ↦ let agree = rw nodes at same.fields in rw nodes (node_query ports own s mask (node_in x) (node_in y) (same_node mask x y agree))
    | inr no_nodes ↦ elim (cases_Bool (is_about sa_attribute.PathRecord request)) [
      | inl paths ↦ let agree = rw (no_nodes, paths) at same.fields in rw (no_nodes, paths) (path_query ports own s mask (path_in x) (path_in y) (same_path mask x y agree))
      | inr no_paths ↦ elim (cases_Bool (is_about sa_attribute.McMemberRecord request)) [
        | inl groups ↦
            let agree = rw (no_nodes, no_paths, groups) at same.fields in
            rw (no_nodes, no_paths, groups) (group_query ports own s mask (group_in x) (group_in y) (same_group mask x y agree))
        | inr no_groups ↦ elim (cases_Bool (is_about sa_attribute.ServiceRecord request)) [
          | inl services ↦
              let agree = rw (no_nodes, no_paths, no_groups, services) at same.fields in
              rw (no_nodes, no_paths, no_groups, services)
              (service_query mask (service_in x) (service_in y) (same_service mask x y same.below same.too same.long same.wide agree) ports own s)
          | inr no_services ↦ rw (no_nodes, no_paths, no_groups, no_services) tt
        ]
      ]
    ]
  ]

  -- of an attribute, whatever of the attributes before it
  of_groups : is_about sa_attribute.McMemberRecord request ≡ true → agree_where_named mc_member_record_asked mask x y ≡ true
  of_groups groups =
      let attribute = eqb-true request.header.attribute_id 56 groups in
      rw attribute at same.fields

  of_services : is_about sa_attribute.ServiceRecord request ≡ true → agree_where_named (service_record_asked ++ name_and_data) mask x y ≡ true
  of_services services =
      let attribute = eqb-true request.header.attribute_id 49 services in
      rw attribute at same.fields

  set_or_refused_same : set_or_refused ports own s (by_data request x) ≡ set_or_refused ports own s (by_data request y)
  set_or_refused_same = elim (cases_Bool (is_about sa_attribute.McMemberRecord request)) [
    | inl groups ↦ rw groups (join_same ports own s mask (group_in x) (group_in y) (same_group mask x y (of_groups groups)) distinct)
    | inr no_groups ↦ elim (cases_Bool (is_about sa_attribute.ServiceRecord request)) [
      | inl services ↦
          rw (no_groups, services)
          (set_same mask (service_in x) (service_in y) (same_service mask x y same.below same.too same.long same.wide (of_services services)) own s)
      | inr no_services ↦ rw (no_groups, no_services) refl
    ]
  ]

  -- what a Delete leaves, whatever the data of its reply
  blank_unless : (refused : Option MadStatus) (a b : List ℕ) (next : SaState) → blank (unless_status refused (Ok (Success.one_reply a next))) ≡ blank (unless_status refused (Ok (Success.one_reply b next)))
  blank_unless None a b next = refl
  blank_unless (Some status) a b next = refl

  outer_unless : (refused : Option MadStatus) (a b : Result Success MadStatus) → blank a ≡ blank b → blank (unless_status refused a) ≡ blank (unless_status refused b)
  outer_unless None a b e = e
  outer_unless (Some status) a b e = refl

  leave_blank : blank (leave_outcome ports own s mask (group_in x) x) ≡ blank (leave_outcome ports own s mask (group_in x) y)
  leave_blank =
      let asked = group_in x in
      blank_unless (first_refusal (leave_questions own s mask asked)) x y (record s { partitions = left ports (leave_asked own mask asked) s.partitions })

  deleted_blank : blank (service_deleted own s mask (service_in x) x) ≡ blank (service_deleted own s mask (service_in x) y)
  deleted_blank =
      let asked = service_in x in
      let change = change_asked own asked (Deed.deletes asked.service_id) in
      outer_unless (first_refusal (owner_questions own mask asked)) (delete_outcome s asked change x) (delete_outcome s asked change y)
      (blank_unless (first_refusal (refused_if (not (list_any (has_id asked.service_id) (services_at change s.services))) NoRecords ∷ [])) x y (after_change s change))

  delete_or_refused_same : blank (delete_or_refused ports own s (by_data request x)) ≡ blank (delete_or_refused ports own s (by_data request y))
  delete_or_refused_same = elim (cases_Bool (is_about sa_attribute.McMemberRecord request)) [
    | inl groups ↦
        rw groups (leave_blank ∙ ap blank (leave_same ports own s mask (group_in x) (group_in y) (same_group mask x y (of_groups groups)) y))
    | inr no_groups ↦ elim (cases_Bool (is_about sa_attribute.ServiceRecord request)) [
      | inl services ↦
          rw (no_groups, services) (deleted_blank ∙ ap blank
          (deleted_same mask (service_in x) (service_in y) (same_service mask x y same.below same.too same.long same.wide (of_services services)) own s y))
      | inr no_services ↦ rw (no_groups, no_services) refl
    ]
  ]

  -- ---- by method
  outcome_same : (request.header.method == method_code Delete) ≡ false → outcome ports own s (by_data request x) ≡ outcome ports own s (by_data request y)
  outcome_same other =
      let method = request.header.method in
      let got = get_of ports own s mask (query_of (by_data request x)) (query_of (by_data request y)) queries_same in
      let tables = table_at ports own s mask (query_of (by_data request x)) (query_of (by_data request y)) queries_same in
      let set = set_or_refused_same in
      let rest : (if method == method_code Delete then delete_or_refused ports own s (by_data request x) else Err MethodNotSupported)
      ≡ (if method == method_code Delete then delete_or_refused ports own s (by_data request y) else Err MethodNotSupported) = rw other refl in
      (λ i. if method == method_code Get then got i
      else if method == method_code GetTable then tables i
      else if method == method_code Set then set i
      else rest i)

pub outcome_of_delete : (ports : List SubnetPort) (own : SubnetPort) (s : SaState) (request : Request) → request.header.method ≡ method_code Delete
    → outcome ports own s request ≡ delete_or_refused ports own s request
outcome_of_delete ports own s request method = rw method refl

-- ---- the reply to a Delete repeats its data
abbrev Repeats : List ℕ → Success → Type 0
Repeats content (Success.one_reply bytes next) = bytes ≡ content
Repeats content (Success.whole_table offset bytes) = ⊥

repeats : (ports : List SubnetPort) (own : SubnetPort) (s : SaState) (request : Request) → Ends (Repeats request.content) (delete_or_refused ports own s request)
repeats ports own s request =
    let P = Repeats request.content in
    let asked = service_in request.content in
    let change = change_asked own asked (Deed.deletes asked.service_id) in
    let leave = leave_asked own request.component_mask (group_in request.content) in
    ends_if P (is_about sa_attribute.McMemberRecord request) (leave_outcome ports own s request.component_mask (group_in request.content) request.content) _
    (ends_unless P (first_refusal (leave_questions own s request.component_mask (group_in request.content)))
    (Ok (Success.one_reply request.content (record s { partitions = left ports leave s.partitions }))) refl)
    (ends_if P (is_about sa_attribute.ServiceRecord request) (service_deleted own s request.component_mask asked request.content) (Err AttributeNotSupported)
    (ends_unless P (first_refusal (owner_questions own request.component_mask asked)) (delete_outcome s asked change request.content)
    (ends_unless P (first_refusal (refused_if (not (list_any (has_id asked.service_id) (services_at change s.services))) NoRecords ∷ []))
    (Ok (Success.one_reply request.content (after_change s change))) refl)) tt)

-- ---- as MADs
module _ (own : SubnetPort) (request : Request) (x y : List ℕ) (state : Administration) where
  reported_same : (result : Result Success MadStatus) → answered_with own (by_data request x) state result ≡ answered_with own (by_data request y) state result
  reported_same (Err status) = refl
  reported_same (Ok (Success.one_reply bytes next)) = refl
  reported_same (Ok (Success.whole_table offset bytes)) = refl

  rmpp_same : (table : Option Transfer) → after_rmpp own state (on_rmpp (by_data request x) table) ≡ after_rmpp own state (on_rmpp (by_data request y) table)
  rmpp_same None = refl
  rmpp_same (Some transfer) = refl

  -- of a Delete the status
  statuses_same : AreData x → AreData y → IsCopied (by_data request x) → IsCopied (by_data request y) → request.header.method ≡ method_code Delete
      → (a b : Result Success MadStatus) → Ends (Repeats x) a → Ends (Repeats y) b → blank a ≡ blank b
      → AreAnsweredAlike request.header.method (answered_with own (by_data request x) state a) (answered_with own (by_data request y) state b)
  statuses_same are too copied other method (Err status) (Err its) first second same =
      let status_is : status ≡ its = cc in
      record { mads = ap (λ found. map (compared_of request.header.method) (refusal_reply (by_data request y) found ∷ [])) status_is; after = refl }
  statuses_same are too copied other method (Err status) (Ok (Success.one_reply c m)) first second same = absurd (cc)
  statuses_same are too copied other method (Err status) (Ok (Success.whole_table o c)) first second same = absurd second
  statuses_same are too copied other method (Ok (Success.one_reply b n)) (Err its) first second same = absurd (cc)
  statuses_same are too copied other method (Ok (Success.whole_table o b)) (Err its) first second same = absurd first
  statuses_same are too copied other method (Ok (Success.whole_table o b)) (Ok c) first second same = absurd first
  statuses_same are too copied other method (Ok (Success.one_reply b n)) (Ok (Success.whole_table o c)) first second same = absurd second
  statuses_same are too copied other method (Ok (Success.one_reply b n)) (Ok (Success.one_reply c m)) first second same =
      let next : n ≡ m = cc in
      let one : field (reply (by_data request x) b) 32 16 ≡ 0 = reply_status (by_data request x) b copied (subst AreData (sym first) are) in
      let two : field (reply (by_data request y) c) 32 16 ≡ 0 = reply_status (by_data request y) c other (subst AreData (sym second) too) in
      record {
        mads = subst (λ (n : ℕ). map (compared_of n) (reply (by_data request x) b ∷ []) ≡ map (compared_of n) (reply (by_data request y) c ∷ [])) (sym method)
            (λ i. ((one ∙ sym two) i ∷ []) ∷ []);
        after = ap (λ (remembered : SaState). record state { remembered = remembered }) next;
      }

-- ---- whichever branch is taken
alike_if : (method : ℕ) (test : Bool) (a b c d : Answered) → AreAnsweredAlike method a c → AreAnsweredAlike method b d
    → AreAnsweredAlike method (if test then a else b) (if test then c else d)
alike_if method true a b c d first second = first
alike_if method false a b c d first second = second

alike_unless : (method : ℕ) (test : Bool) (a b c d : Answered) → AreAnsweredAlike method a c → (test ≡ false → AreAnsweredAlike method b d)
    → AreAnsweredAlike method (if test then a else b) (if test then c else d)
alike_unless method true a b c d first second = first
alike_unless method false a b c d first second = second refl

equal_alike : (method : ℕ) (a b : Answered) → a ≡ b → AreAnsweredAlike method a b
equal_alike method a b same = record { mads = ap (λ (answered : Answered). map (compared_of method) answered.0) same; after = ap (λ (answered : Answered). answered.1) same }

module _ (ports : List SubnetPort) (own : SubnetPort) (request : Request) (x y : List ℕ) (state : Administration) (same : SameData request x y)
    (distinct : IsDistinct nat_eq (map (λ partition. partition.base) state.remembered.partitions))
    (left_copied : is_response request.header ≡ false → IsCopied (by_data request x))
    (right_copied : is_response request.header ≡ false → IsCopied (by_data request y)) where
  as_data : (bytes : List ℕ) → AllBelowBase 256 bytes → length bytes ≡ 200 → AreData bytes
  as_data bytes below long = record { below = below; short = omega (arith, long) }

  request_alike : is_response request.header ≡ false
      → AreAnsweredAlike request.header.method (answered_with own (by_data request x) state (outcome ports own state.remembered (by_data request x)))
      (answered_with own (by_data request y) state (outcome ports own state.remembered (by_data request y)))
  request_alike asks = elim (cases_Bool (request.header.method == method_code Delete)) [
    | inl deletes ↦
        let method : request.header.method ≡ method_code Delete = eqb-true request.header.method (method_code Delete) deletes in
        let s = state.remembered in
        let alike = statuses_same own request x y state (as_data x same.below same.long) (as_data y same.too same.wide) (left_copied asks) (right_copied asks) method
        (delete_or_refused ports own s (by_data request x)) (delete_or_refused ports own s (by_data request y))
        (repeats ports own s (by_data request x)) (repeats ports own s (by_data request y)) (delete_or_refused_same ports own s request x y same distinct) in
        subst (λ (result : Result Success MadStatus). AreAnsweredAlike request.header.method (answered_with own (by_data request x) state result)
        (answered_with own (by_data request y) state (outcome ports own s (by_data request y)))) (sym (outcome_of_delete ports own s (by_data request x) method))
        (subst (λ (result : Result Success MadStatus). AreAnsweredAlike request.header.method
        (answered_with own (by_data request x) state (delete_or_refused ports own s (by_data request x)))
        (answered_with own (by_data request y) state result)) (sym (outcome_of_delete ports own s (by_data request y) method)) alike)
    | inr other ↦
        equal_alike request.header.method _ _
        (ap (answered_with own (by_data request x) state) (outcome_same ports own state.remembered request x y same distinct other)
        ∙ reported_same own request x y state (outcome ports own state.remembered (by_data request y)))
  ]

  answers_alike : AreAnsweredAlike request.header.method (answer_to ports own (by_data request x) state) (answer_to ports own (by_data request y) state)
  answers_alike =
      let method = request.header.method in
      alike_if method (not (has_versions request.header)) (version_refused (by_data request x), state) _ (version_refused (by_data request y), state) _
      (record { mads = refl; after = refl })
      (alike_if method (bit_and request.rmpp.flags 1 == 1)
      (after_rmpp own state (on_rmpp (by_data request x) (table_of own.guid state.transfers))) _
      (after_rmpp own state (on_rmpp (by_data request y) (table_of own.guid state.transfers))) _
      (equal_alike method _ _ (rmpp_same own request x y state (table_of own.guid state.transfers)))
      (alike_unless method (is_response request.header) ([], state) _ ([], state) _ (record { mads = refl; after = refl }) request_alike))

-- ---- the data of a MAD of 256 bytes
content_long : (payload : List ℕ) → length payload ≡ 256 → length (request_in payload).content ≡ 200
unfolding request_in
content_long payload long =
    let left = length-drop 56 payload in
    let size = length-take 200 (drop 56 payload) in
    omega (arith, left, size, long)

class_of : (payload : List ℕ) → (request_in payload).header.mgmt_class ≡ field payload 8 8
unfolding request_in
class_of payload = refl

with_own_data : (request other : Request) → request.header ≡ other.header → request.rmpp ≡ other.rmpp → request.component_mask ≡ other.component_mask
    → request ≡ by_data other request.content
with_own_data request other header rmpp component_mask =
    (λ i. record { header = header i; rmpp = rmpp i; component_mask = component_mask i; content = request.content })

pub only_named_fields_count : OnlyNamedFieldsCount
only_named_fields_count configuration own x y state configured found is same = elim (cases_Bool (length x == 256)) [
  | inl long ↦ elim (cases_Bool (field x 8 8 == 3)) [
    | inl ours ↦ rw (size, class, long, ours) (asked (eqb-true (length x) 256 long))
    | inr other ↦ rw (size, class, long, other) nothing
  ]
  | inr other ↦ rw (size, other) nothing
]
  where
    ports : List SubnetPort
    ports = configuration.ports

    size : length y ≡ length x
    size = sym same.long

    class : field y 8 8 ≡ field x 8 8
    class = sym (class_of y) ∙ (sym (ap (λ (header : Header). header.mgmt_class) same.header) ∙ class_of x)

    nothing : AreAnsweredAlike (request_in x).header.method ([], state) ([], state)
    nothing = record { mads = refl; after = refl }

    p : Request
    p = request_in x

    q : Request
    q = request_in y

    asked : length x ≡ 256 → AreAnsweredAlike (request_in x).header.method (answer_to ports own (request_in x) state) (answer_to ports own (request_in y) state)
    asked long =
        let right : request_in y ≡ by_data (request_in x) (request_in y).content = with_own_data (request_in y) (request_in x) (sym same.header) (sym same.rmpp) (sym same.component_mask) in
        let copied : is_response (request_in x).header ≡ false → IsCopied (by_data (request_in x) (request_in y).content) =
        (λ asks. subst IsCopied right (is_copied y (ap is_response (sym same.header) ∙ asks))) in
        let alike = answers_alike ports own (request_in x) (request_in x).content (request_in y).content state
        (record {
          fields = same.fields;
          below = (content_is_data x same.bytes).below;
          too = (content_is_data y same.other_bytes).below;
          long = content_long x long;
          wide = content_long y (size ∙ long);
        }) (own_bases configuration state.remembered configured is.remembered) (is_copied x) copied in
        subst (λ (request : Request). AreAnsweredAlike (request_in x).header.method (answer_to ports own (request_in x) state) (answer_to ports own request state)) (sym right) alike
