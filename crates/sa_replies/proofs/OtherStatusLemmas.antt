-- Gets, GetTables, and Sets and Deletes of services are refused by the first reason that holds.
use Rattle.std.proofs.Common.{ℕ, ◌≡◌, ◌∙◌, ◌+◌, ◌≤◌, ◌==◌, ◌&&◌, ◌||◌, Bool, true, false, not, nat_le, nat_lt, if◌then◌else◌, List, [], ◌∷◌, ◌++◌, length, Some, None, Result, Ok, Err, ap, refl, sym, subst, inl, inr, arith}
use Rattle.std.specs.List.{list_any}
use Rattle.std.proofs.lemmas.Bool.{and_parts, cases_Bool, eqb-true, not-true, or_parts}
use Rattle.std.proofs.lemmas.Bool.Decides.{nat_tests}
use Rattle.mad_layout.specs.Method.{method_code}
use Rattle.mad_layout.specs.declared.method.Method.TheVariants.{Get, Set, GetTable, Delete}
use Rattle.mad_layout.specs.declared.status.MadStatus.{MadStatus}
use Rattle.mad_layout.specs.declared.status.MadStatus.TheVariants.{NoRecords, NoResources}
use Rattle.pkey_rules.specs.PKey.{base_of}
use Rattle.sa_records.specs.McMemberMask as member_mask
use Rattle.sa_records.specs.McMemberRecord.{group_in}
use Rattle.sa_records.specs.NodeRecord.{node_in}
use Rattle.sa_records.specs.PathMask as path_mask
use Rattle.sa_records.specs.PathRecord.{path_in}
use Rattle.sa_records.specs.ServiceRecord.{service_in}
use Rattle.sa_records.specs.declared.mc_member_record.McMemberRecord.{McMemberRecord}
use Rattle.sa_records.specs.declared.path_record.PathRecord.{PathRecord}
use Rattle.sa_records.specs.declared.sa_attribute.SaAttribute.TheVariants as sa_attribute
use Rattle.sa_records.specs.declared.service_record.ServiceRecord.{ServiceRecord}
use Rattle.subnet_model.specs.declared.subnet_port.SubnetPort.{SubnetPort}
use Rattle.sa_model.specs.Members.{is_in}
use Rattle.sa_model.specs.ServiceChange.{Deed, has_id, has_room}
use Rattle.sa_model.specs.Gid.{gid_of}
use Rattle.sa_model.specs.Outcome.{got, table, the_only_one}
use Rattle.sa_model.specs.Refusals.{questions, refused_if}
use Rattle.sa_model.specs.Selected.{Query, asks, paths_wanted, selected}
use Rattle.sa_model.specs.Shown.{Entry}
use Rattle.sa_model.specs.Visible.{SaState}
use Rattle.sa_replies.specs.Answer.{all_records, answer, get_outcome, one_record, outcome, query_of, table_outcome}
use Rattle.sa_replies.specs.Request.{Request, has_versions, is_about, request_in}
use Rattle.sa_replies.specs.ServiceRequests.{after_change, change_asked, delete_outcome, owner_questions, service_asked, service_deleted, service_set, services_at, set_outcome, shown_bytes}
use Rattle.sa_replies.specs.Success.{Success}
use Rattle.sa_replies.specs.Reasons.{Reason, because, lacks, names_unknown, status_by}
use Rattle.sa_replies.specs.RecordReasons.{is_offered, reasons_of_count, reasons_of_deletion, reasons_of_get, reasons_of_groups, reasons_of_owner, reasons_of_path, reasons_of_set, reasons_of_table, services_of}
use Rattle.sa_replies.specs.Refused.{IsRefusedBy, RequestsAreRefusedByReasons, is_deletion, is_get, is_get_table, is_join, is_leave, is_of_record, is_other, is_set, reasons_of_other}
use Rattle.sa_replies.proofs.JoinStatusLemmas.{joins_are_refused_by_reasons, lacks_one, one_lacks, unknown_mtu, unknown_rate}
use Rattle.sa_replies.proofs.LeaveStatusLemmas.{leaves_are_refused_by_reasons}
use Rattle.sa_replies.proofs.StatusByLemmas.{code_by, code_of, either, else_by, else_more, else_none, reasons_in, status_is}

-- ---- services
lacks_owner : (mask : ℕ) → lacks mask (1 ∷ 2 ∷ 4 ∷ []) ≡ not (asks mask 7)
lacks_owner mask = lacks_one mask 1 6 (2 ∷ 4 ∷ []) 7 refl refl refl (lacks_one mask 2 4 (4 ∷ []) 6 refl refl refl (one_lacks mask 4))

by_owner : (own : SubnetPort) (mask : ℕ) (asked : ServiceRecord) (rest : ℕ)
    → else_by (reasons_in (owner_questions own mask asked)) rest ≡ else_by (reasons_of_owner own mask asked) rest
by_owner own mask asked rest =
    let needed = sym (lacks_owner mask) in
    (λ i. if needed i then 1536
    else if not (asked.service_gid == gid_of own.guid) then 1280
    else if not (is_in own (base_of asked.service_p_key)) then 512
    else rest)

no_room : (offered : Bool) (count : ℕ) → not (offered || nat_lt count 16) ≡ (not offered && nat_le 16 count)
no_room true count = refl
no_room false count = grind (arith, nat_tests)

set_status : (own : SubnetPort) (s : SaState) (ports : List SubnetPort) (request : Request)
    → code_of (service_set own s request.component_mask (service_in request.content)) ≡ status_by (reasons_of_set ports own s request)
set_status own s ports request =
    let mask = request.component_mask in
    let asked = service_in request.content in
    let service = service_asked mask asked in
    let change = change_asked own asked (Deed.sets service) in
    let full = no_room (is_offered own asked s) (length (services_of own asked s)) in
    let last = status_by (because (not (is_offered own asked s) && nat_le 16 (length (services_of own asked s))) 256 ∷ []) in
    code_by (owner_questions own mask asked) (set_outcome own s asked service change)
    ∙ (ap (else_by (reasons_in (owner_questions own mask asked)))
    (code_by (refused_if (not (has_room service.service_id (services_at change s.services))) NoResources ∷ [])
    (Ok (Success.one_reply (shown_bytes own asked service) (after_change s change)))
    ∙ (λ i. if full i then 256 else 0))
    ∙ (by_owner own mask asked last
    ∙ sym (else_more (reasons_of_owner own mask asked) (because (not (is_offered own asked s) && nat_le 16 (length (services_of own asked s))) 256 ∷ []))))

deletion_status : (own : SubnetPort) (s : SaState) (ports : List SubnetPort) (request : Request)
    → code_of (service_deleted own s request.component_mask (service_in request.content) request.content) ≡ status_by (reasons_of_deletion ports own s request)
deletion_status own s ports request =
    let mask = request.component_mask in
    let asked = service_in request.content in
    let change = change_asked own asked (Deed.deletes asked.service_id) in
    let last = because (not (is_offered own asked s)) 768 ∷ [] in
    code_by (owner_questions own mask asked) (delete_outcome s asked change request.content)
    ∙ (ap (else_by (reasons_in (owner_questions own mask asked)))
    (code_by (refused_if (not (list_any (has_id asked.service_id) (services_at change s.services))) NoRecords ∷ [])
    (Ok (Success.one_reply request.content (after_change s change))))
    ∙ (by_owner own mask asked (status_by last) ∙ sym (else_more (reasons_of_owner own mask asked) last)))

outcome_of_set : (ports : List SubnetPort) (own : SubnetPort) (s : SaState) (request : Request) → request.header.method ≡ method_code Set
    → request.header.attribute_id ≡ 49 → outcome ports own s request ≡ service_set own s request.component_mask (service_in request.content)
outcome_of_set ports own s request method attribute = rw (method, attribute) refl

outcome_of_deletion : (ports : List SubnetPort) (own : SubnetPort) (s : SaState) (request : Request) → request.header.method ≡ method_code Delete
    → request.header.attribute_id ≡ 49
    → outcome ports own s request ≡ service_deleted own s request.component_mask (service_in request.content) request.content
outcome_of_deletion ports own s request method attribute = rw (method, attribute) refl

-- ---- records
codes_of_paths : (mask : ℕ) (asked : PathRecord) (rest : ℕ)
    → (if names_unknown mask path_mask.mtu 1 5 asked.mtu then 512 else if names_unknown mask path_mask.rate 2 10 asked.rate then 512 else rest)
    ≡ (if names_unknown mask path_mask.mtu 1 5 asked.mtu || names_unknown mask path_mask.rate 2 10 asked.rate then 512 else rest)
codes_of_paths mask asked rest = sym (either (names_unknown mask path_mask.mtu 1 5 asked.mtu) (names_unknown mask path_mask.rate 2 10 asked.rate) 512 rest)

by_path : (own : SubnetPort) (mask : ℕ) (asked : PathRecord) (rest : ℕ)
    → else_by (reasons_in (questions own (Query.for_paths mask asked))) rest ≡ else_by (reasons_of_path own mask asked) rest
by_path own mask asked rest =
    let mtu = unknown_mtu mask path_mask.mtu asked.mtu in
    let rate = unknown_rate mask path_mask.rate asked.rate in
    let behind = λ (tail : ℕ).
    if not (asks mask path_mask.sgid) && not (asks mask path_mask.slid) then 1536
    else if asks mask path_mask.sgid && not (asked.sgid == gid_of own.guid) then 1280
    else if asks mask path_mask.numb_path && (asked.numb_path == 0) then 512
    else tail in
    (λ i. behind (if mtu i then 512 else if rate i then 512 else rest)) ∙ ap behind (codes_of_paths mask asked rest)

by_group : (own : SubnetPort) (mask : ℕ) (asked : McMemberRecord) (rest : ℕ)
    → else_by (reasons_in (questions own (Query.for_groups mask asked))) rest ≡ else_by (reasons_of_groups mask asked) rest
by_group own mask asked rest =
    let mtu = unknown_mtu mask member_mask.mtu asked.mtu in
    let rate = unknown_rate mask member_mask.rate asked.rate in
    (λ i. if mtu i then 512 else if rate i then 512 else rest)
    ∙ sym (either (names_unknown mask member_mask.mtu 1 5 asked.mtu) (names_unknown mask member_mask.rate 2 10 asked.rate) 512 rest)

one_code : (s : SaState) (result : Result Entry MadStatus) → code_of (one_record s result) ≡ code_of result
one_code s (Ok entry) = refl
one_code s (Err status) = refl

table_code : (query : Query) (result : Result (List Entry) MadStatus) → code_of (all_records query result) ≡ code_of result
table_code query (Ok entries) = refl
table_code query (Err status) = refl

many : (count : ℕ) → 2 ≤ count → status_by (reasons_of_count count) ≡ 1024
many count more =
    let some : (count == 0) ≡ false = grind (arith, nat_tests, more) in
    let several : nat_lt 1 count ≡ true = grind (arith, nat_tests, more) in
    rw (some, several) refl

only_code : (entries : List Entry) → code_of (the_only_one entries) ≡ status_by (reasons_of_count (length entries))
only_code [] = refl
only_code (x ∷ []) = refl
only_code (x ∷ y ∷ rest) = sym (many (length (x ∷ y ∷ rest)) (omega arith))

-- what a Get and a GetTable of a query end in
module _ (ports : List SubnetPort) (own : SubnetPort) (s : SaState) (query : Query) (reasons : List Reason)
    (same : (rest : ℕ) → else_by (reasons_in (questions own query)) rest ≡ else_by reasons rest) where
  get_of_query : code_of (get_outcome ports own s (Some query)) ≡ status_by (reasons ++ reasons_of_count (length (selected (Some 1) ports own s query)))
  get_of_query =
      let found = selected (Some 1) ports own s query in
      one_code s (got ports own s query)
      ∙ (code_by (questions own query) (the_only_one found)
      ∙ (ap (else_by (reasons_in (questions own query))) (only_code found)
      ∙ (same (status_by (reasons_of_count (length found))) ∙ sym (else_more reasons (reasons_of_count (length found))))))

  table_of_query : code_of (table_outcome ports own s (Some query)) ≡ status_by reasons
  table_of_query =
      table_code query (table ports own s query)
      ∙ (code_by (questions own query) (Ok (selected (paths_wanted query) ports own s query)) ∙ (same 0 ∙ else_none reasons))

-- ---- by attribute
by_attribute : (Q : ℕ → Type 0) (attribute : ℕ) → Q 17 → Q 53 → Q 56 → Q 49
    → ((attribute == 17) || ((attribute == 53) || ((attribute == 56) || (attribute == 49)))) ≡ true → Q attribute
by_attribute Q attribute nodes paths groups services known = elim (cases_Bool (attribute == 17)) [
  | inl is ↦ subst Q (sym (eqb-true attribute 17 is)) nodes
  | inr no_node ↦ elim (cases_Bool (attribute == 53)) [
    | inl is ↦ subst Q (sym (eqb-true attribute 53 is)) paths
    | inr no_path ↦ elim (cases_Bool (attribute == 56)) [
      | inl is ↦ subst Q (sym (eqb-true attribute 56 is)) groups
      | inr no_group ↦ elim (cases_Bool (attribute == 49)) [
        | inl is ↦ subst Q (sym (eqb-true attribute 49 is)) services
        | inr no_service ↦ let wrong : false ≡ true = rw (no_node, no_path, no_group, no_service) at known in absurd (cc)
      ]
    ]
  ]
]

-- a request for this attribute
abbrev about : Request → ℕ → Request
about request attribute = record request { header = record request.header { attribute_id = attribute } }

get_status : (ports : List SubnetPort) (own : SubnetPort) (s : SaState) (request : Request) → is_of_record request ≡ true
    → code_of (get_outcome ports own s (query_of request)) ≡ status_by (reasons_of_get ports own s request)
get_status ports own s request =
    let mask = request.component_mask in
    by_attribute (λ n. code_of (get_outcome ports own s (query_of (about request n))) ≡ status_by (reasons_of_get ports own s (about request n))) request.header.attribute_id
    (get_of_query ports own s (Query.for_nodes mask (node_in request.content)) [] (λ rest. refl))
    (get_of_query ports own s (Query.for_paths mask (path_in request.content)) (reasons_of_path own mask (path_in request.content)) (by_path own mask (path_in request.content)))
    (get_of_query ports own s (Query.for_groups mask (group_in request.content)) (reasons_of_groups mask (group_in request.content)) (by_group own mask (group_in request.content)))
    (get_of_query ports own s (Query.for_services mask (service_in request.content)) [] (λ rest. refl))

table_status : (ports : List SubnetPort) (own : SubnetPort) (s : SaState) (request : Request) → is_of_record request ≡ true
    → code_of (table_outcome ports own s (query_of request)) ≡ status_by (reasons_of_table ports own s request)
table_status ports own s request =
    let mask = request.component_mask in
    by_attribute (λ n. code_of (table_outcome ports own s (query_of (about request n))) ≡ status_by (reasons_of_table ports own s (about request n))) request.header.attribute_id
    (table_of_query ports own s (Query.for_nodes mask (node_in request.content)) [] (λ rest. refl))
    (table_of_query ports own s (Query.for_paths mask (path_in request.content)) (reasons_of_path own mask (path_in request.content)) (by_path own mask (path_in request.content)))
    (table_of_query ports own s (Query.for_groups mask (group_in request.content)) (reasons_of_groups mask (group_in request.content)) (by_group own mask (group_in request.content)))
    (table_of_query ports own s (Query.for_services mask (service_in request.content)) [] (λ rest. refl))

outcome_of_get : (ports : List SubnetPort) (own : SubnetPort) (s : SaState) (request : Request) → request.header.method ≡ method_code Get
    → outcome ports own s request ≡ get_outcome ports own s (query_of request)
outcome_of_get ports own s request method = rw method refl

outcome_of_table : (ports : List SubnetPort) (own : SubnetPort) (s : SaState) (request : Request) → request.header.method ≡ method_code GetTable
    → outcome ports own s request ≡ table_outcome ports own s (query_of request)
outcome_of_table ports own s request method = rw method refl

-- ---- all together
abbrev says : Request → ℕ → List ℕ
says request code = (if not (has_versions request.header) then 4 else code) ∷ []

sets : IsRefusedBy is_set reasons_of_set answer
sets configuration own payload state configured found is below asks set =
    let request = request_in payload in
    let ports = configuration.ports in
    let s = state.remembered in
    let parts = and_parts (request.header.method == method_code Set) (is_about sa_attribute.ServiceRecord request) set in
    status_is configuration own payload state configured found is below asks
    ∙ ap (says request) (ap code_of (outcome_of_set ports own s request (eqb-true request.header.method (method_code Set) parts.0)
    (eqb-true request.header.attribute_id 49 parts.1)) ∙ set_status own s ports request)

deletions : IsRefusedBy is_deletion reasons_of_deletion answer
deletions configuration own payload state configured found is below asks deletion =
    let request = request_in payload in
    let ports = configuration.ports in
    let s = state.remembered in
    let parts = and_parts (request.header.method == method_code Delete) (is_about sa_attribute.ServiceRecord request) deletion in
    status_is configuration own payload state configured found is below asks
    ∙ ap (says request) (ap code_of (outcome_of_deletion ports own s request (eqb-true request.header.method (method_code Delete) parts.0)
    (eqb-true request.header.attribute_id 49 parts.1)) ∙ deletion_status own s ports request)

gets : IsRefusedBy is_get reasons_of_get answer
gets configuration own payload state configured found is below asks get =
    let request = request_in payload in
    let ports = configuration.ports in
    let s = state.remembered in
    let parts = and_parts (request.header.method == method_code Get) (is_of_record request) get in
    status_is configuration own payload state configured found is below asks
    ∙ ap (says request) (ap code_of (outcome_of_get ports own s request (eqb-true request.header.method (method_code Get) parts.0))
    ∙ get_status ports own s request parts.1)

tables : IsRefusedBy is_get_table reasons_of_table answer
tables configuration own payload state configured found is below asks get =
    let request = request_in payload in
    let ports = configuration.ports in
    let s = state.remembered in
    let parts = and_parts (request.header.method == method_code GetTable) (is_of_record request) get in
    status_is configuration own payload state configured found is below asks
    ∙ ap (says request) (ap code_of (outcome_of_table ports own s request (eqb-true request.header.method (method_code GetTable) parts.0))
    ∙ table_status ports own s request parts.1)

-- ---- a request of another method or attribute
no_query : (request : Request) → is_of_record request ≡ false → query_of request ≡ None
no_query request other =
    let one = or_parts (is_about sa_attribute.NodeRecord request) _ other in
    let two = or_parts (is_about sa_attribute.PathRecord request) _ one.1 in
    let three = or_parts (is_about sa_attribute.McMemberRecord request) (is_about sa_attribute.ServiceRecord request) two.1 in
    rw (one.0, two.0, three.0, three.1) refl

not_this : (method attribute : Bool) → (method && attribute) ≡ false → method ≡ true → attribute ≡ false
not_this true attribute apart this = apart
not_this false attribute apart this = absurd (cc)

other_status : (ports : List SubnetPort) (own : SubnetPort) (s : SaState) (request : Request) → is_other request ≡ true
    → code_of (outcome ports own s request) ≡ status_by (reasons_of_other ports own s request)
other_status ports own s request other =
    let joins = or_parts (is_join request) _ (not-true _ other) in
    let leaves = or_parts (is_leave request) _ joins.1 in
    let sets = or_parts (is_set request) _ leaves.1 in
    let deletions = or_parts (is_deletion request) _ sets.1 in
    let gets = or_parts (is_get request) (is_get_table request) deletions.1 in
    let groups = is_about sa_attribute.McMemberRecord request in
    let services = is_about sa_attribute.ServiceRecord request in
    let record_wanted = is_of_record request in
    elim (cases_Bool (request.header.method == method_code Get)) [
      | inl get ↦ let none = no_query request (not_this _ record_wanted gets.0 get) in rw (get, none) refl
      | inr no_get ↦ elim (cases_Bool (request.header.method == method_code GetTable)) [
        | inl table ↦ let none = no_query request (not_this _ record_wanted gets.1 table) in rw (no_get, table, none) refl
        | inr no_table ↦ elim (cases_Bool (request.header.method == method_code Set)) [
          | inl set ↦ rw (no_get, no_table, set, not_this _ groups joins.0 set, not_this _ services sets.0 set) refl
          | inr no_set ↦ elim (cases_Bool (request.header.method == method_code Delete)) [
            | inl delete ↦ rw (no_get, no_table, no_set, delete, not_this _ groups leaves.0 delete, not_this _ services deletions.0 delete) refl
            | inr no_delete ↦ rw (no_get, no_table, no_set, no_delete) refl
          ]
        ]
      ]
    ]

others : IsRefusedBy is_other reasons_of_other answer
others configuration own payload state configured found is below asks other =
    status_is configuration own payload state configured found is below asks
    ∙ ap (says (request_in payload)) (other_status configuration.ports own state.remembered (request_in payload) other)

pub requests_are_refused_by_reasons : RequestsAreRefusedByReasons
requests_are_refused_by_reasons = record {
  joins = joins_are_refused_by_reasons;
  leaves = leaves_are_refused_by_reasons;
  sets = sets;
  deletions = deletions;
  gets = gets;
  tables = tables;
  others = others;
}
