-- What is noted of records that are asked for names their sources.
use Rattle.std.proofs.Common.{ℕ, ◌≡◌, ◌==◌, ◌&&◌, ◌⊎◌, Bool, true, false, not, if◌then◌else◌, bit_and, List, [], ◌∷◌, length, map, append-nil}
use Rattle.std.proofs.Common.{Option, Some, None, Result, Ok, Err, ◌∙◌, ap, refl, sym, inl, inr}
use Rattle.std.specs.List.{AllByRecursion}
use Rattle.std.proofs.lemmas.Bool.{and_parts, cases_Bool, eqb-true}
use Rattle.mad_layout.specs.Bits.{field}
use Rattle.mad_layout.specs.Method.{method_code}
use Rattle.mad_layout.specs.declared.method.Method.TheVariants.{Get, GetTable, Set, Delete}
use Rattle.mad_layout.specs.declared.status.MadStatus.{MadStatus}
use Rattle.pkey_rules.specs.PKey.{base_of}
use Rattle.sa_records.specs.McMemberRecord.{group_in}
use Rattle.sa_records.specs.SaAttribute.{sa_attribute_code}
use Rattle.sa_records.specs.declared.sa_attribute.SaAttribute.TheVariants as sa_attribute
use Rattle.sa_model.specs.Groups.{Creator, MulticastGroup}
use Rattle.subnet_model.specs.declared.subnet_port.SubnetPort.{SubnetPort}
use Rattle.sa_model.proofs.SourceLemmas.{all_mapped, selected_say_their_source}
use Rattle.sa_model.specs.Outcome.{the_only_one, unless_status}
use Rattle.sa_model.specs.Refusals.{refusal}
use Rattle.sa_model.specs.Selected.{Query, paths_wanted, selected}
use Rattle.sa_model.specs.Shown.{Entry}
use Rattle.sa_model.specs.Visible.{SaState}
use Rattle.sa_replies.specs.Answer.{Administration, Answered, after_rmpp, answer, answered_with, outcome, query_of, version_refused}
use Rattle.sa_replies.specs.Changed.{asks_for_group}
use Rattle.sa_replies.specs.Joins.{group_named}
use Rattle.sa_replies.specs.Laws.{asks_by, asks_for_service, is_of_transfer}
use Rattle.sa_replies.specs.NamedNotes.{AreNamed, AreOfNamed, IsAllOf, IsReplyOf, group_asked_for, IsSegmentOf, NotesNameSources, StaysOrNamed}
use Rattle.sa_replies.specs.Notes.{NotedByte, NotedMad, Notes, from_source, is_request, noted_bytes, noted_get, noted_if_got, noted_if_ok}
use Rattle.sa_replies.specs.Notes.{noted_record, noted_reply, noted_request, noted_table, notes_after, with_notes}
use Rattle.sa_replies.specs.Request.{Request, has_versions, is_about, is_response, request_in}
use Rattle.sa_replies.specs.Success.{Success}
use Rattle.sa_replies.specs.Transfers.{on_rmpp, table_of}
use Rattle.sa_replies.proofs.FitLemmas.{selected_fit}
use Rattle.sa_replies.proofs.ReplySourceLemmas.{state_in}
use Rattle.step_results.proofs.ElementLemmas.{each_always}

module _ (ports : List SubnetPort) (own : SubnetPort) (state : SaState) (notes : Notes) where
  abbrev IsSo : (ℕ → List Entry) → ℕ → Type 0
  IsSo after p = StaysOrNamed ports own state notes after p

  named_selected : (most : Option ℕ) (query : Query) → AreNamed ports own state (selected most ports own state query)
  named_selected most query = record { each = selected_say_their_source most ports own state query; fit = selected_fit most ports own state query }

  written : (entries : List Entry) → AreNamed ports own state entries → (p : ℕ) → IsSo (with_notes own.guid entries notes) p
  written entries named p = elim (cases_Bool (p == own.guid)) [
    | inl its ↦ rw its (inr (eqb-true p own.guid its, named))
    | inr other ↦ rw other (inl refl)
  ]

  by_refusal : (refused : Option MadStatus) (entries : List Entry) → AreNamed ports own state entries → (p : ℕ)
      → IsSo (noted_if_ok own.guid (unless_status refused (Ok entries)) notes) p
  by_refusal None entries named p = written entries named p
  by_refusal (Some status) entries named p = inl refl

  of_table : (query : Option Query) (p : ℕ) → IsSo (noted_table ports own state query notes) p
  of_table None p = inl refl
  of_table (Some query) p =
      by_refusal (refusal own query) (selected (paths_wanted query) ports own state query) (named_selected (paths_wanted query) query) p

  of_request : (request : Request) (p : ℕ) → IsSo (noted_request ports own state request notes) p
  of_request request p = elim (cases_Bool (request.header.method == method_code GetTable)) [
    | inl table ↦ rw table (of_table (query_of request) p)
    | inr other ↦ rw other (inl refl)
  ]

  -- ---- the reply to a Get
  nothing_named : AreOfNamed ports own state []
  nothing_named = record { entries = []; named = record { each = tt; fit = λ visible. tt }; encoded = refl }

  by_only : (entries : List Entry) → AreNamed ports own state entries → (refused : Option MadStatus)
      → AreOfNamed ports own state (noted_if_got (unless_status refused (the_only_one entries)))
  by_only entries named (Some status) = nothing_named
  by_only [] named None = nothing_named
  by_only (entry ∷ []) named None = record { entries = entry ∷ []; named = named; encoded = sym (append-nil (noted_record entry)) }
  by_only (entry ∷ other ∷ more) named None = nothing_named

  of_get : (query : Option Query) → AreOfNamed ports own state (noted_get ports own state query)
  of_get None = nothing_named
  of_get (Some query) =
      by_only (selected (Some 1) ports own state query) (named_selected (Some 1) query) (refusal own query)

  of_reply : (request : Request) → (request.header.method == method_code Get) ≡ true → (result : Result Success MadStatus)
      → AreOfNamed ports own state (noted_reply ports own state request result)
  of_reply request get (Ok (Success.one_reply bytes next)) = rw get (of_get (query_of request))
  of_reply request get (Ok (Success.whole_table offset bytes)) = nothing_named
  of_reply request get (Err status) = nothing_named

-- ---- a Set is no Get, and a Delete is neither
no_get : (request : Request) → (request.header.method == method_code Set) ≡ true → (request.header.method == method_code Get) ≡ false
no_get request set = ap (λ (method : ℕ). method == method_code Get) (eqb-true request.header.method (method_code Set) set)

not_got : (request : Request) → (request.header.method == method_code Delete) ≡ true → (request.header.method == method_code Get) ≡ false
not_got request delete = ap (λ (method : ℕ). method == method_code Get) (eqb-true request.header.method (method_code Delete) delete)

no_group : (request : Request) → is_about sa_attribute.ServiceRecord request ≡ true → is_about sa_attribute.McMemberRecord request ≡ false
no_group request service =
    ap (λ (attribute : ℕ). attribute == sa_attribute_code sa_attribute.McMemberRecord)
    (eqb-true request.header.attribute_id (sa_attribute_code sa_attribute.ServiceRecord) service)

not_set : (request : Request) → (request.header.method == method_code Delete) ≡ true → (request.header.method == method_code Set) ≡ false
not_set request delete = ap (λ (method : ℕ). method == method_code Set) (eqb-true request.header.method (method_code Delete) delete)

-- ---- the replies to a Set and to a Delete
all_of_source : (source : Creator) (bytes : List ℕ) → AllByRecursion (λ (noted : NotedByte). noted.source ≡ source) (from_source source bytes)
all_of_source source [] = tt
all_of_source source (byte ∷ bytes) = (refl, all_of_source source bytes)

abbrev AreOf : Creator → List NotedByte → Type 0
AreOf source bytes = AllByRecursion (λ (noted : NotedByte). noted.source ≡ source) bytes

of_join : (ports : List SubnetPort) (own : SubnetPort) (state : SaState) (request : Request) (group : MulticastGroup)
    → (request.header.method == method_code Set) ≡ true → is_about sa_attribute.McMemberRecord request ≡ true → (result : Result Success MadStatus)
    → group_named (base_of (group_in request.content).p_key) (group_in request.content).mgid (state_in state result).partitions ≡ Some group
    → AreOf group.creator (noted_reply ports own state request result)
of_join ports own state request group set about (Ok (Success.one_reply bytes next)) named =
    rw (no_get request set, set, about, named) (all_of_source group.creator _)
of_join ports own state request group set about (Ok (Success.whole_table offset bytes)) named = tt
of_join ports own state request group set about (Err status) named = tt

of_set : (ports : List SubnetPort) (own : SubnetPort) (state : SaState) (request : Request) → (request.header.method == method_code Set) ≡ true
    → is_about sa_attribute.McMemberRecord request ≡ false → (result : Result Success MadStatus) → AreOf (Creator.Port own.guid) (noted_reply ports own state request result)
of_set ports own state request set other (Ok (Success.one_reply bytes next)) = rw (no_get request set, set, other) (all_of_source (Creator.Port own.guid) _)
of_set ports own state request set other (Ok (Success.whole_table offset bytes)) = tt
of_set ports own state request set other (Err status) = tt

of_delete : (ports : List SubnetPort) (own : SubnetPort) (state : SaState) (request : Request) → (request.header.method == method_code Delete) ≡ true
    → (result : Result Success MadStatus) → AreOf (Creator.Port own.guid) (noted_reply ports own state request result)
of_delete ports own state request delete (Ok (Success.one_reply bytes next)) = rw (not_got request delete, not_set request delete) (all_of_source (Creator.Port own.guid) request.content)
of_delete ports own state request delete (Ok (Success.whole_table offset bytes)) = tt
of_delete ports own state request delete (Err status) = tt

-- ---- what is remembered after a request is what its outcome leaves
by_request : {X : Type 0} (ours versions active response : Bool) (none refused moved ignored asked : X)
    → (ours && (versions && (not active && not response))) ≡ true
    → (if ours then if not versions then refused else if active then moved else if response then ignored else asked else none) ≡ asked
by_request false versions active response none refused moved ignored asked e = absurd (cc)
by_request true false active response none refused moved ignored asked e = absurd (cc)
by_request true true true response none refused moved ignored asked e = absurd (cc)
by_request true true false true none refused moved ignored asked e = absurd (cc)
by_request true true false false none refused moved ignored asked e = refl

left_by_result : (own : SubnetPort) (request : Request) (state : Administration) (result : Result Success MadStatus)
    → (answered_with own request state result).1.remembered ≡ state_in state.remembered result
left_by_result own request state (Ok (Success.one_reply bytes next)) = refl
left_by_result own request state (Ok (Success.whole_table offset bytes)) = refl
left_by_result own request state (Err status) = refl

remembered_by : (ports : List SubnetPort) (own : SubnetPort) (payload : List ℕ) (state : Administration) → is_request payload ≡ true
    → (answer ports own payload state).1.remembered ≡ state_in state.remembered (outcome ports own state.remembered (request_in payload))
remembered_by ports own payload state asks =
    let request = request_in payload in
    ap (λ (answered : Answered). answered.1.remembered)
    (by_request ((length payload == 256) && (field payload 8 8 == 3)) (has_versions request.header) (bit_and request.rmpp.flags 1 == 1)
    (is_response request.header) ([], state) (version_refused request, state)
    (after_rmpp own state (on_rmpp request (table_of own.guid state.transfers))) ([], state)
    (answered_with own request state (outcome ports own state.remembered request)) asks)
    ∙ left_by_result own request state (outcome ports own state.remembered request)

module _ (ports : List SubnetPort) (own : SubnetPort) (payload : List ℕ) (state : Administration) (notes : Notes) where
  for_each : (p : ℕ) → StaysOrNamed ports own state.remembered notes (notes_after ports own payload state notes) p
  for_each p = elim (cases_Bool (is_request payload)) [
    | inl asks ↦ rw asks (of_request ports own state.remembered notes (request_in payload) p)
    | inr other ↦ rw other (inl refl)
  ]

  abbrev with_bytes : List ℕ → NotedMad
  with_bytes mad = record { mad = mad; bytes = noted_bytes ports own payload state notes mad }

  is_segment : (mad : List ℕ) → IsSegmentOf (notes_after ports own payload state notes own.guid) (with_bytes mad)
  is_segment mad segment = rw segment refl

  is_reply : asks_by Get payload ≡ true → (mad : List ℕ) → IsReplyOf ports own state.remembered (with_bytes mad)
  is_reply get mad other =
      let method = and_parts (not (is_of_transfer payload)) ((request_in payload).header.method == method_code Get) get in
      elim (cases_Bool (is_request payload)) [
        | inl asks ↦ rw (other, asks) (of_reply ports own state.remembered notes (request_in payload) method.1 (outcome ports own state.remembered (request_in payload)))
        | inr none ↦ rw (other, none) (nothing_named ports own state.remembered notes)
      ]

  is_join : (group : MulticastGroup) → asks_for_group Set payload ≡ true
      → group_asked_for payload (answer ports own payload state).1.remembered.partitions ≡ Some group
      → (mad : List ℕ) → IsAllOf group.creator (with_bytes mad)
  is_join group joins named mad other =
      let parts = and_parts (asks_by Set payload) (is_about sa_attribute.McMemberRecord (request_in payload)) joins in
      let method = and_parts (not (is_of_transfer payload)) ((request_in payload).header.method == method_code Set) parts.0 in
      elim (cases_Bool (is_request payload)) [
        | inl asks ↦ rw (other, asks) (of_join ports own state.remembered (request_in payload) group method.1 parts.1
            (outcome ports own state.remembered (request_in payload))
            (ap (λ (next : SaState). group_asked_for payload next.partitions) (sym (remembered_by ports own payload state asks)) ∙ named))
        | inr none ↦ rw (other, none) tt
      ]

  is_set : asks_for_service Set payload ≡ true → (mad : List ℕ) → IsAllOf (Creator.Port own.guid) (with_bytes mad)
  is_set sets mad other =
      let parts = and_parts (asks_by Set payload) (is_about sa_attribute.ServiceRecord (request_in payload)) sets in
      let method = and_parts (not (is_of_transfer payload)) ((request_in payload).header.method == method_code Set) parts.0 in
      elim (cases_Bool (is_request payload)) [
        | inl asks ↦ rw (other, asks) (of_set ports own state.remembered (request_in payload) method.1 (no_group (request_in payload) parts.1)
            (outcome ports own state.remembered (request_in payload)))
        | inr none ↦ rw (other, none) tt
      ]

  is_delete : asks_by Delete payload ≡ true → (mad : List ℕ) → IsAllOf (Creator.Port own.guid) (with_bytes mad)
  is_delete deletes mad other =
      let method = and_parts (not (is_of_transfer payload)) ((request_in payload).header.method == method_code Delete) deletes in
      elim (cases_Bool (is_request payload)) [
        | inl asks ↦ rw (other, asks) (of_delete ports own state.remembered (request_in payload) method.1 (outcome ports own state.remembered (request_in payload)))
        | inr none ↦ rw (other, none) tt
      ]

  of_each : (P : NotedMad → Type 0) → ((mad : List ℕ) → P (with_bytes mad)) → AllByRecursion P (map with_bytes (answer ports own payload state).0)
  of_each P each = all_mapped P with_bytes (answer ports own payload state).0 (each_always (λ mad. P (with_bytes mad)) each (answer ports own payload state).0)

pub notes_name_sources : NotesNameSources
notes_name_sources ports own payload state notes = record {
  noted_for = for_each ports own payload state notes;
  segments = of_each ports own payload state notes (IsSegmentOf (notes_after ports own payload state notes own.guid)) (is_segment ports own payload state notes);
  got = λ get. of_each ports own payload state notes (IsReplyOf ports own state.remembered) (is_reply ports own payload state notes get);
  joined = λ group joins named. of_each ports own payload state notes (IsAllOf group.creator) (is_join ports own payload state notes group joins named);
  set = λ sets. of_each ports own payload state notes (IsAllOf (Creator.Port own.guid)) (is_set ports own payload state notes sets);
  deleted = λ deletes. of_each ports own payload state notes (IsAllOf (Creator.Port own.guid)) (is_delete ports own payload state notes deletes);
}
