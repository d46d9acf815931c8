-- What is noted beside an answer: it encodes RMPP transfers in progress, and comes from ports near.
use Rattle.std.proofs.Common.{ℕ, zero, suc, ◌-◌, ◌*◌, ◌==◌, ◌&&◌, not, Bool, true, false, if◌then◌else◌, bit_and, length, List, [], ◌∷◌, map, take, drop, Option, Some, None, Result, Ok, Err}
use Rattle.std.proofs.Common.{◌≡◌, ◌∙◌, ap, refl, sym, subst, inl, inr}
use Rattle.std.specs.List.{list_all, flat_map}
use Rattle.std.specs.Result.{IfOk}
use Rattle.std.proofs.lemmas.Bool.{and_from, and_parts, cases_Bool, eq-eqb, eqb-true, or_left}
use Rattle.std.proofs.lemmas.List.Folds.{list_all-append, list_all-map}
use Rattle.mad_layout.specs.Bits.{field}
use Rattle.mad_layout.specs.Method.{method_code}
use Rattle.mad_layout.specs.RmppKind.{rmpp_kind_code}
use Rattle.mad_layout.specs.declared.method.Method.TheVariants.{Get, Set, GetTable, Delete}
use Rattle.mad_layout.specs.declared.rmpp_header.RmppHeader.{RmppHeader}
use Rattle.mad_layout.specs.declared.rmpp_kind.RmppKind.TheVariants.{Ack, Stop, Abort}
use Rattle.mad_layout.specs.declared.status.MadStatus.{MadStatus}
use Rattle.mad_layout.specs.declared.status.MadStatus.TheVariants.{MethodNotSupported}
use Rattle.pkey_rules.specs.PKey.{base_of}
use Rattle.rmpp_core.specs.declared.abort.AbortCause.{AbortCause}
use Rattle.rmpp_core.specs.declared.sender.Acknowledged.{Acknowledged}
use Rattle.rmpp_core.specs.Acks.{after_ack}
use Rattle.rmpp_core.specs.Receiving.{is_data}
use Rattle.mad_layout.specs.RmppHeader.{rmpp_in}
use Rattle.rmpp_core.specs.Segments.{Transfer, opened, segment_count}
use Rattle.subnet_model.specs.Delivery.{port_with_guid}
use Rattle.subnet_model.specs.Near.{is_near, ports_share}
use Rattle.subnet_model.specs.declared.subnet_port.SubnetPort.{SubnetPort}
use Rattle.sa_model.specs.Groups.{Creator}
use Rattle.sa_model.specs.Sound.{is_sound}
use Rattle.sa_model.proofs.QueryLemmas.{answers_from_near}
use Rattle.sa_model.specs.QueryLaws.{come_from_near, is_source_near}
use Rattle.sa_model.specs.Outcome.{got, table}
use Rattle.sa_model.specs.Selected.{Query}
use Rattle.sa_model.specs.Shown.{Entry}
use Rattle.sa_model.specs.Visible.{SaState}
use Rattle.sa_replies.specs.Request.{Request, request_in, is_response, has_versions}
use Rattle.sa_records.specs.McMemberRecord.{group_in}
use Rattle.sa_replies.specs.Reply.{table_header}
use Rattle.sa_replies.specs.Transfers.{PortTransfer, with_table, table_of, acknowledged, on_ack, is_of_table, by_kind, on_rmpp}
use Rattle.sa_replies.specs.Success.{Success}
use Rattle.sa_replies.specs.Joins.{join_outcome}
use Rattle.sa_replies.specs.Answer.{Administration, Answered, query_of, offset_of, all_records, get_outcome, table_outcome}
use Rattle.sa_records.specs.SaRecord.{record_bytes}
use Rattle.sa_replies.specs.Answer.{set_or_refused, delete_or_refused, outcome, answered_with, version_refused, after_rmpp, answer}
use Rattle.sa_replies.specs.Notes.{NotedByte, NotedMad, Notes, from_source, noted_record, noted_records, in_segment, with_notes, is_request, noted_if_ok, noted_table, noted_request, notes_after}
use Rattle.sa_replies.specs.Notes.{noted_if_got, noted_get, noted_member, noted_join, noted_set, noted_success, noted_reply, noted_bytes}
use Rattle.sa_replies.specs.Sources.{IsJoined, NotesStandBeside, Encode, EncodeTables, NotesEncodeTables, bytes_from_near, NotesFromNear, AnswersReportFromNear}
use Rattle.sa_replies.proofs.RefusalLemmas.{Ends, IsGot, IsOneReply, IsReply, cases_if, delete_is_one, ended, ends_if, ends_more, get_ends, reply_is_one, set_or_refused_ends}
use Rattle.sa_replies.proofs.ReplySourceLemmas.{join_replies_come_from_near}

-- ---- beside the answer
beside : (note : List ℕ → NotedMad) → ((mad : List ℕ) → (note mad).mad ≡ mad) → (mads : List (List ℕ)) → map (λ one. one.mad) (map note mads) ≡ mads
beside note same [] = refl
beside note same (mad ∷ mads) = rw (same mad, beside note same mads) refl

pub notes_stand_beside : NotesStandBeside
notes_stand_beside ports own payload state notes = record {
  mads = beside (λ mad. record { mad = mad; bytes = noted_bytes ports own payload state notes mad }) (λ mad. refl) (answer ports own payload state).0;
  state = refl;
}

-- ---- an answer and what is noted then, by what the payload is
pub by_payload : {X Y : Type 0} (Q : X → Y → Type 0) (ours versions active response : Bool) (none refused moved ignored reported : X) (same later : Y)
    → Q none same → Q refused same → (active ≡ true → Q moved same) → Q ignored same → (response ≡ false → Q reported later)
    → Q (if ours then if not versions then refused else if active then moved else if response then ignored else reported else none)
    (if ours && (versions && (not active && not response)) then later else same)
by_payload Q true true true response none refused moved ignored reported same later n d m i t = m refl
by_payload Q true true false true none refused moved ignored reported same later n d m i t = i
by_payload Q true true false false none refused moved ignored reported same later n d m i t = t refl
by_payload Q true false active response none refused moved ignored reported same later n d m i t = d
by_payload Q false versions active response none refused moved ignored reported same later n d m i t = n

-- ---- tables are encoded: one that takes the place of another, with the same notes and with its own
with_table_encoded : (p : ℕ) (open_table : Option Transfer) (notes : Notes) (places : List PortTransfer) → Encode (notes p) open_table
    → EncodeTables notes places → EncodeTables notes (with_table p open_table places)
with_table_encoded p open_table notes [] own all = tt
with_table_encoded p open_table notes (x ∷ xs) own all = elim (cases_Bool (x.port == p)) [
  | inl this ↦ rw this (own, with_table_encoded p open_table notes xs own all.1)
  | inr other ↦ rw other (all.0, with_table_encoded p open_table notes xs own all.1)
]

opened_encoded : (p : ℕ) (open_table : Option Transfer) (entries : List Entry) (notes : Notes) (places : List PortTransfer) → Encode entries open_table
    → EncodeTables notes places → EncodeTables (with_notes p entries notes) (with_table p open_table places)
opened_encoded p open_table entries notes [] own all = tt
opened_encoded p open_table entries notes (x ∷ xs) own all = elim (cases_Bool (x.port == p)) [
  | inl this ↦ rw (this, eq-eqb p p refl) (own, opened_encoded p open_table entries notes xs own all.1)
  | inr other ↦ rw (other, other) (all.0, opened_encoded p open_table entries notes xs own all.1)
]

pub table_of_encoded : (p : ℕ) (notes : Notes) (places : List PortTransfer) → EncodeTables notes places → Encode (notes p) (table_of p places)
table_of_encoded p notes [] all = tt
table_of_encoded p notes (x ∷ xs) all = elim (cases_Bool (x.port == p)) [
  | inl this ↦ rw this (subst (λ q. Encode (notes q) x.open_table) (eqb-true x.port p this) all.0)
  | inr other ↦ rw other (table_of_encoded p notes xs all.1)
]

-- ---- a MAD of a transfer leaves the records of its table, or ends it
encoded_if : {A : Type 0} (entries : List Entry) (test : Bool) (a b : A × Option Transfer) → Encode entries a.1 → Encode entries b.1
    → Encode entries (if test then a else b).1
encoded_if entries true a b first second = first
encoded_if entries false a b first second = second

encoded_unless : (entries : List Entry) (test : Bool) (transfer : Transfer) → Encode entries (Some transfer) → Encode entries (if test then None else Some transfer)
encoded_unless entries true transfer encoded = tt
encoded_unless entries false transfer encoded = encoded

acknowledged_encoded : (entries : List Entry) (transfer : Transfer) (window : ℕ) (result : Result Acknowledged AbortCause) → Encode entries (Some transfer)
    → Encode entries (acknowledged transfer window result).1
acknowledged_encoded entries transfer window (Err cause) encoded = tt
acknowledged_encoded entries transfer window (Ok acked) encoded = encoded_unless entries acked.is_complete _ encoded

by_kind_encoded : (entries : List Entry) (transfer : Transfer) (rmpp : RmppHeader) → Encode entries (Some transfer) → Encode entries (by_kind transfer rmpp).1
by_kind_encoded entries transfer rmpp encoded =
    encoded_if entries (rmpp.kind == rmpp_kind_code Ack) (on_ack transfer rmpp) _
    (acknowledged_encoded entries transfer rmpp.payload_length_or_new_window_last
    (after_ack transfer.window (segment_count transfer.bytes) rmpp.segment_number rmpp.payload_length_or_new_window_last) encoded)
    (encoded_if entries (rmpp.kind == rmpp_kind_code Stop) ([], None) _ tt
    (encoded_if entries (rmpp.kind == rmpp_kind_code Abort) ([], None) ([], Some transfer) tt encoded))

on_rmpp_encoded : (entries : List Entry) (request : Request) (open_table : Option Transfer) → Encode entries open_table → Encode entries (on_rmpp request open_table).1
on_rmpp_encoded entries request None encoded = tt
on_rmpp_encoded entries request (Some transfer) encoded =
    encoded_if entries (is_of_table transfer request) (by_kind transfer request.rmpp) ([], Some transfer) (by_kind_encoded entries transfer request.rmpp encoded) encoded

-- ---- a request: only a GetTable opens a table, with the records that are noted then
module _ (own : SubnetPort) (request : Request) (transfers : List PortTransfer) where
  abbrev pub Leaves : Notes → Result Success MadStatus → Type 0
  Leaves notes (Err status) = EncodeTables notes transfers
  Leaves notes (Ok (Success.one_reply bytes next)) = EncodeTables notes transfers
  Leaves notes (Ok (Success.whole_table offset bytes)) = EncodeTables notes (with_table own.guid (Some (opened (table_header request offset) bytes)) transfers)

  one_leaves : (notes : Notes) (result : Result Success MadStatus) → EncodeTables notes transfers → Ends IsOneReply result → Leaves notes result
  one_leaves notes (Err status) all one = all
  one_leaves notes (Ok (Success.one_reply bytes next)) all one = all
  one_leaves notes (Ok (Success.whole_table offset bytes)) all one = absurd one

  all_leave : (query : Query) (notes : Notes) (result : Result (List Entry) MadStatus) → EncodeTables notes transfers
      → Leaves (noted_if_ok own.guid result notes) (all_records query result)
  all_leave query notes (Ok entries) all =
      opened_encoded own.guid (Some (opened (table_header request (offset_of query)) (flat_map (λ entry. record_bytes entry.shown) entries))) entries notes transfers refl all
  all_leave query notes (Err status) all = all

  table_leaves : (ports : List SubnetPort) (state : SaState) (query : Option Query) (notes : Notes) → EncodeTables notes transfers
      → Leaves (noted_table ports own state query notes) (table_outcome ports own state query)
  table_leaves ports state (Some query) notes all = all_leave query notes (table ports own state query) all
  table_leaves ports state None notes all = all

  got_is_one : (state : SaState) (success : Success) → IsGot state success → IsOneReply success
  got_is_one state (Success.one_reply bytes next) is = tt
  got_is_one state (Success.whole_table offset bytes) is = absurd is

  pub outcome_leaves : (ports : List SubnetPort) (state : SaState) (notes : Notes) → EncodeTables notes transfers
      → Leaves (noted_request ports own state request notes) (outcome ports own state request)
  outcome_leaves ports state notes all =
      let method = request.header.method in
      let noted : Bool → Notes = λ opens. if opens then noted_table ports own state (query_of request) notes else notes in
      cases_if (Leaves (noted (method == method_code GetTable))) (method == method_code Get) (get_outcome ports own state (query_of request)) _
      (λ get.
      let not_table : (method == method_code GetTable) ≡ false = ap (λ (n : ℕ). n == method_code GetTable) (eqb-true method (method_code Get) get) in
      subst (λ opens. Leaves (noted opens) (get_outcome ports own state (query_of request))) (sym not_table)
      (one_leaves notes (get_outcome ports own state (query_of request)) all
      (ends_more (IsGot state) IsOneReply (got_is_one state) (get_outcome ports own state (query_of request)) (get_ends ports own state (query_of request)))))
      (λ other.
      cases_if (Leaves (noted (method == method_code GetTable))) (method == method_code GetTable) (table_outcome ports own state (query_of request)) _
      (λ opens. subst (λ b. Leaves (noted b) (table_outcome ports own state (query_of request))) (sym opens) (table_leaves ports state (query_of request) notes all))
      (λ not_table. subst (λ b. Leaves (noted b) rest) (sym not_table) (one_leaves notes rest all rest_is_one)))
    where
      rest : Result Success MadStatus
      rest =
          if request.header.method == method_code Set then set_or_refused ports own state request
          else if request.header.method == method_code Delete then delete_or_refused ports own state request
          else Err MethodNotSupported

      rest_is_one : Ends IsOneReply rest
      rest_is_one =
          ends_if IsOneReply (request.header.method == method_code Set) (set_or_refused ports own state request) _
          (ends_more IsReply IsOneReply reply_is_one (set_or_refused ports own state request) (set_or_refused_ends ports own state request))
          (ends_if IsOneReply (request.header.method == method_code Delete) (delete_or_refused ports own state request) (Err MethodNotSupported)
          (delete_is_one ports own state request) tt)

reported_encodes : (own : SubnetPort) (request : Request) (state : Administration) (notes : Notes) (result : Result Success MadStatus)
    → Leaves own request state.transfers notes result → EncodeTables notes (answered_with own request state result).1.transfers
reported_encodes own request state notes (Err status) leaves = leaves
reported_encodes own request state notes (Ok (Success.one_reply bytes next)) leaves = leaves
reported_encodes own request state notes (Ok (Success.whole_table offset bytes)) leaves = leaves

pub notes_encode_tables : NotesEncodeTables
notes_encode_tables ports own payload state notes all =
    by_payload (λ (answered : Answered) (later : Notes). EncodeTables later answered.1.transfers) ((length payload == 256) && (field payload 8 8 == 3))
    (has_versions request.header) (bit_and request.rmpp.flags 1 == 1) (is_response request.header) ([], state) (version_refused request, state)
    (after_rmpp own state (on_rmpp request (table_of own.guid state.transfers))) ([], state) (answered_with own request state (outcome ports own state.remembered request))
    notes (noted_request ports own state.remembered request notes) all all
    (λ active. with_table_encoded own.guid (on_rmpp request (table_of own.guid state.transfers)).1 notes state.transfers
    (on_rmpp_encoded (notes own.guid) request (table_of own.guid state.transfers) (table_of_encoded own.guid notes state.transfers all)) all)
    all
    (λ asks. reported_encodes own request state (noted_request ports own state.remembered request notes) (outcome ports own state.remembered request)
    (outcome_leaves own request state.transfers ports state.remembered notes all))
  where
    request : Request
    request = request_in payload

-- ---- what is noted comes from near
module _ (ports : List SubnetPort) (p : ℕ) where
  abbrev near_byte : NotedByte → Bool
  near_byte one = is_source_near ports p one.source

  source_near : (source : Creator) (bytes : List ℕ) → is_source_near ports p source ≡ true → bytes_from_near ports p (from_source source bytes) ≡ true
  source_near source [] near = refl
  source_near source (byte ∷ bytes) near =
      and_from (is_source_near ports p source) (bytes_from_near ports p (from_source source bytes)) near (source_near source bytes near)

  records_near : (entries : List Entry) → come_from_near ports p entries ≡ true → bytes_from_near ports p (noted_records entries) ≡ true
  records_near [] near = refl
  records_near (entry ∷ entries) near =
      let parts = and_parts (is_source_near ports p entry.source) (come_from_near ports p entries) near in
      list_all-append near_byte (noted_record entry) (noted_records entries)
      ∙ and_from (bytes_from_near ports p (noted_record entry)) (bytes_from_near ports p (noted_records entries))
      (source_near entry.source (record_bytes entry.shown) parts.0) (records_near entries parts.1)

  taken_near : (n : ℕ) (bytes : List NotedByte) → bytes_from_near ports p bytes ≡ true → bytes_from_near ports p (take n bytes) ≡ true
  taken_near zero bytes near = refl
  taken_near (suc n) [] near = refl
  taken_near (suc n) (byte ∷ bytes) near =
      let parts = and_parts (near_byte byte) (bytes_from_near ports p bytes) near in
      and_from (near_byte byte) (bytes_from_near ports p (take n bytes)) parts.0 (taken_near n bytes parts.1)

  dropped_near : (n : ℕ) (bytes : List NotedByte) → bytes_from_near ports p bytes ≡ true → bytes_from_near ports p (drop n bytes) ≡ true
  dropped_near zero bytes near = near
  dropped_near (suc n) [] near = refl
  dropped_near (suc n) (byte ∷ bytes) near = dropped_near n bytes (and_parts (near_byte byte) (bytes_from_near ports p bytes) near).1

  near_if : (test : Bool) (a b : List NotedByte) → bytes_from_near ports p a ≡ true → bytes_from_near ports p b ≡ true
      → bytes_from_near ports p (if test then a else b) ≡ true
  near_if true a b first second = first
  near_if false a b first second = second

  got_near : (result : Result Entry MadStatus) → IfOk result (λ entry. is_source_near ports p entry.source ≡ true) → bytes_from_near ports p (noted_if_got result) ≡ true
  got_near (Ok entry) near = source_near entry.source (record_bytes entry.shown) near
  got_near (Err status) near = refl

notes_if : (ports : List SubnetPort) (test : Bool) (a b : Notes) → NotesFromNear ports a → NotesFromNear ports b → NotesFromNear ports (if test then a else b)
notes_if ports true a b first second = first
notes_if ports false a b first second = second

module _ (ports : List SubnetPort) (own : SubnetPort) (state : SaState) (found : port_with_guid ports own.guid ≡ Some own)
    (sound : is_sound ports state.partitions ≡ true) where
  itself : is_near ports own.guid own.guid ≡ true
  itself = or_left (own.guid == own.guid) (ports_share ports own.guid own.guid) (eq-eqb own.guid own.guid refl)

  entries_noted : (result : Result (List Entry) MadStatus) (notes : Notes) → IfOk result (λ entries. come_from_near ports own.guid entries ≡ true)
      → NotesFromNear ports notes → NotesFromNear ports (noted_if_ok own.guid result notes)
  entries_noted (Ok entries) notes near all p = elim (cases_Bool (p == own.guid)) [
    | inl this ↦ rw this (subst (λ q. come_from_near ports q entries ≡ true) (sym (eqb-true p own.guid this)) near)
    | inr other ↦ rw other (all p)
  ]
  entries_noted (Err status) notes near all p = all p

  table_noted : (query : Option Query) (notes : Notes) → NotesFromNear ports notes → NotesFromNear ports (noted_table ports own state query notes)
  table_noted (Some query) notes all = entries_noted (table ports own state query) notes (answers_from_near ports own state query found sound).table all
  table_noted None notes all = all

  get_noted : (query : Option Query) → bytes_from_near ports own.guid (noted_get ports own state query) ≡ true
  get_noted (Some query) = got_near ports own.guid (got ports own state query) (answers_from_near ports own state query found sound).got
  get_noted None = refl

  member_noted : (request : Request) (next : SaState) (bytes : List ℕ) → IsJoined ports own (group_in request.content) next bytes
      → bytes_from_near ports own.guid (noted_join own (group_in request.content) next) ≡ true
  member_noted request next bytes is =
      ap (λ group. bytes_from_near ports own.guid (noted_member own (base_of (group_in request.content).p_key) group)) is.there
      ∙ source_near ports own.guid is.group.creator _ is.source

  success_noted : (request : Request) (bytes : List ℕ) (next : SaState) → outcome ports own state request ≡ Ok (Success.one_reply bytes next)
      → bytes_from_near ports own.guid (noted_success ports own state request next) ≡ true
  success_noted request bytes next is =
      let method = request.header.method in
      let attribute = request.header.attribute_id in
      let asked = group_in request.content in
      let From : List NotedByte → Type 0 = λ noted. bytes_from_near ports own.guid noted ≡ true in
      cases_if From (method == method_code Get) (noted_get ports own state (query_of request)) _ (λ get. get_noted (query_of request))
      (λ other. cases_if From (method == method_code Set) (noted_set own request next) _
      (λ set. cases_if From (attribute == 56) (noted_join own asked next) _
      (λ group.
      let by_set : set_or_refused ports own state request ≡ Ok (Success.one_reply bytes next) =
      sym (ap (λ (n : ℕ). ended n ports own state request) (eqb-true method (method_code Set) set)) ∙ is in
      let joins : join_outcome ports own state request.component_mask asked ≡ Ok (Success.one_reply bytes next) = rw group at by_set in
      member_noted request next bytes (join_replies_come_from_near ports own state next request.component_mask asked bytes found sound joins))
      (λ service. source_near ports own.guid (Creator.Port own.guid) _ itself))
      (λ deletes. source_near ports own.guid (Creator.Port own.guid) request.content itself))

  reply_noted : (request : Request) (result : Result Success MadStatus) → outcome ports own state request ≡ result
      → bytes_from_near ports own.guid (noted_reply ports own state request result) ≡ true
  reply_noted request (Ok (Success.one_reply bytes next)) is = success_noted request bytes next is
  reply_noted request (Ok (Success.whole_table offset bytes)) is = refl
  reply_noted request (Err status) is = refl

all_so : {X : Type 0} (test : X → Bool) → ((x : X) → test x ≡ true) → (xs : List X) → list_all test xs ≡ true
all_so test so [] = refl
all_so test so (x ∷ xs) = and_from (test x) (list_all test xs) (so x) (all_so test so xs)

pub answers_report_from_near : AnswersReportFromNear
answers_report_from_near ports own payload state notes found sound all = record {
  mads = list_all-map (λ (one : NotedMad). bytes_from_near ports own.guid one.bytes)
      (λ mad. record { mad = mad; bytes = noted_bytes ports own payload state notes mad }) (answer ports own payload state).0
      ∙ all_so (λ mad. bytes_from_near ports own.guid (noted_bytes ports own payload state notes mad)) of_mad (answer ports own payload state).0;
  notes = after;
}
  where
    request : Request
    request = request_in payload

    replied : List NotedByte
    replied = noted_reply ports own state.remembered request (outcome ports own state.remembered request)

    after : NotesFromNear ports (notes_after ports own payload state notes)
    after =
        notes_if ports (is_request payload) (noted_request ports own state.remembered request notes) notes
        (notes_if ports (request.header.method == method_code GetTable) (noted_table ports own state.remembered (query_of request) notes) notes
        (table_noted ports own state.remembered found sound (query_of request) notes all) all) all

    of_mad : (mad : List ℕ) → bytes_from_near ports own.guid (noted_bytes ports own payload state notes mad) ≡ true
    of_mad mad =
        let entries = notes_after ports own payload state notes own.guid in
        near_if ports own.guid (is_data (rmpp_in mad)) (in_segment (rmpp_in mad).segment_number (noted_records entries)) (if is_request payload then replied else [])
        (taken_near ports own.guid 200 (drop (200 * ((rmpp_in mad).segment_number - 1)) (noted_records entries)) (dropped_near ports own.guid (200 * ((rmpp_in mad).segment_number - 1)) (noted_records entries)
        (records_near ports own.guid entries (after own.guid))))
        (near_if ports own.guid (is_request payload) replied []
        (reply_noted ports own state.remembered found sound request (outcome ports own state.remembered request) refl) refl)
