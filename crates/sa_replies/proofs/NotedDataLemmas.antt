-- The bytes that are noted of a MAD are its data.
use Rattle.std.proofs.Common.{ℕ, zero, suc, ◌+◌, ◌-◌, ◌*◌, ◌^◌, ◌<◌, ◌≤◌, ◌==◌, ◌&&◌, not, nat_lt, Bool, true, false, if◌then◌else◌, bit_and, length, List, [], ◌∷◌, ◌++◌, map, replicate, take, drop}
use Rattle.std.proofs.Common.{Option, Some, None, Result, Ok, Err, ◌≡◌, ◌∙◌, ap, refl, sym, subst, inl, inr, arith, length-append}
use Rattle.std.specs.Int.Digits.{AllBelowBase}
use Rattle.std.specs.List.{AllByRecursion, flat_map, list_any, range_with_len}
use Rattle.std.proofs.lemmas.Bool.{both_ways, cases_Bool, eq-eqb, eqb-true}
use Rattle.std.proofs.lemmas.List.{drop-map, length-replicate, map-append, take-map}
use Rattle.mad_layout.proofs.AlignedLemmas.{bytes_stand}
use Rattle.mad_layout.proofs.LayoutLemmas.{zeros_below}
use Rattle.mad_layout.proofs.NumberLemmas.{below_append}
use Rattle.mad_layout.specs.Bits.{field}
use Rattle.mad_layout.specs.Layout.{Fits}
use Rattle.mad_layout.specs.MadHeader.{mad_header}
use Rattle.mad_layout.specs.MadStatus.{mad_status_code}
use Rattle.mad_layout.specs.Method.{method_code}
use Rattle.mad_layout.specs.RmppHeader.{rmpp_header, rmpp_in}
use Rattle.mad_layout.specs.RmppKind.{rmpp_kind_code}
use Rattle.mad_layout.specs.SaMad.{sa_mad, data_in}
use Rattle.mad_layout.specs.declared.mad_header.Header.{Header}
use Rattle.mad_layout.specs.declared.method.Method.TheVariants.{Get, Set, GetTable, Delete}
use Rattle.mad_layout.specs.declared.rmpp_header.RmppHeader.{RmppHeader}
use Rattle.mad_layout.specs.declared.rmpp_kind.RmppKind.TheVariants.{Ack, Stop, Abort}
use Rattle.mad_layout.specs.declared.sa_mad.SaMad.{SaMad}
use Rattle.mad_layout.specs.declared.status.MadStatus.{MadStatus}
use Rattle.mad_layout.specs.declared.status.MadStatus.TheVariants.{AttributeNotSupported, BadVersion, MethodNotSupported, NoRecords, NoResources}
use Rattle.rmpp_core.proofs.CutLemmas.{segment_is}
use Rattle.rmpp_core.proofs.ReadBackLemmas.{reads_back, reply_long, rmpp_held, reply_below}
use Rattle.rmpp_core.proofs.ReplyLemmas.{reply_fits, reply_encoded}
use Rattle.rmpp_core.proofs.WholeLemmas.{active_set}
use Rattle.rmpp_core.specs.Acks.{abort_mad, abort_rmpp, abort_sa, after_ack}
use Rattle.rmpp_core.specs.Laws.{IsTransfer}
use Rattle.rmpp_core.specs.Receiving.{is_data}
use Rattle.rmpp_core.specs.Reply.{reply_bytes}
use Rattle.rmpp_core.specs.Segments.{Transfer, opened, payload_size, segment_count, segment_mad, segment_of, segment_rmpp}
use Rattle.rmpp_core.specs.declared.abort.AbortCause.{AbortCause}
use Rattle.rmpp_core.specs.declared.abort.AbortCause.TheVariants.{WindowTooSmall, SegmentTooBig}
use Rattle.rmpp_core.specs.declared.sender.Acknowledged.{Acknowledged}
use Rattle.sa_model.proofs.SourceLemmas.{all_mapped}
use Rattle.sa_records.specs.declared.mc_member_record.McMemberRecord.{McMemberRecord}
use Rattle.sa_records.specs.declared.service_record.ServiceRecord.{ServiceRecord}
use Rattle.subnet_model.specs.declared.subnet_port.SubnetPort.{SubnetPort}
use Rattle.sa_model.specs.Groups.{Creator, MulticastGroup}
use Rattle.sa_model.specs.Outcome.{got, table}
use Rattle.sa_model.specs.Refusals.{first_refusal, refused_if}
use Rattle.sa_model.specs.Selected.{Query}
use Rattle.sa_model.specs.Shown.{Entry}
use Rattle.sa_model.specs.Visible.{SaState}
use Rattle.sa_model.specs.ServiceChange.{Deed, has_id, has_room}
use Rattle.sa_replies.specs.Answer.{Administration, Answered, after_rmpp, all_records, answer, delete_or_refused, get_outcome, one_record, outcome, query_of, set_or_refused, table_outcome, answered_with, version_refused}
use Rattle.sa_records.specs.SaRecord.{record_bytes}
use Rattle.sa_replies.specs.Joins.{after_join, group_named, join_asked, join_outcome, join_questions, join_refusal, leave_outcome, leave_questions, member_bytes}
use Rattle.sa_replies.specs.Notes.{NotedByte, Notes, from_source, in_segment, noted_bytes, noted_get, noted_if_got, noted_join, noted_member, noted_record, noted_records, noted_reply, noted_request, noted_service, noted_set, noted_success}
use Rattle.sa_replies.specs.Reply.{no_rmpp, reply_header, table_header, with_content}
use Rattle.sa_replies.specs.Request.{Request, has_versions, is_response, request_in}
use Rattle.sa_records.specs.McMemberRecord.{group_in}
use Rattle.sa_records.specs.ServiceRecord.{service_in}
use Rattle.sa_replies.specs.ServiceRequests.{change_asked, owner_questions, service_asked, service_deleted, service_set, services_at, shown_bytes}
use Rattle.sa_replies.specs.Sources.{AnswersNoteTheirData, HoldsNoted, Encode, filled}
use Rattle.sa_replies.specs.Success.{Success}
use Rattle.sa_replies.specs.Transfers.{CanBeSent, PortTransfer, acknowledged, by_kind, is_of_table, on_ack, on_rmpp, table_of, with_table}
use Rattle.sa_replies.proofs.NoteLemmas.{Leaves, outcome_leaves, table_of_encoded}
use Rattle.sa_replies.proofs.RefusalLemmas.{AreBytes, Ends, cases_if, ended, outcome_ends}
use Rattle.sa_replies.proofs.ReplySourceLemmas.{bytes_in, not_refused, state_in}
use Rattle.sa_replies.proofs.StatusLemmas.{AreData, IsCopied, code_low, content_is_data, is_copied, no_data, padded_number}

-- ---- noted bytes without what they come from
abbrev bytes_of : List NotedByte → List ℕ
bytes_of noted = map (λ one. one.byte) noted

source_bytes : (source : Creator) (bytes : List ℕ) → bytes_of (from_source source bytes) ≡ bytes
source_bytes source [] = refl
source_bytes source (byte ∷ bytes) = ap (λ rest. byte ∷ rest) (source_bytes source bytes)

records_bytes : (entries : List Entry) → bytes_of (noted_records entries) ≡ flat_map (λ entry. record_bytes entry.shown) entries
records_bytes [] = refl
records_bytes (entry ∷ entries) =
    map-append (λ (one : NotedByte). one.byte) (noted_record entry) (noted_records entries)
    ∙ (ap (λ first. first ++ bytes_of (noted_records entries)) (source_bytes entry.source (record_bytes entry.shown))
    ∙ ap (λ rest. record_bytes entry.shown ++ rest) (records_bytes entries))

segment_bytes : (number : ℕ) (noted : List NotedByte) → bytes_of (in_segment number noted) ≡ take 200 (drop (200 * (number - 1)) (bytes_of noted))
segment_bytes number noted =
    sym (take-map (λ (one : NotedByte). one.byte) 200 (drop (200 * (number - 1)) noted))
    ∙ ap (take 200) (sym (drop-map (λ (one : NotedByte). one.byte) (200 * (number - 1)) noted))

-- ---- what is read in a MAD
pub record Reads (header : Header) (rmpp : RmppHeader) (fields : SaMad) : Type 0 where
  pub kind : rmpp_in (reply_bytes header rmpp fields) ≡ rmpp
  pub content : data_in (reply_bytes header rmpp fields) ≡ fields.«data»

reads : (header : Header) (rmpp : RmppHeader) (fields : SaMad) → Fits (mad_header header) → Fits (rmpp_header rmpp) → Fits (sa_mad fields)
    → length fields.«data» ≡ 200 → AllBelowBase 256 fields.«data» → Reads header rmpp fields
reads header rmpp fields f g h size below =
    let mad = reply_bytes header rmpp fields in
    let held = (reply_encoded header rmpp fields (reply_fits header rmpp fields f g h)).fields in
    let r = held.1.1.1.1.1.1.1.1.1 in
    let long = reply_long header rmpp fields in
    record {
      kind = rmpp_held mad header rmpp fields held;
      content = bytes_stand mad fields.«data» 56 200 (reply_below header rmpp fields) below (omega (arith, long)) size r.1.1.1.1.1.1.1.1.1.1.0;
    }

filled_long : (bytes : List ℕ) → AreData bytes → length (filled bytes) ≡ 200
filled_long bytes are =
    let zeros = length-replicate {A = ℕ} (200 - length bytes) 0 in
    let both = length-append bytes (replicate (200 - length bytes) 0) in
    omega (arith, both, zeros, are.short)

filled_below : (bytes : List ℕ) → AreData bytes → AllBelowBase 256 (filled bytes)
filled_below bytes are = below_append bytes (replicate (200 - length bytes) 0) are.below (zeros_below (200 - length bytes))

pub reply_reads : (request : Request) (status : ℕ) (bytes : List ℕ) → IsCopied request → status < 2 ^ 16 → AreData bytes
    → Reads (reply_header request status) no_rmpp (with_content request bytes)
reply_reads request status bytes copied low are =
    reads (reply_header request status) no_rmpp (with_content request bytes) (copied.header status low)
    (omega arith, (omega arith, (omega arith, (omega arith, (omega arith, (omega arith, (omega arith, tt)))))))
    (omega arith, (omega arith, (copied.mask, (padded_number bytes are, tt)))) (filled_long bytes are) (filled_below bytes are)

abort_narrow : (cause : AbortCause) → Fits (rmpp_header (abort_rmpp cause))
abort_narrow WindowTooSmall = (omega arith, (omega arith, (omega arith, (omega arith, (omega arith, (omega arith, (omega arith, tt)))))))
abort_narrow SegmentTooBig = (omega arith, (omega arith, (omega arith, (omega arith, (omega arith, (omega arith, (omega arith, tt)))))))

abort_reads : (transfer : Transfer) (cause : AbortCause) → IsTransfer transfer → Reads transfer.header.header (abort_rmpp cause) (abort_sa transfer.header)
abort_reads transfer cause is =
    reads transfer.header.header (abort_rmpp cause) (abort_sa transfer.header) is.header (abort_narrow cause)
    (omega arith, (omega arith, (is.component_mask, (padded_number [] no_data, tt)))) (filled_long [] no_data) (filled_below [] no_data)

-- ---- a MAD, where these records are noted for its port, and these bytes for a reply
abbrev note_by : List Entry → List NotedByte → List ℕ → List NotedByte
note_by entries replied mad = if is_data (rmpp_in mad) then in_segment (rmpp_in mad).segment_number (noted_records entries) else replied

abbrev Reported : List Entry → List NotedByte → List ℕ → Type 0
Reported entries replied mad = data_in mad ≡ filled (bytes_of (note_by entries replied mad))

reply_reported : (request : Request) (status : ℕ) (bytes : List ℕ) (entries : List Entry) (replied : List NotedByte) → IsCopied request → status < 2 ^ 16 → AreData bytes
    → bytes_of replied ≡ bytes → Reported entries replied (reply_bytes (reply_header request status) no_rmpp (with_content request bytes))
reply_reported request status bytes entries replied copied low are same =
    let is = reply_reads request status bytes copied low are in
    let noted : note_by entries replied (reply_bytes (reply_header request status) no_rmpp (with_content request bytes)) ≡ replied =
    ap (λ (rmpp : RmppHeader). if is_data rmpp then in_segment rmpp.segment_number (noted_records entries) else replied) is.kind in
    is.content ∙ ap filled (sym same) ∙ ap (λ one. filled (bytes_of one)) (sym noted)

abort_reported : (transfer : Transfer) (cause : AbortCause) (entries : List Entry) → IsTransfer transfer → Reported entries [] (abort_mad transfer.header cause)
abort_reported transfer cause entries is =
    let read = abort_reads transfer cause is in
    let noted : note_by entries [] (abort_mad transfer.header cause) ≡ [] =
    ap (λ (rmpp : RmppHeader). if is_data rmpp then in_segment rmpp.segment_number (noted_records entries) else []) read.kind in
    read.content ∙ ap (λ one. filled (bytes_of one)) (sym noted)

segment_reported : (transfer : Transfer) (number : ℕ) (entries : List Entry) (replied : List NotedByte) → IsTransfer transfer → 1 ≤ number → number ≤ segment_count transfer.bytes
    → Encode entries (Some transfer) → Reported entries replied (segment_mad transfer number)
segment_reported transfer number entries replied is first last encoded =
    let read = reads_back transfer number is first last in
    let active = active_set (number == 1) (number == segment_count transfer.bytes) in
    let data_kind : is_data (segment_rmpp transfer.bytes number) ≡ true = active in
    let noted : note_by entries replied (segment_mad transfer number) ≡ in_segment number (noted_records entries) =
    ap (λ (rmpp : RmppHeader). if is_data rmpp then in_segment rmpp.segment_number (noted_records entries) else replied) read.rmpp
    ∙ ap (λ (b : Bool). if b then in_segment number (noted_records entries) else replied) data_kind in
    let same : bytes_of (in_segment number (noted_records entries)) ≡ segment_of transfer.bytes number =
    segment_bytes number (noted_records entries)
    ∙ (ap (λ (bytes : List ℕ). take 200 (drop (200 * (number - 1)) bytes)) (records_bytes entries ∙ sym encoded)
    ∙ sym (segment_is transfer.bytes number first last)) in
    read.part ∙ ap filled (sym same) ∙ ap (λ one. filled (bytes_of one)) (sym noted)

-- ---- the MADs of a transfer
abbrev InTable : ℕ → Result Acknowledged AbortCause → Type 0
InTable count (Err cause) = Unit {0}
InTable count (Ok acked) = (1 ≤ acked.first) × (acked.last ≤ count)

in_table : (window count segment new : ℕ) → InTable count (after_ack window count segment new)
in_table window count segment new =
    cases_if (InTable count) (nat_lt new segment) (Err WindowTooSmall) _ (λ e. tt)
    (λ e. cases_if (InTable count) (nat_lt count segment) (Err SegmentTooBig) _ (λ e. tt) (λ e. (omega arith, omega arith)))

all_in_range : (Q : List ℕ → Type 0) (f : ℕ → List ℕ) (first count : ℕ) → ((n : ℕ) → first ≤ n → n < first + count → Q (f n))
    → AllByRecursion Q (map f (range_with_len first count))
all_in_range Q f first zero each = tt
all_in_range Q f first (suc count) each =
    (each first (omega arith) (omega arith), all_in_range Q f (first + 1) count (λ n low high. each n (omega (arith, low)) (omega (arith, high))))

acknowledged_reported : (transfer : Transfer) (window : ℕ) (entries : List Entry) (result : Result Acknowledged AbortCause) → IsTransfer transfer → Encode entries (Some transfer)
    → InTable (segment_count transfer.bytes) result → AllByRecursion (Reported entries []) (acknowledged transfer window result).0
acknowledged_reported transfer window entries (Err cause) is encoded within = (abort_reported transfer cause entries is, tt)
acknowledged_reported transfer window entries (Ok acked) is encoded within =
    all_in_range (Reported entries []) (segment_mad transfer) acked.first (acked.last + 1 - acked.first)
    (λ n low high. segment_reported transfer n entries [] is (omega (arith, within.0, low)) (omega (arith, within.1, low, high)) encoded)

first_if : {B : Type 0} (Q : List ℕ → Type 0) (test : Bool) (a b : List (List ℕ) × B) → AllByRecursion Q a.0 → AllByRecursion Q b.0
    → AllByRecursion Q (if test then a else b).0
first_if Q true a b first second = first
first_if Q false a b first second = second

rmpp_reported : (request : Request) (entries : List Entry) (open_table : Option Transfer) → CanBeSent open_table → Encode entries open_table
    → AllByRecursion (Reported entries []) (on_rmpp request open_table).0
rmpp_reported request entries None is encoded = tt
rmpp_reported request entries (Some transfer) is encoded =
    let rmpp = request.rmpp in
    let Q : List ℕ → Type 0 = Reported entries [] in
    let new = rmpp.payload_length_or_new_window_last in
    let count = segment_count transfer.bytes in
    first_if Q (is_of_table transfer request) (by_kind transfer rmpp) ([], Some transfer)
    (first_if Q (rmpp.kind == rmpp_kind_code Ack) (on_ack transfer rmpp) _
    (acknowledged_reported transfer new entries (after_ack transfer.window count rmpp.segment_number new) is encoded (in_table transfer.window count rmpp.segment_number new))
    (first_if Q (rmpp.kind == rmpp_kind_code Stop) ([], None) _ tt (first_if Q (rmpp.kind == rmpp_kind_code Abort) ([], None) ([], Some transfer) tt tt))) tt

-- ---- what comes of a request
module _ (ports : List SubnetPort) (own : SubnetPort) (state : SaState) (bytes : List ℕ) (next : SaState) where
  abbrev success : Result Success MadStatus
  success = Ok (Success.one_reply bytes next)

  got_encodes : (result : Result Entry MadStatus) → one_record state result ≡ success → bytes_of (noted_if_got result) ≡ bytes
  got_encodes (Ok entry) is = source_bytes entry.source (record_bytes entry.shown) ∙ ap bytes_in is
  got_encodes (Err status) is = absurd cc

  get_encodes : (query : Option Query) → get_outcome ports own state query ≡ success → bytes_of (noted_get ports own state query) ≡ bytes
  get_encodes (Some query) is = got_encodes (got ports own state query) is
  get_encodes None is = absurd cc

  member_encodes : (base : ℕ) (group : Option MulticastGroup) → bytes_of (noted_member own base group) ≡ member_bytes own base group
  member_encodes base (Some group) = source_bytes group.creator _
  member_encodes base None = refl

  join_encodes : (mask : ℕ) (asked : McMemberRecord) → join_outcome ports own state mask asked ≡ success → bytes_of (noted_join own asked next) ≡ bytes
  join_encodes mask asked is =
      let join = join_asked own mask asked in
      let after = after_join ports join state in
      let one = not_refused (first_refusal (join_questions own mask asked)) _ (Success.one_reply bytes next) is in
      let two = not_refused (join_refusal ports own mask asked state.partitions) _ (Success.one_reply bytes next) one.1 in
      let reported : member_bytes own join.base (group_named join.base join.mgid after.partitions) ≡ bytes = ap bytes_in two.1 in
      let then_is : after ≡ next = ap (state_in state) two.1 in
      member_encodes join.base (group_named join.base join.mgid next.partitions)
      ∙ ap (λ (s : SaState). member_bytes own join.base (group_named join.base join.mgid s.partitions)) (sym then_is) ∙ reported

  service_encodes : (mask : ℕ) (asked : ServiceRecord) → service_set own state mask asked ≡ success → bytes_of (noted_service own mask asked) ≡ bytes
  service_encodes mask asked is =
      let service = service_asked mask asked in
      let change = change_asked own asked (Deed.sets service) in
      let one = not_refused (first_refusal (owner_questions own mask asked)) _ (Success.one_reply bytes next) is in
      let two = not_refused (first_refusal (refused_if (not (has_room service.service_id (services_at change state.services))) NoResources ∷ [])) _
      (Success.one_reply bytes next) one.1 in
      source_bytes (Creator.Port own.guid) (shown_bytes own asked service) ∙ ap bytes_in two.1

  leave_encodes : (mask : ℕ) (asked : McMemberRecord) (content : List ℕ) → leave_outcome ports own state mask asked content ≡ success → content ≡ bytes
  leave_encodes mask asked content is =
      ap bytes_in (not_refused (first_refusal (leave_questions own state mask asked)) _ (Success.one_reply bytes next) is).1

  delete_encodes : (mask : ℕ) (asked : ServiceRecord) (content : List ℕ) → service_deleted own state mask asked content ≡ success → content ≡ bytes
  delete_encodes mask asked content is =
      let change = change_asked own asked (Deed.deletes asked.service_id) in
      let one = not_refused (first_refusal (owner_questions own mask asked)) _ (Success.one_reply bytes next) is in
      ap bytes_in (not_refused (first_refusal (refused_if (not (list_any (has_id asked.service_id) (services_at change state.services))) NoRecords ∷ [])) _
      (Success.one_reply bytes next) one.1).1

  all_encode : (query : Query) (result : Result (List Entry) MadStatus) → all_records query result ≡ success → ⊥
  all_encode query (Ok entries) is = absurd cc
  all_encode query (Err status) is = absurd cc

  table_encodes : (query : Option Query) → table_outcome ports own state query ≡ success → ⊥
  table_encodes (Some query) is = all_encode query (table ports own state query) is
  table_encodes None is = absurd cc

  -- what is so where a branch is taken that is a success
  if_taken : (Q : Type 0) (test : Bool) (a b : Result Success MadStatus) → (test ≡ true → a ≡ success → Q) → (test ≡ false → b ≡ success → Q)
      → (if test then a else b) ≡ success → Q
  if_taken Q true a b first second = first refl
  if_taken Q false a b first second = second refl

  set_encodes : (request : Request) → set_or_refused ports own state request ≡ success → bytes_of (noted_set own request next) ≡ bytes
  set_encodes request =
      let attribute = request.header.attribute_id in
      let mask = request.component_mask in
      let group = group_in request.content in
      let service = service_in request.content in
      let noted : Bool → List NotedByte = λ (b : Bool). if b then noted_join own group next else noted_service own mask service in
      if_taken (bytes_of (noted (attribute == 56)) ≡ bytes) (attribute == 56) (join_outcome ports own state mask group) _
      (λ e is. ap (λ b. bytes_of (noted b)) e ∙ join_encodes mask group is)
      (λ e. if_taken (bytes_of (noted (attribute == 56)) ≡ bytes) (attribute == 49) (service_set own state mask service) (Err AttributeNotSupported)
      (λ f is. ap (λ b. bytes_of (noted b)) e ∙ service_encodes mask service is) (λ f is. absurd cc))

  deleted_encodes : (request : Request) → delete_or_refused ports own state request ≡ success → request.content ≡ bytes
  deleted_encodes request =
      let attribute = request.header.attribute_id in
      let mask = request.component_mask in
      if_taken (request.content ≡ bytes) (attribute == 56) (leave_outcome ports own state mask (group_in request.content) request.content) _
      (λ e is. leave_encodes mask (group_in request.content) request.content is)
      (λ e. if_taken (request.content ≡ bytes) (attribute == 49) (service_deleted own state mask (service_in request.content) request.content) (Err AttributeNotSupported)
      (λ f is. delete_encodes mask (service_in request.content) request.content is) (λ f is. absurd cc))

  success_encodes : (request : Request) → outcome ports own state request ≡ success → bytes_of (noted_success ports own state request next) ≡ bytes
  success_encodes request is =
      let method = request.header.method in
      let by : (n : ℕ) → (method == n) ≡ true → ended n ports own state request ≡ success =
      λ n e. sym (ap (λ (m : ℕ). ended m ports own state request) (eqb-true method n e)) ∙ is in
      let Encodes : List NotedByte → Type 0 = λ noted. bytes_of noted ≡ bytes in
      cases_if Encodes (method == method_code Get) (noted_get ports own state (query_of request)) _
      (λ get. get_encodes (query_of request) (by (method_code Get) get))
      (λ not_get. cases_if Encodes (method == method_code Set) (noted_set own request next) _
      (λ set. set_encodes request (by (method_code Set) set))
      (λ not_set. source_bytes (Creator.Port own.guid) request.content ∙ rest not_get not_set))
    where
      rest : (request.header.method == method_code Get) ≡ false → (request.header.method == method_code Set) ≡ false → request.content ≡ bytes
      rest not_get not_set =
          if_taken (request.content ≡ bytes) (request.header.method == method_code Get) (get_outcome ports own state (query_of request)) _ (λ get x. absurd (both_ways (request.header.method == method_code Get) not_get get))
          (λ e. if_taken (request.content ≡ bytes) (request.header.method == method_code GetTable) (table_outcome ports own state (query_of request)) _
          (λ opens x. absurd (table_encodes (query_of request) x))
          (λ f. if_taken (request.content ≡ bytes) (request.header.method == method_code Set) (set_or_refused ports own state request) _ (λ set x. absurd (both_ways (request.header.method == method_code Set) not_set set))
          (λ g. if_taken (request.content ≡ bytes) (request.header.method == method_code Delete) (delete_or_refused ports own state request) (Err MethodNotSupported)
          (λ deletes x. deleted_encodes request x) (λ h x. absurd cc)))) is

-- ---- a request that is answered
opened_noted : (ports : List SubnetPort) (own : SubnetPort) (state : SaState) (request : Request) (notes : Notes) (offset : ℕ) (bytes : List ℕ)
    → outcome ports own state request ≡ Ok (Success.whole_table offset bytes)
    → bytes ≡ flat_map (λ entry. record_bytes entry.shown) (noted_request ports own state request notes own.guid)
opened_noted ports own state request notes offset bytes is =
    let places : List PortTransfer = record { port = own.guid; open_table = None } ∷ [] in
    let later = noted_request ports own state request notes in
    let leaves : Leaves own request places later (Ok (Success.whole_table offset bytes)) =
    subst (Leaves own request places later) is (outcome_leaves own request places ports state notes (tt, tt)) in
    here (table_of_encoded own.guid later (with_table own.guid (Some (opened (table_header request offset) bytes)) places) leaves)
  where
    here : Encode (noted_request ports own state request notes own.guid)
        (table_of own.guid (with_table own.guid (Some (opened (table_header request offset) bytes)) (record { port = own.guid; open_table = None } ∷ [])))
        → bytes ≡ flat_map (λ entry. record_bytes entry.shown) (noted_request ports own state request notes own.guid)
    here encoded = rw (eq-eqb own.guid own.guid refl, eq-eqb own.guid own.guid refl) at encoded

reported_all : (ports : List SubnetPort) (own : SubnetPort) (request : Request) (state : Administration) (notes : Notes) → IsCopied request → AreData request.content
    → payload_size (flat_map (λ entry. record_bytes entry.shown) (noted_request ports own state.remembered request notes own.guid)) < 2 ^ 32
    → (result : Result Success MadStatus) → outcome ports own state.remembered request ≡ result
    → AllByRecursion (Reported (noted_request ports own state.remembered request notes own.guid) (noted_reply ports own state.remembered request result))
    (answered_with own request state result).0
reported_all ports own request state notes copied content size (Err status) is =
    (reply_reported request (mad_status_code status) [] (noted_request ports own state.remembered request notes own.guid) [] copied (code_low status) no_data refl, tt)
reported_all ports own request state notes copied content size (Ok (Success.one_reply bytes next)) is =
    let are : AreData bytes = subst (Ends AreBytes) is (outcome_ends ports own state.remembered request content) in (
      reply_reported request 0 bytes (noted_request ports own state.remembered request notes own.guid) (noted_success ports own state.remembered request next) copied
          (omega arith) are (success_encodes ports own state.remembered bytes next request is),
      tt,
    )
reported_all ports own request state notes copied content size (Ok (Success.whole_table offset bytes)) is =
    let ends : (offset < 2 ^ 16) × AllBelowBase 256 bytes = subst (Ends AreBytes) is (outcome_ends ports own state.remembered request content) in
    let encoded = opened_noted ports own state.remembered request notes offset bytes is in
    let short : payload_size bytes < 2 ^ 32 = subst (λ (all : List ℕ). payload_size all < 2 ^ 32) (sym encoded) size in
    let transfer : IsTransfer (opened (table_header request offset) bytes) =
    record { header = copied.header 0 (omega arith); attribute_offset = ends.0; component_mask = copied.mask; bytes = ends.1; size = short } in
    (segment_reported (opened (table_header request offset) bytes) 1 (noted_request ports own state.remembered request notes own.guid) [] transfer (omega arith) (omega arith) encoded, tt)

-- ---- every answer
by_chain : {X : Type 0} (Q : X → Bool → Type 0) (ours versions active response : Bool) (none refused moved ignored reported : X)
    → Q none false → Q refused false → Q moved false → Q ignored false → (response ≡ false → Q reported true)
    → Q (if ours then if not versions then refused else if active then moved else if response then ignored else reported else none)
    (ours && (versions && (not active && not response)))
by_chain Q true true true response none refused moved ignored reported n d m i t = m
by_chain Q true true false true none refused moved ignored reported n d m i t = i
by_chain Q true true false false none refused moved ignored reported n d m i t = t refl
by_chain Q true false active response none refused moved ignored reported n d m i t = d
by_chain Q false versions active response none refused moved ignored reported n d m i t = n

pub data_is_noted : AnswersNoteTheirData
data_is_noted ports own payload state notes below sends all size =
    all_mapped HoldsNoted (λ mad. record { mad = mad; bytes = noted_bytes ports own payload state notes mad }) (answer ports own payload state).0
    (by_chain Q ((length payload == 256) && (field payload 8 8 == 3)) (has_versions request.header) (bit_and request.rmpp.flags 1 == 1)
    (is_response request.header) ([], state) (version_refused request, state) (after_rmpp own state (on_rmpp request (table_of own.guid state.transfers)))
    ([], state) (answered_with own request state (outcome ports own state.remembered request))
    (λ short. tt) (λ short. versions_reported)
    (λ short. rmpp_reported request (notes own.guid) (table_of own.guid state.transfers) sends (table_of_encoded own.guid notes state.transfers all))
    (λ short. tt)
    (λ asks short. reported_all ports own request state notes (is_copied payload asks) (content_is_data payload below) short
    (outcome ports own state.remembered request) refl) size)
  where
    request : Request
    request = request_in payload

    later : Bool → List Entry
    later b = (if b then noted_request ports own state.remembered request notes else notes) own.guid

    replied : Bool → List NotedByte
    replied b = if b then noted_reply ports own state.remembered request (outcome ports own state.remembered request) else []

    Q : Answered → Bool → Type 0
    Q answered b =
        payload_size (flat_map (λ entry. record_bytes entry.shown) (later b)) < 2 ^ 32 → AllByRecursion (Reported (later b) (replied b)) answered.0

    versions_reported : AllByRecursion (Reported (notes own.guid) []) (version_refused request)
    versions_reported = elim (cases_Bool (is_response request.header)) [
      | inl response ↦ rw response tt
      | inr asks ↦ rw asks (reply_reported request (mad_status_code BadVersion) [] (notes own.guid) [] (is_copied payload asks) (code_low BadVersion) no_data refl, tt)
    ]
