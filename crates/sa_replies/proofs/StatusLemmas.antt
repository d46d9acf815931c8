-- The status that is read in a MAD of an answer is that which was written.
use Rattle.std.proofs.Common.{◌≡◌, ◌∙◌, ℕ, ◌+◌, ◌-◌, ◌*◌, ◌^◌, ◌<◌, ◌≤◌, true, false, not, ◌==◌, nat_le, List, [], ◌∷◌, ◌++◌, length, drop, replicate, ap, sym, inl, inr, arith, length-append}
use Rattle.std.specs.Int.Digits.{AllBelowBase}
use Rattle.std.specs.List.{flat_map}
use Rattle.std.proofs.lemmas.Bool.{cases_Bool}
use Rattle.std.proofs.lemmas.Bool.Decides.{nat_tests}
use Rattle.std.proofs.lemmas.List.{length-replicate, length-take}
use Rattle.mad_layout.specs.Bits.{field, number}
use Rattle.mad_layout.specs.Layout.{Fits}
use Rattle.mad_layout.specs.MadHeader.{mad_header}
use Rattle.mad_layout.specs.Method.{method_code}
use Rattle.mad_layout.specs.declared.method.Method.TheVariants.{Set}
use Rattle.mad_layout.proofs.LayoutLemmas.{field_narrow, length-put_all, encoded_below, zeros_below, below_taken, below_dropped}
use Rattle.mad_layout.proofs.NumberLemmas.{below_append, number_below}
use Rattle.mad_layout.specs.declared.status.MadStatus.{MadStatus}
use Rattle.mad_layout.specs.declared.status.MadStatus.TheVariants.{BadVersion, MethodNotSupported, AttributeNotSupported, InvalidField, NoResources}
use Rattle.mad_layout.specs.declared.status.MadStatus.TheVariants.{RequestInvalid, NoRecords, TooManyRecords, InvalidGid, InsufficientComponents}
use Rattle.mad_layout.specs.MadStatus.{mad_status_code}
use Rattle.rmpp_core.specs.Laws.{IsTransfer}
use Rattle.rmpp_core.specs.Segments.{opened, payload_size, segment_mad}
use Rattle.rmpp_core.specs.Reply.{reply_bytes}
use Rattle.rmpp_core.proofs.ReadBackLemmas.{segment_held}
use Rattle.rmpp_core.proofs.ReplyLemmas.{reply_fits, reply_encoded}
use Rattle.sa_records.specs.declared.sa_record.SaRecord.{SaRecord}
use Rattle.sa_records.specs.declared.sa_record.SaRecord.TheVariants as sa_record
use Rattle.sa_records.specs.NodeRecord.{node_record, node_record_bytes}
use Rattle.sa_records.specs.PathRecord.{path_record, path_record_bytes}
use Rattle.sa_records.specs.McMemberRecord.{mc_member_record, mc_member_record_bytes}
use Rattle.sa_records.specs.ServiceRecord.{service_record, service_record_bytes}
use Rattle.sa_model.specs.Shown.{Entry}
use Rattle.sa_replies.specs.Request.{Request, request_in, is_response}
use Rattle.sa_replies.specs.Reply.{reply_header, reply_method, no_rmpp, with_content, reply, refusal_reply, table_header}
use Rattle.sa_records.specs.SaRecord.{record_bytes}
use Rattle.mad_layout.proofs.StatusLemmas.{never_0}

-- ---- bytes that fill the data of a MAD at most
pub record AreData (bytes : List ℕ) : Type 0 where
  pub below : AllBelowBase 256 bytes
  pub short : length bytes ≤ 200

pub no_data : AreData []
no_data = record { below = tt; short = omega arith }

-- those of a request are
pub content_is_data : (payload : List ℕ) → AllBelowBase 256 payload → AreData (request_in payload).content
unfolding request_in
content_is_data payload below =
    let size = length-take 200 (drop 56 payload) in
    record { below = below_taken 200 (drop 56 payload) (below_dropped 56 payload below); short = omega (arith, size) }

-- and so are those of each record
pub record_is_data : (one : SaRecord) → AreData (record_bytes one)
unfolding node_record_bytes path_record_bytes mc_member_record_bytes service_record_bytes
record_is_data (sa_record.Node one) =
    let size = length-put_all (replicate 112 0) (node_record one) ∙ length-replicate {A = ℕ} 112 0 in
    record { below = encoded_below (node_record one) 112; short = omega (arith, size) }
record_is_data (sa_record.Path one) =
    let size = length-put_all (replicate 64 0) (path_record one) ∙ length-replicate {A = ℕ} 64 0 in
    record { below = encoded_below (path_record one) 64; short = omega (arith, size) }
record_is_data (sa_record.Group one) =
    let size = length-put_all (replicate 56 0) (mc_member_record one) ∙ length-replicate {A = ℕ} 56 0 in
    record { below = encoded_below (mc_member_record one) 56; short = omega (arith, size) }
record_is_data (sa_record.Service one) =
    let size = length-put_all (replicate 176 0) (service_record one) ∙ length-replicate {A = ℕ} 176 0 in
    record { below = encoded_below (service_record one) 176; short = omega (arith, size) }

pub records_below : (entries : List Entry) → AllBelowBase 256 (flat_map (λ entry. record_bytes entry.shown) entries)
records_below [] = tt
records_below (entry ∷ entries) =
    below_append (record_bytes entry.shown) (flat_map (λ entry. record_bytes entry.shown) entries)
    (record_is_data entry.shown).below (records_below entries)

-- ---- what is copied of a request that is no response fits its fields
pub record IsCopied (request : Request) : Type 0 where
  pub header : (status : ℕ) → status < 2 ^ 16 → Fits (mad_header (reply_header request status))
  pub mask : request.component_mask < 2 ^ 64

method_narrow : (method : ℕ) → nat_le 128 method ≡ false → reply_method method < 2 ^ 8
method_narrow method request = elim (cases_Bool (method == method_code Set)) [
  | inl set ↦ rw set (omega arith)
  | inr other ↦ rw other (narrow method request)
]
  where
    narrow : (n : ℕ) → nat_le 128 n ≡ false → n + 128 < 2 ^ 8
    narrow n e = grind (arith, nat_tests)

pub is_copied : (payload : List ℕ) → is_response (request_in payload).header ≡ false → IsCopied (request_in payload)
unfolding request_in
is_copied payload asks = record {
  header = λ status low.
      (omega arith, (omega arith, (omega arith, (method_narrow (field payload 24 8) asks, (low, (omega arith, (field_narrow payload 64 64, (field_narrow payload 128 16, (field_narrow payload 160 32, tt)))))))));
  mask = field_narrow payload 384 64;
}

pub padded_number : (bytes : List ℕ) → AreData bytes → number (bytes ++ replicate (200 - length bytes) 0) < 2 ^ 1600
padded_number bytes are =
    let zeros = length-replicate {A = ℕ} (200 - length bytes) 0 in
    let both = length-append bytes (replicate (200 - length bytes) 0) in
    let size : length (bytes ++ replicate (200 - length bytes) 0) ≡ 200 = omega (arith, both, zeros, are.short) in
    rw (ap (λ (n : ℕ). 2 ^ (8 * n)) size) at (number_below (bytes ++ replicate (200 - length bytes) 0)
    (below_append bytes (replicate (200 - length bytes) 0) are.below (zeros_below (200 - length bytes))))

-- ---- so the status reads as it was written, of a reply, of a refusal and of a table's first segment
status_reads : (request : Request) (status : ℕ) (bytes : List ℕ) → IsCopied request → status < 2 ^ 16 → AreData bytes
    → field (reply_bytes (reply_header request status) no_rmpp (with_content request bytes)) 32 16 ≡ status
status_reads request status bytes copied low are =
    let fits = reply_fits (reply_header request status) no_rmpp (with_content request bytes) (copied.header status low)
    (omega arith, (omega arith, (omega arith, (omega arith, (omega arith, (omega arith, (omega arith, tt)))))))
    (omega arith, (omega arith, (copied.mask, (padded_number bytes are, tt)))) in
    sym (reply_encoded (reply_header request status) no_rmpp (with_content request bytes) fits).fields.1.1.1.1.0

pub reply_status : (request : Request) (bytes : List ℕ) → IsCopied request → AreData bytes → field (reply request bytes) 32 16 ≡ 0
reply_status request bytes copied are = status_reads request 0 bytes copied (omega arith) are

pub first_status : (request : Request) (offset : ℕ) (bytes : List ℕ) → IsCopied request → offset < 2 ^ 16 → AllBelowBase 256 bytes
    → payload_size bytes < 2 ^ 32 → field (segment_mad (opened (table_header request offset) bytes) 1) 32 16 ≡ 0
first_status request offset bytes copied low below size =
    let is : IsTransfer (opened (table_header request offset) bytes) =
    record { header = copied.header 0 (omega arith); attribute_offset = low; component_mask = copied.mask; bytes = below; size = size } in
    sym (segment_held (opened (table_header request offset) bytes) 1 is (omega arith) (omega arith)).1.1.1.1.0

-- no code of a refusal is 0
pub code_low : (status : MadStatus) → mad_status_code status < 2 ^ 16
code_low BadVersion = omega arith
code_low MethodNotSupported = omega arith
code_low AttributeNotSupported = omega arith
code_low InvalidField = omega arith
code_low NoResources = omega arith
code_low RequestInvalid = omega arith
code_low NoRecords = omega arith
code_low TooManyRecords = omega arith
code_low InvalidGid = omega arith
code_low InsufficientComponents = omega arith

pub refusal_status : (request : Request) (status : MadStatus) → IsCopied request → not (field (refusal_reply request status) 32 16 == 0) ≡ true
refusal_status request status copied =
    ap (λ (n : ℕ). not (n == 0)) (status_reads request (mad_status_code status) [] copied (code_low status) no_data) ∙ ap not (never_0 status)
