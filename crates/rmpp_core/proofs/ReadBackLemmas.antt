-- What is read in the MAD of a segment is what was written.
use Rattle.std.proofs.Common.{◌≡◌, ℕ, ◌+◌, ◌-◌, ◌*◌, ◌^◌, ◌<◌, ◌≤◌, Bool, true, false, ◌==◌, if◌then◌else◌, List}
use Rattle.std.proofs.Common.{length, replicate, drop, sym, ◌∙◌, ap, subst, arith, length-append}
use Rattle.std.specs.Int.Digits.{AllBelowBase}
use Rattle.std.proofs.lemmas.List.{length-replicate}
use Rattle.mad_layout.specs.declared.mad_header.Header.{Header}
use Rattle.mad_layout.specs.declared.rmpp_header.RmppHeader.{RmppHeader}
use Rattle.mad_layout.specs.declared.sa_mad.SaMad.{SaMad}
use Rattle.mad_layout.specs.Bits.{bit_of}
use Rattle.mad_layout.specs.Layout.{Holds}
use Rattle.mad_layout.proofs.AlignedLemmas.{bytes_stand}
use Rattle.mad_layout.proofs.LayoutLemmas.{length-put_all, encoded_below, zeros_below, below_taken, below_dropped}
use Rattle.mad_layout.proofs.NumberLemmas.{below_append, number_below}
use Rattle.rmpp_core.specs.Laws.{IsTransfer}
use Rattle.mad_layout.specs.RmppHeader.{rmpp_in}
use Rattle.mad_layout.specs.SaMad.{data_in}
use Rattle.rmpp_core.specs.Reply.{reply_fields, reply_bytes}
use Rattle.rmpp_core.specs.Segments.{Transfer, segment_count, segment_of, payload_size, payload_length, padded_segment, segment_rmpp, segment_sa, segment_fields, segment_mad}
use Rattle.rmpp_core.proofs.CutLemmas.{segment_is, segment_length}
use Rattle.rmpp_core.proofs.ReplyLemmas.{reply_fits, reply_encoded}

pub rmpp_held : (mad : List ℕ) (header : Header) (rmpp : RmppHeader) (fields : SaMad) → Holds mad (reply_fields header rmpp fields) → rmpp_in mad ≡ rmpp
rmpp_held mad header rmpp fields h =
    let r = h.1.1.1.1.1.1.1.1.1 in
    λ place. record {
      version = sym r.0 place;
      kind = sym r.1.0 place;
      response_time = sym r.1.1.0 place;
      flags = sym r.1.1.1.0 place;
      status = sym r.1.1.1.1.0 place;
      segment_number = sym r.1.1.1.1.1.0 place;
      payload_length_or_new_window_last = sym r.1.1.1.1.1.1.0 place;
    }

data_held : (mad : List ℕ) (header : Header) (rmpp : RmppHeader) (fields : SaMad) → length mad ≡ 256 → AllBelowBase 256 mad
    → length fields.«data» ≡ 200 → AllBelowBase 256 fields.«data» → Holds mad (reply_fields header rmpp fields) → data_in mad ≡ fields.«data»
data_held mad header rmpp fields long below size narrow h =
    let r = h.1.1.1.1.1.1.1.1.1 in
    bytes_stand mad fields.«data» 56 200 below narrow (omega (arith, long)) size r.1.1.1.1.1.1.1.1.1.1.0

pub reply_below : (header : Header) (rmpp : RmppHeader) (fields : SaMad) → AllBelowBase 256 (reply_bytes header rmpp fields)
unfolding reply_bytes
reply_below header rmpp fields = encoded_below (reply_fields header rmpp fields) 256

pub reply_long : (header : Header) (rmpp : RmppHeader) (fields : SaMad) → length (reply_bytes header rmpp fields) ≡ 256
unfolding reply_bytes
reply_long header rmpp fields = length-put_all (replicate 256 0) (reply_fields header rmpp fields) ∙ length-replicate {A = ℕ} 256 0

-- ---- what a segment says is narrow enough
flags_narrow : (a b : Bool) → 1 + 2 * bit_of a + 4 * bit_of b < 8
flags_narrow true true = omega arith
flags_narrow true false = omega arith
flags_narrow false true = omega arith
flags_narrow false false = omega arith

chosen_narrow : (a b : Bool) (x y z : ℕ) → x < 2 ^ 32 → y < 2 ^ 32 → z < 2 ^ 32 → (if a then x else if b then y else z) < 2 ^ 32
chosen_narrow true b x y z f g h = f
chosen_narrow false true x y z f g h = g
chosen_narrow false false x y z f g h = h

segment_below : (bytes : List ℕ) (number : ℕ) → 1 ≤ number → number ≤ segment_count bytes → AllBelowBase 256 bytes → AllBelowBase 256 (segment_of bytes number)
segment_below bytes number first last below =
    let P : List ℕ → Type 0 = AllBelowBase 256 in
    subst P (sym (segment_is bytes number first last))
    (below_taken 200 (drop (200 * (number - 1)) bytes) (below_dropped (200 * (number - 1)) bytes below))

padded_below : (bytes : List ℕ) (number : ℕ) → 1 ≤ number → number ≤ segment_count bytes → AllBelowBase 256 bytes → AllBelowBase 256 (padded_segment bytes number)
padded_below bytes number first last below =
    below_append (segment_of bytes number) (replicate (200 - length (segment_of bytes number)) 0)
    (segment_below bytes number first last below) (zeros_below (200 - length (segment_of bytes number)))

padded_long : (bytes : List ℕ) (number : ℕ) → 1 ≤ number → number ≤ segment_count bytes → length (padded_segment bytes number) ≡ 200
padded_long bytes number first last =
    let part = segment_of bytes number in
    let short = segment_length bytes number first last in
    let both = length-append part (replicate (200 - length part) 0) in
    let zeros = length-replicate {A = ℕ} (200 - length part) 0 in
    omega (arith, both, zeros, short)

-- ---- so the MAD holds them, and a receiver reads what the segment says
pub segment_held : (transfer : Transfer) (number : ℕ) → IsTransfer transfer → 1 ≤ number → number ≤ segment_count transfer.bytes
    → Holds (segment_mad transfer number) (segment_fields transfer number)
segment_held transfer number is first last =
    let bytes = transfer.bytes in
    let header = transfer.header.header in
    let rmpp = segment_rmpp bytes number in
    let sa = segment_sa transfer number in
    let long = padded_long bytes number first last in
    let narrow = padded_below bytes number first last is.bytes in
    let short = segment_length bytes number first last in
    let few : number < 2 ^ 32 = omega (arith, is.size, last) in
    let reported : payload_length bytes number < 2 ^ 32 =
    chosen_narrow (number == 1) (number == segment_count bytes) (payload_size bytes) (length (segment_of bytes number) + 20) 0
    is.size (omega (arith, short)) (omega arith) in
    let flags = flags_narrow (number == 1) (number == segment_count bytes) in
    let fits = reply_fits header rmpp sa is.header
    (omega arith, (omega arith, (omega arith, (flags, (omega arith, (few, (reported, tt)))))))
    (omega arith, (is.attribute_offset, (is.component_mask, (rw (ap (λ (n : ℕ). 2 ^ (8 * n)) long) at (number_below (padded_segment bytes number) narrow), tt)))) in
    (reply_encoded header rmpp sa fits).fields

pub record ReadsBack (transfer : Transfer) (number : ℕ) : Type 0 where
  pub rmpp : rmpp_in (segment_mad transfer number) ≡ segment_rmpp transfer.bytes number
  pub part : data_in (segment_mad transfer number) ≡ padded_segment transfer.bytes number

pub reads_back : (transfer : Transfer) (number : ℕ) → IsTransfer transfer → 1 ≤ number → number ≤ segment_count transfer.bytes → ReadsBack transfer number
reads_back transfer number is first last =
    let header = transfer.header.header in
    let rmpp = segment_rmpp transfer.bytes number in
    let sa = segment_sa transfer number in
    let held = segment_held transfer number is first last in
    let mad = segment_mad transfer number in
    record {
      rmpp = rmpp_held mad header rmpp sa held;
      part = data_held mad header rmpp sa (reply_long header rmpp sa) (reply_below header rmpp sa)
          (padded_long transfer.bytes number first last) (padded_below transfer.bytes number first last is.bytes) held;
    }
