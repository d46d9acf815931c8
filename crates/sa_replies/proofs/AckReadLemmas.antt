-- What is read in an ACK is what was written, and the header of whatever is written so.
use Rattle.std.proofs.Common.{ℕ, ◌+◌, ◌^◌, ◌<◌, ◌==◌, Bool, true, false, if◌then◌else◌, List, replicate, ◌≡◌, subst, sym, arith}
use Rattle.mad_layout.proofs.LayoutLemmas.{number_zeros}
use Rattle.mad_layout.specs.Bits.{number as number_of}
use Rattle.mad_layout.specs.Layout.{Fits, Holds}
use Rattle.mad_layout.specs.MadHeader.{mad_header, header_in}
use Rattle.mad_layout.specs.declared.mad_header.Header.{Header}
use Rattle.mad_layout.specs.declared.rmpp_header.RmppHeader.{RmppHeader}
use Rattle.mad_layout.specs.declared.sa_mad.SaMad.{SaMad}
use Rattle.rmpp_core.proofs.ReplyLemmas.{reply_fits, reply_encoded}
use Rattle.rmpp_core.specs.Reply.{reply_fields}
use Rattle.sa_replies.specs.Asking.{ack_header, ack_mad, ack_rmpp, ack_sa}

pub header_held : (mad : List ℕ) (header : Header) (rmpp : RmppHeader) (fields : SaMad) → Holds mad (reply_fields header rmpp fields) → header_in mad ≡ header
header_held mad header rmpp fields h = λ place. record {
  base_version = sym h.0 place;
  mgmt_class = sym h.1.0 place;
  class_version = sym h.1.1.0 place;
  method = sym h.1.1.1.0 place;
  status = sym h.1.1.1.1.0 place;
  class_specific = sym h.1.1.1.1.1.0 place;
  transaction_id = sym h.1.1.1.1.1.1.0 place;
  attribute_id = sym h.1.1.1.1.1.1.1.0 place;
  attribute_modifier = sym h.1.1.1.1.1.1.1.1.0 place;
}

window_narrow : (last : Bool) (number : ℕ) → number + 1 < 2 ^ 32 → (if last then number else number + 1) < 2 ^ 32
window_narrow true number low = omega (arith, low)
window_narrow false number low = low

zeros_fit : number_of (replicate 200 0) < 2 ^ 1600
zeros_fit = subst (λ (n : ℕ). n < 2 ^ 1600) (sym (number_zeros 200)) (omega arith)

pub ack_held : (header : Header) (count number : ℕ) → Fits (mad_header header) → number + 1 < 2 ^ 32
    → Holds (ack_mad header count number) (reply_fields (ack_header header) (ack_rmpp count number) ack_sa)
ack_held header count number narrow low = (reply_encoded (ack_header header) (ack_rmpp count number) ack_sa fits).fields
  where
    fits : Fits (reply_fields (ack_header header) (ack_rmpp count number) ack_sa)
    fits = reply_fits (ack_header header) (ack_rmpp count number) ack_sa
        (narrow.0, (narrow.1.0, (narrow.1.1.0, (omega arith, narrow.1.1.1.1))))
        (omega arith, (omega arith, (omega arith, (omega arith, (omega arith, (omega (arith, low), (window_narrow (number == count) number low, tt)))))))
        (omega arith, (omega arith, (omega arith, (zeros_fit, tt))))
