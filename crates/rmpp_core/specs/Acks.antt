-- What an ACK brings, and an ABORT (IBA volume 1, chapter 13).
use Rattle.std.specs.Prelude.{ℕ, ◌+◌, ◌==◌, nat_lt, if◌then◌else◌, List, replicate, max, min, Result, Ok, Err}
use Rattle.mad_layout.specs.declared.rmpp_header.RmppHeader.{RmppHeader}
use Rattle.mad_layout.specs.declared.rmpp_kind.RmppKind.TheVariants.{Abort}
use Rattle.mad_layout.specs.declared.sa_mad.SaMad.{SaMad}
use Rattle.mad_layout.specs.Layout.{Field}
use Rattle.mad_layout.specs.RmppKind.{rmpp_kind_code}
use Rattle.rmpp_core.specs.declared.abort.AbortCause.{AbortCause}
use Rattle.rmpp_core.specs.declared.abort.AbortCause.TheVariants.{WindowTooSmall, SegmentTooBig}
use Rattle.rmpp_core.specs.declared.mads.ReplyHeader.{ReplyHeader}
use Rattle.rmpp_core.specs.declared.sender.Acknowledged.{Acknowledged}
use Rattle.rmpp_core.specs.Reply.{reply_fields, reply_bytes}

-- an ACK of `segment` with the window `new`, where the window is `window` and the table has `count` segments: those
-- after the window are sent up to the new one, as far as there are segments; a window never shrinks
abbrev pub after_ack : ℕ → ℕ → ℕ → ℕ → Result Acknowledged AbortCause
after_ack window count segment new =
    if nat_lt new segment then Err WindowTooSmall
    else if nat_lt count segment then Err SegmentTooBig
    else Ok (record { first = min window count + 1; last = min (max window new) count; is_complete = segment == count })

abbrev pub abort_code : AbortCause → ℕ
abort_code WindowTooSmall = 122
abort_code SegmentTooBig = 123

-- ---- an ABORT is of no segment, and has no data
abbrev pub abort_rmpp : AbortCause → RmppHeader
abort_rmpp cause =
    record {
      version = 1;
      kind = rmpp_kind_code Abort;
      response_time = 0;
      flags = 1;
      status = abort_code cause;
      segment_number = 0;
      payload_length_or_new_window_last = 0;
    }

abbrev pub abort_sa : ReplyHeader → SaMad
abort_sa header =
    record { sm_key = 0; attribute_offset = 0; component_mask = header.component_mask; «data» = replicate 200 0 }

abbrev pub abort_fields : ReplyHeader → AbortCause → List Field
abort_fields header cause = reply_fields header.header (abort_rmpp cause) (abort_sa header)

abbrev pub abort_mad : ReplyHeader → AbortCause → List ℕ
abort_mad header cause = reply_bytes header.header (abort_rmpp cause) (abort_sa header)
