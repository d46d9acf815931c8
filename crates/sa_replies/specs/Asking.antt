-- How a port that asks acknowledges a table that answers it in segments (IBA volume 1, chapter 13).
use Rattle.std.specs.Prelude.{ℕ, ◌+◌, ◌/◌, ◌==◌, Bool, ◌&&◌, if◌then◌else◌, List, [], ◌∷◌, map, max, replicate}
use Rattle.std.specs.List.{range_with_len}
use Rattle.mad_layout.specs.Method.{method_code}
use Rattle.mad_layout.specs.RmppKind.{rmpp_kind_code}
use Rattle.mad_layout.specs.declared.mad_header.Header.{Header}
use Rattle.mad_layout.specs.declared.method.Method.TheVariants.{GetTable}
use Rattle.mad_layout.specs.declared.rmpp_header.RmppHeader.{RmppHeader}
use Rattle.mad_layout.specs.declared.rmpp_kind.RmppKind.TheVariants.{Ack}
use Rattle.mad_layout.specs.declared.sa_mad.SaMad.{SaMad}
use Rattle.rmpp_core.specs.Receiving.{is_data, is_first}
use Rattle.mad_layout.specs.RmppHeader.{rmpp_in}
use Rattle.rmpp_core.specs.Reply.{reply_bytes}
use Rattle.mad_layout.specs.MadHeader.{header_in}

-- the segments of the table whose first one reports this length: each has 200 bytes, and counts for 20 more
abbrev pub segments_reported : ℕ → ℕ
segments_reported length = max 1 ((length + 219) / 220)

-- ---- an ACK: of a segment, with the window up to the next one, and at the last one up to that
abbrev pub ack_header : Header → Header
ack_header segment = record segment { method = method_code GetTable }

abbrev pub ack_rmpp : ℕ → ℕ → RmppHeader
ack_rmpp count number = record {
  version = 1;
  kind = rmpp_kind_code Ack;
  response_time = 0;
  flags = 1;
  status = 0;
  segment_number = number;
  payload_length_or_new_window_last = if number == count then number else number + 1;
}

-- it has no mask and no data
abbrev pub ack_sa : SaMad
ack_sa = record { sm_key = 0; attribute_offset = 0; component_mask = 0; «data» = replicate 200 0 }

abbrev pub ack_mad : Header → ℕ → ℕ → List ℕ
ack_mad segment count number = reply_bytes (ack_header segment) (ack_rmpp count number) ack_sa

-- ---- the first segment of a table reports how many there are; each of them is acknowledged, in order
abbrev pub is_first_segment : RmppHeader → Bool
is_first_segment rmpp = is_data rmpp && is_first rmpp

abbrev pub acks_of : Header → ℕ → List (List ℕ)
acks_of segment count = map (ack_mad segment count) (range_with_len 1 count)

abbrev pub acknowledgements : List (List ℕ) → List (List ℕ)
acknowledgements [] = []
acknowledgements (mad ∷ mads) =
    if is_first_segment (rmpp_in mad)
    then acks_of (header_in mad) (segments_reported (rmpp_in mad).payload_length_or_new_window_last)
    else []
