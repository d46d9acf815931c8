-- The segments of a table of records (IBA volume 1, chapter 13; 15.2.1.1 for their layout).
use Rattle.std.specs.Prelude.{ℕ, ◌+◌, ◌-◌, ◌*◌, ◌/◌, ◌==◌, if◌then◌else◌, List, [], ◌++◌, length, replicate, get_or, max}
use Rattle.std.specs.Simd.{first_chunks}
use Rattle.mad_layout.specs.declared.rmpp_header.RmppHeader.{RmppHeader}
use Rattle.mad_layout.specs.declared.rmpp_kind.RmppKind.TheVariants.{Data}
use Rattle.mad_layout.specs.declared.sa_mad.SaMad.{SaMad}
use Rattle.mad_layout.specs.Bits.{bit_of}
use Rattle.mad_layout.specs.Layout.{Field}
use Rattle.mad_layout.specs.RmppKind.{rmpp_kind_code}
use Rattle.rmpp_core.specs.declared.mads.ReplyHeader.{ReplyHeader}
use Rattle.rmpp_core.specs.Reply.{reply_fields, reply_bytes}

-- what a sender has: the header of its answers, the bytes of the table, and the window, the last segment that the
-- receiver wants before it acknowledges again
pub record Transfer : Type 0 where
  pub header : ReplyHeader
  pub bytes : List ℕ
  pub window : ℕ

-- at first segment 1 alone is wanted
abbrev pub opened : ReplyHeader → List ℕ → Transfer
opened header bytes = record { header = header; bytes = bytes; window = 1 }

-- ---- the cut
-- as many segments of 200 bytes as the bytes fill, the last with the rest; no bytes are one segment too
abbrev pub segment_count : List ℕ → ℕ
segment_count bytes = max 1 ((length bytes + 199) / 200)

abbrev pub segments_of : List ℕ → List (List ℕ)
segments_of bytes = first_chunks 200 (segment_count bytes) bytes

-- the segment of that number, counted from 1
unfoldable pub segment_of : List ℕ → ℕ → List ℕ
segment_of bytes number = get_or (segments_of bytes) (number - 1) []

-- ---- the MAD of a segment
-- beside its data each segment counts for 20 bytes, those from SM_Key to ComponentMask: the first reports the length of
-- the whole table, the last its own
abbrev pub payload_size : List ℕ → ℕ
payload_size bytes = length bytes + 20 * segment_count bytes

abbrev pub payload_length : List ℕ → ℕ → ℕ
payload_length bytes number =
    if number == 1 then payload_size bytes
    else if number == segment_count bytes then length (segment_of bytes number) + 20
    else 0

-- Active on each, First on the first and Last on the last
abbrev pub flags_of : ℕ → ℕ → ℕ
flags_of count number = 1 + 2 * bit_of (number == 1) + 4 * bit_of (number == count)

-- the data of a MAD is 200 bytes
abbrev pub padded_segment : List ℕ → ℕ → List ℕ
padded_segment bytes number = segment_of bytes number ++ replicate (200 - length (segment_of bytes number)) 0

abbrev pub segment_rmpp : List ℕ → ℕ → RmppHeader
segment_rmpp bytes number =
    record {
      version = 1;
      kind = rmpp_kind_code Data;
      response_time = 0;
      flags = flags_of (segment_count bytes) number;
      status = 0;
      segment_number = number;
      payload_length_or_new_window_last = payload_length bytes number;
    }

abbrev pub segment_sa : Transfer → ℕ → SaMad
segment_sa transfer number =
    record {
      sm_key = 0;
      attribute_offset = transfer.header.attribute_offset;
      component_mask = transfer.header.component_mask;
      «data» = padded_segment transfer.bytes number;
    }

abbrev pub segment_fields : Transfer → ℕ → List Field
segment_fields transfer number =
    reply_fields transfer.header.header (segment_rmpp transfer.bytes number) (segment_sa transfer number)

abbrev pub segment_mad : Transfer → ℕ → List ℕ
segment_mad transfer number =
    reply_bytes transfer.header.header (segment_rmpp transfer.bytes number) (segment_sa transfer number)
