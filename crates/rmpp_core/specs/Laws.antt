-- What holds of all transfers: the statements of the laws of `src/laws.rt`.
use Rattle.std.specs.Prelude.{ℕ, ◌≡◌, ◌+◌, ◌-◌, ◌*◌, ◌^◌, ◌<◌, ◌≤◌, ◌==◌, List, [], ◌∷◌, ◌++◌, map, length, get_or, take, max, Bool, true, false, ◌⊎◌, Result, Ok, Err, Some}
use Rattle.std.specs.Int.Digits.{AllBelowBase}
use Rattle.std.specs.List.{AllByRecursion, flat_map, range_with_len}
use Rattle.mad_layout.specs.Bits.{field}
use Rattle.mad_layout.specs.Layout.{Fits}
use Rattle.mad_layout.specs.MadHeader.{mad_header}
use Rattle.rmpp_core.specs.declared.abort.AbortCause.{AbortCause}
use Rattle.rmpp_core.specs.declared.receiver.ReceiveFault.{ReceiveFault}
use Rattle.rmpp_core.specs.declared.sender.Acknowledged.{Acknowledged}
use Rattle.rmpp_core.specs.Acks.{after_ack}
use Rattle.rmpp_core.specs.Receiving.{ReassemblyState, nothing, payload_length_of, is_data, is_first, is_last, after_data, whole_bytes}
use Rattle.mad_layout.specs.RmppHeader.{rmpp_in}
use Rattle.mad_layout.specs.SaMad.{data_in}
use Rattle.rmpp_core.specs.Segments.{Transfer, segment_count, segments_of, segment_of, payload_size, segment_mad}

-- ---- the cut: put together the segments are the bytes; each but the last has 200, and the last has some if there
-- are any
pub record AreTheSegments (bytes : List ℕ) : Type 0 where
  pub joined : flat_map (λ segment. segment) (segments_of bytes) ≡ bytes
  pub count : length (segments_of bytes) ≡ segment_count bytes
  pub full : (number : ℕ) → 1 ≤ number → number < segment_count bytes → length (segment_of bytes number) ≡ 200
  pub last_narrow : length (segment_of bytes (segment_count bytes)) ≤ 200
  pub last_some : 0 < length bytes → 0 < length (segment_of bytes (segment_count bytes))

abbrev pub SegmentsAreTheBytes : Type 0
SegmentsAreTheBytes = (bytes : List ℕ) → AreTheSegments bytes

-- ---- ACKs, each with its segment and its window, until one ends the transfer or aborts it: the numbers of the
-- segments that are sent, where `count` is the number of segments and `window` the window
abbrev pub numbers_to_send : Acknowledged → List ℕ
numbers_to_send acked = range_with_len acked.first (acked.last + 1 - acked.first)

abbrev pub sent_until_end : Bool → List ℕ → List ℕ
sent_until_end true later = []
sent_until_end false later = later

abbrev pub sent_on_ack : Result Acknowledged AbortCause → List ℕ → List ℕ
sent_on_ack (Ok acked) later = numbers_to_send acked ++ sent_until_end acked.is_complete later
sent_on_ack (Err cause) later = []

abbrev pub sent_on_acks : ℕ → ℕ → List (ℕ × ℕ) → List ℕ
sent_on_acks count window [] = []
sent_on_acks count window (ack ∷ acks) =
    sent_on_ack (after_ack window count ack.0 ack.1) (sent_on_acks count (max window ack.1) acks)

-- what is sent, segment 1 included, is segments 1 to some last one
abbrev pub SegmentsGoOutInOrder : Type 0
SegmentsGoOutInOrder =
    (count : ℕ) (acks : List (ℕ × ℕ)) → 1 ≤ count
    → (last : ℕ) × (last ≤ count) × (1 ∷ sent_on_acks count 1 acks ≡ range_with_len 1 last)

-- ---- what senders have: numbers that fit their fields, bytes that are bytes, and a length that can be reported
pub record IsTransfer (transfer : Transfer) : Type 0 where
  pub header : Fits (mad_header transfer.header.header)
  pub attribute_offset : transfer.header.attribute_offset < 2 ^ 16
  pub component_mask : transfer.header.component_mask < 2 ^ 64
  pub bytes : AllBelowBase 256 transfer.bytes
  pub size : payload_size transfer.bytes < 2 ^ 32

-- all segments, in order
abbrev pub segment_mads : Transfer → List (List ℕ)
segment_mads transfer = map (segment_mad transfer) (range_with_len 1 (segment_count transfer.bytes))

abbrev pub after_all : Result ReassemblyState ReceiveFault → List (List ℕ) → Result ReassemblyState ReceiveFault
after_all received [] = received
after_all received (mad ∷ mads) = after_all (after_data received mad) mads

abbrev pub SegmentsAreReceived : Type 0
SegmentsAreReceived =
    (transfer : Transfer) → IsTransfer transfer
    → whole_bytes (after_all (Ok nothing) (segment_mads transfer)) ≡ Some transfer.bytes

-- ---- in numbers of their own: a segment has RMPP version 1, is DATA (1), and has the number that it was asked by
pub record HasItsNumbers (mad : List ℕ) (number : ℕ) : Type 0 where
  pub version : field mad 192 8 ≡ 1
  pub kind : field mad 200 8 ≡ 1
  pub number_is : field mad 224 32 ≡ number

abbrev pub SegmentsHaveTheirNumbers : Type 0
SegmentsHaveTheirNumbers =
    (transfer : Transfer) (number : ℕ) → IsTransfer transfer → 1 ≤ number → number ≤ segment_count transfer.bytes
    → HasItsNumbers (segment_mad transfer number) number

-- the segment of this number has the last of so many bytes, or is the only one: 200 go before for each segment before it
abbrev pub IsLastOf : ℕ → ℕ → Type 0
IsLastOf long number = (1 ≤ number) × (long ≤ 200 * number) × ((number ≡ 1) ⊎ (200 * number < long + 200))

-- a transfer is complete if and only if its last segment was acknowledged
pub record CompletesAtLast (long number : ℕ) (acked : Acknowledged) : Type 0 where
  pub then : acked.is_complete ≡ true → IsLastOf long number
  pub only : IsLastOf long number → acked.is_complete ≡ true

abbrev pub LastAcksComplete : Type 0
LastAcksComplete =
    (bytes : List ℕ) (window number new : ℕ) (acked : Acknowledged) → after_ack window (segment_count bytes) number new ≡ Ok acked
    → CompletesAtLast (length bytes) number acked

-- ---- what came to a receiver that has a table, each MAD of 256 bytes: segments in turn, First on the first and Last
-- on the last; the bytes are the data of all, of the last as many as it reports; and the first reports the length of all,
-- with 20 for each segment
abbrev pub payload_length_in : List ℕ → ℕ
payload_length_in mad = payload_length_of (rmpp_in mad)

pub record IsSegmentAt (count place : ℕ) (mad : List ℕ) : Type 0 where
  pub segment : is_data (rmpp_in mad) ≡ true
  pub number : (rmpp_in mad).segment_number ≡ place + 1
  pub first : is_first (rmpp_in mad) ≡ (place == 0)
  pub last : is_last (rmpp_in mad) ≡ (place + 1 == count)

pub record IsTable (mads : List (List ℕ)) (bytes : List ℕ) : Type 0 where
  pub front : List (List ℕ)
  pub last : List ℕ
  pub split : mads ≡ front ++ last ∷ []
  pub each : (place : ℕ) → place < length mads → IsSegmentAt (length mads) place (get_or mads place [])
  pub at_least : 20 ≤ payload_length_in last
  pub at_most : payload_length_in last ≤ 220
  pub joined : bytes ≡ flat_map data_in front ++ take (payload_length_in last - 20) (data_in last)
  pub whole_length : payload_length_in (get_or mads 0 []) ≡ 20 * length mads + length bytes

abbrev pub WhatIsReceivedIsATable : Type 0
WhatIsReceivedIsATable =
    (mads : List (List ℕ)) (bytes : List ℕ) → AllByRecursion (λ mad. length mad ≡ 256) mads
    → whole_bytes (after_all (Ok nothing) mads) ≡ Some bytes → IsTable mads bytes
