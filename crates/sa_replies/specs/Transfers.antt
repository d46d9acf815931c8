-- Tables that are sent in segments (IBA volume 1, chapter 13), at most one to each port, and what a MAD does to them.
use Rattle.std.specs.Prelude.{ℕ, ◌+◌, ◌-◌, ◌==◌, Bool, ◌&&◌, if◌then◌else◌, List, [], ◌∷◌, map, max, Option, Some, None, Result, Ok, Err, find}
use Rattle.std.specs.List.{range_with_len}
use Rattle.mad_layout.specs.declared.rmpp_header.RmppHeader.{RmppHeader}
use Rattle.mad_layout.specs.declared.rmpp_kind.RmppKind.TheVariants.{Ack, Stop, Abort}
use Rattle.mad_layout.specs.RmppKind.{rmpp_kind_code}
use Rattle.rmpp_core.specs.declared.abort.AbortCause.{AbortCause}
use Rattle.rmpp_core.specs.declared.sender.Acknowledged.{Acknowledged}
use Rattle.rmpp_core.specs.Acks.{after_ack, abort_mad}
use Rattle.rmpp_core.specs.Laws.{IsTransfer}
use Rattle.rmpp_core.specs.Segments.{Transfer, segment_count, segment_mad}
use Rattle.subnet_model.specs.declared.subnet_port.SubnetPort.{SubnetPort}
use Rattle.sa_replies.specs.Request.{Request}

-- the table that is open to the port of a GUID, if one is
pub record PortTransfer : Type 0 where
  pub port : ℕ
  pub open_table : Option Transfer

abbrev pub no_transfers : List SubnetPort → List PortTransfer
no_transfers ports = map (λ port. record { port = port.guid; open_table = None }) ports

-- with this table open to that port in place of what was
abbrev pub with_table : ℕ → Option Transfer → List PortTransfer → List PortTransfer
with_table port table transfers = map (λ place. if place.port == port then record { port = port; open_table = table } else place) transfers

abbrev pub table_place : ℕ → List PortTransfer → Option PortTransfer
table_place port transfers = find (λ place. place.port == port) transfers

abbrev pub table_at : Option PortTransfer → Option Transfer
table_at (Some place) = place.open_table
table_at None = None

abbrev pub table_of : ℕ → List PortTransfer → Option Transfer
table_of port transfers = table_at (table_place port transfers)

-- a table that is open can be sent: its header fits, its bytes are bytes, and its length can be reported in 32 bits
abbrev pub CanBeSent : Option Transfer → Type 0
CanBeSent None = Unit {0}
CanBeSent (Some transfer) = IsTransfer transfer

-- ---- what an ACK sends, and what it leaves of the table
abbrev pub segments_between : Transfer → Acknowledged → List (List ℕ)
segments_between transfer acked = map (segment_mad transfer) (range_with_len acked.first (acked.last + 1 - acked.first))

abbrev pub acknowledged : Transfer → ℕ → Result Acknowledged AbortCause → List (List ℕ) × Option Transfer
acknowledged transfer window (Err cause) = (abort_mad transfer.header cause ∷ [], None)
acknowledged transfer window (Ok acked) =
    (segments_between transfer acked, if acked.is_complete then None else Some (record transfer { window = max transfer.window window }))

abbrev pub on_ack : Transfer → RmppHeader → List (List ℕ) × Option Transfer
on_ack transfer rmpp =
    acknowledged transfer rmpp.payload_length_or_new_window_last
    (after_ack transfer.window (segment_count transfer.bytes) rmpp.segment_number rmpp.payload_length_or_new_window_last)

-- a STOP and an ABORT end the table; a MAD of another kind, another version or another transaction does nothing
abbrev pub is_of_table : Transfer → Request → Bool
is_of_table transfer request =
    (request.rmpp.version == 1) && (request.header.transaction_id == transfer.header.header.transaction_id)

abbrev pub by_kind : Transfer → RmppHeader → List (List ℕ) × Option Transfer
by_kind transfer rmpp =
    if rmpp.kind == rmpp_kind_code Ack then on_ack transfer rmpp
    else if rmpp.kind == rmpp_kind_code Stop then ([], None)
    else if rmpp.kind == rmpp_kind_code Abort then ([], None)
    else ([], Some transfer)

abbrev pub on_rmpp : Request → Option Transfer → List (List ℕ) × Option Transfer
on_rmpp request None = ([], None)
on_rmpp request (Some transfer) = if is_of_table transfer request then by_kind transfer request.rmpp else ([], Some transfer)
