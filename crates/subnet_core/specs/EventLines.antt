-- The lines of a report: what they print of each event.
use Rattle.std.specs.Prelude.{ℕ, ◌==◌, List, [], ◌∷◌, ◌++◌, drop, length, codes, decimal, Option, Some, None, if◌then◌else◌}
use Rattle.std.specs.List.{list_all, flat_map}
use Rattle.std.specs.Int.{w16, w32, to_be_bytes}
use Rattle.hex.specs.Hex.{encode_lower}
use Rattle.partition_reports.specs.Ports.{port_text}
use Rattle.text_words.specs.Parts.{hex_text}
use Rattle.data_packet.specs.declared.packet.Packet.{Packet}
use Rattle.data_packet.specs.Refusal.{code_of}
use Rattle.subnet_model.specs.declared.subnet_port.SubnetPort.{SubnetPort}
use Rattle.subnet_model.specs.declared.event.PortEvent.{PortEvent}
use Rattle.subnet_model.specs.declared.event.Outcome.{Outcome}
use Rattle.subnet_model.specs.declared.event.Outcome.TheVariants.{Received, Refused}
use Rattle.subnet_model.specs.Delivery.{port_with_guid}

abbrev pub name_text : Option SubnetPort → List ℕ
name_text (Some port) = port_text port
name_text None = []

-- the bytes without the zero bytes at their end
abbrev pub trimmed : List ℕ → List ℕ
trimmed [] = []
trimmed (byte ∷ bytes) = if list_all (λ b. b == 0) (byte ∷ bytes) then [] else byte ∷ trimmed bytes

-- how many bytes, and those before the zero bytes at the end, as `2:beef`
abbrev pub payload_text : List ℕ → List ℕ
payload_text bytes = decimal (length bytes) ++ codes ":" ++ encode_lower (trimmed bytes)

-- ` recv SLID DLID PKEY QP N:HEX`
abbrev pub packet_text : Packet → List ℕ
packet_text packet =
    codes " recv " ++ hex_text (to_be_bytes w16 packet.slid)
    ++ codes " " ++ hex_text (to_be_bytes w16 packet.dlid)
    ++ codes " " ++ hex_text (to_be_bytes w16 packet.p_key)
    ++ codes " " ++ hex_text (drop 1 (to_be_bytes w32 packet.destination_qp))
    ++ codes " " ++ payload_text packet.payload

-- or ` refused CODE`
abbrev pub outcome_text : Outcome → List ℕ
outcome_text (Received packet) = packet_text packet
outcome_text (Refused refusal) = codes " refused " ++ code_of refusal

-- the port, what happens there, and LF
abbrev pub line_text : List SubnetPort → PortEvent → List ℕ
line_text ports event = name_text (port_with_guid ports event.port_guid) ++ outcome_text event.what ++ 10 ∷ []

-- a line for each event, in order
abbrev pub report_text : List SubnetPort → List PortEvent → List ℕ
report_text ports events = flat_map (line_text ports) events
