-- The paths of a packet, as lines.
use Rattle.std.specs.Prelude.{ℕ, List, [], ◌∷◌, ◌++◌, codes, decimal, flat_map, Result, Ok, Err}
use Rattle.std.specs.Int.{w16, to_be_bytes}
use Rattle.std.specs.Option.{option_map_or}
use Rattle.data_packet.specs.Refusal.{code_of}
use Rattle.data_packet.specs.declared.packet.Packet.{Packet}
use Rattle.data_packet.specs.declared.refusal.Refusal.{Refusal}
use Rattle.fabric_parts.specs.Cable.{far_end}
use Rattle.fabric_parts.specs.declared.cable.PortRef.{PortRef}
use Rattle.text_words.specs.Parts.{hex_text, port_name}
use Rattle.packet_trace.specs.Steps.{steps_of}
use Rattle.packet_trace.specs.declared.lines.TheConstants.{DATA_QP}
use Rattle.packet_trace.specs.declared.turn.Step.{Step}
use Rattle.packet_trace.specs.declared.turn.Turn.{Turn}
use Rattle.packet_trace.specs.declared.turn.Turn.TheVariants.{Again, DropsInbound, DropsTop, DropsEntry, DropsMask, Takes, DropsOutbound, NoCable, Meets, GoesOut, Accepts, DropsKey}
use Rattle.smp_wire.specs.Deliveries.{adapter_at}
use Rattle.port_model.specs.AdapterState.{AdapterState}
use Rattle.port_model.specs.Packets.{stamped}
use Rattle.smp_wire.specs.FabricState.{FabricState}
use Rattle.topo_file.specs.declared.node.Node.{Node}
use Rattle.topo_file.specs.Node.{name_at}

-- ---- places
-- a port of a channel adapter, as `h1/1`
abbrev pub port_text : List Node → PortRef → List ℕ
port_text nodes at = port_name (name_at nodes at.node) at.port

-- a switch, and the port at which the packet came in, as `A in 2`
abbrev pub entry_text : List Node → PortRef → List ℕ
entry_text nodes at = name_at nodes at.node ++ codes " in " ++ decimal at.port

-- ---- steps
abbrev pub place_text : List Node → PortRef → Turn → List ℕ
place_text nodes at Accepts = port_text nodes at
place_text nodes at DropsKey = port_text nodes at
place_text nodes at turn = entry_text nodes at

abbrev pub turn_text : Turn → List ℕ
turn_text Again = codes " again"
turn_text DropsInbound = codes " drops inbound"
turn_text DropsTop = codes " drops top"
turn_text (DropsEntry entry) = codes " drops entry " ++ decimal entry
turn_text DropsMask = codes " drops mask"
turn_text Takes = codes " takes"
turn_text (DropsOutbound out) = codes " out " ++ decimal out ++ codes " drops outbound"
turn_text (NoCable out) = codes " out " ++ decimal out ++ codes " no cable"
turn_text (Meets out) = codes " out " ++ decimal out ++ codes " again"
turn_text (GoesOut out) = codes " out " ++ decimal out
turn_text Accepts = codes " accepts"
turn_text DropsKey = codes " drops key"

-- where the packet came in, and what became of it
abbrev pub step_line : List Node → Step → List ℕ
step_line nodes step = place_text nodes step.at step.turn ++ turn_text step.turn ++ 10 ∷ []

-- ---- the port that sends
-- `PORT stamps SLID DLID PKEY`
abbrev pub stamps_line : List Node → PortRef → Packet → List ℕ
stamps_line nodes from packet =
    port_text nodes from ++ codes " stamps " ++ hex_text (to_be_bytes w16 packet.slid)
    ++ codes " " ++ hex_text (to_be_bytes w16 packet.dlid)
    ++ codes " " ++ hex_text (to_be_bytes w16 packet.p_key) ++ 10 ∷ []

-- `PORT refuses CODE`
abbrev pub refuses_line : List Node → PortRef → Refusal → List ℕ
refuses_line nodes from refusal = port_text nodes from ++ codes " refuses " ++ code_of refusal ++ 10 ∷ []

-- what it sends goes to the other end of its cable
abbrev pub way_text : List Node → FabricState → PortRef → Packet → List ℕ
way_text nodes fabric from packet =
    flat_map (step_line nodes) (option_map_or (steps_of fabric packet) (far_end fabric.cables from) [])

abbrev pub text_of_sent : List Node → FabricState → PortRef → Result Packet Refusal → List ℕ
text_of_sent nodes fabric from (Ok packet) = stamps_line nodes from packet ++ way_text nodes fabric from packet
text_of_sent nodes fabric from (Err refusal) = refuses_line nodes from refusal

-- a packet without payload, to a queue pair for data
abbrev pub text_from : List Node → FabricState → PortRef → (dlid p_key : ℕ) → AdapterState → List ℕ
text_from nodes fabric from dlid p_key sender = text_of_sent nodes fabric from (stamped sender dlid p_key DATA_QP [])

-- nothing, if no port of a channel adapter is there
abbrev pub trace_text : List Node → FabricState → PortRef → (dlid p_key : ℕ) → List ℕ
trace_text nodes fabric from dlid p_key =
    option_map_or (text_from nodes fabric from dlid p_key) (adapter_at fabric.nodes from) []
