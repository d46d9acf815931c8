-- Each form of a line of a trace, once as a whole text beside the parts that make it.
use Rattle.std.specs.Prelude.{ℕ, ◌≡◌, List, [], ◌∷◌, ◌++◌, codes}
use Rattle.data_packet.specs.declared.packet.Packet.{Packet}
use Rattle.data_packet.specs.declared.refusal.Refusal.TheVariants.{KeyNotHeld, PortNotActive, QpZero, ReservedDlid}
use Rattle.fabric_parts.specs.Cable.{port}
use Rattle.fabric_parts.specs.declared.node_type.NodeType.TheVariants.{ChannelAdapter, Switch}
use Rattle.packet_trace.specs.Lines.{refuses_line, stamps_line, step_line}
use Rattle.packet_trace.specs.Trace.{step}
use Rattle.packet_trace.specs.declared.turn.Turn.{Turn}
use Rattle.packet_trace.specs.declared.turn.Turn.TheVariants.{Again, DropsInbound, DropsTop, DropsEntry, DropsMask, Takes, DropsOutbound, NoCable, Meets, GoesOut, Accepts, DropsKey}
use Rattle.topo_file.specs.declared.node.Node.{Node}

-- a switch A and an adapter h1
abbrev pub two_nodes : List Node
two_nodes =
    record { name = codes "A"; node_type = Switch; guid = 0x10; ports = 36 }
    ∷ record { name = codes "h1"; node_type = ChannelAdapter; guid = 0x110; ports = 1 }
    ∷ []

abbrev pub a_packet : Packet
a_packet = record { slid = 4; dlid = 0x00ab; p_key = 0x8001; destination_qp = 7; payload = [] }

-- at port 12 of the switch, and at the adapter's port
abbrev pub at_switch : Turn → List ℕ
at_switch turn = step_line two_nodes (step (port 0 12) turn)

abbrev pub at_adapter : Turn → List ℕ
at_adapter turn = step_line two_nodes (step (port 1 1) turn)

-- a text and the end of its line
abbrev pub ended : List ℕ → List ℕ
ended text = text ++ 10 ∷ []

pub record TraceLinesAreWhole : Type 0 where
  pub stamps : stamps_line two_nodes (port 1 1) a_packet ≡ ended (codes "h1/1 stamps 0x0004 0x00ab 0x8001")
  pub not_active : refuses_line two_nodes (port 1 1) PortNotActive ≡ ended (codes "h1/1 refuses AR4")
  pub not_held : refuses_line two_nodes (port 1 1) KeyNotHeld ≡ ended (codes "h1/1 refuses AR1")
  pub qp_zero : refuses_line two_nodes (port 1 1) QpZero ≡ ended (codes "h1/1 refuses AR2")
  pub reserved : refuses_line two_nodes (port 1 1) ReservedDlid ≡ ended (codes "h1/1 refuses AR3")
  pub again : at_switch Again ≡ ended (codes "A in 12 again")
  pub inbound : at_switch DropsInbound ≡ ended (codes "A in 12 drops inbound")
  pub top : at_switch DropsTop ≡ ended (codes "A in 12 drops top")
  pub entry : at_switch (DropsEntry 255) ≡ ended (codes "A in 12 drops entry 255")
  pub mask : at_switch DropsMask ≡ ended (codes "A in 12 drops mask")
  pub takes : at_switch Takes ≡ ended (codes "A in 12 takes")
  pub outbound : at_switch (DropsOutbound 3) ≡ ended (codes "A in 12 out 3 drops outbound")
  pub no_cable : at_switch (NoCable 3) ≡ ended (codes "A in 12 out 3 no cable")
  pub meets : at_switch (Meets 3) ≡ ended (codes "A in 12 out 3 again")
  pub goes : at_switch (GoesOut 3) ≡ ended (codes "A in 12 out 3")
  pub accepts : at_adapter Accepts ≡ ended (codes "h1/1 accepts")
  pub key : at_adapter DropsKey ≡ ended (codes "h1/1 drops key")
