-- A wrong rule for the ports by which packets load cables, and the law that it breaks.
use Rattle.std.specs.Prelude.{ℕ, ◌&&◌, Bool, false, [], ◌∷◌, codes}
use Rattle.agent_rules.specs.PowerUp.{switch_info_at_power_up}
use Rattle.agent_rules.specs.declared.link.PortLink.TheVariants.{Cabled, Internal}
use Rattle.audit_loads.specs.Ways.{passes}
use Rattle.data_packet.specs.declared.packet.Packet.{Packet}
use Rattle.smp_wire.specs.DeliveryExamples.{adapter_with, cable, switch_port}
use Rattle.dump_file.specs.Dump.{DumpState}
use Rattle.dump_file.specs.declared.destination.Destination.TheVariants.{NotReported}
use Rattle.fabric_parts.specs.declared.cable.PortRef.{PortRef}
use Rattle.fabric_parts.specs.declared.node_type.NodeType.TheVariants as node_type
use Rattle.audit_loops.specs.Channels.{is_channel}
use Rattle.audit_net.specs.Net.{NetState}
use Rattle.smp_wire.specs.FabricState.{FabricState}
use Rattle.smp_wire.specs.declared.node.Node.TheVariants.{Switch}
use Rattle.switch_model.specs.SwitchState.{SwitchState}
use Rattle.topo_file.specs.Topology.{TopologyState}
use Rattle.joint_laws.specs.TraceLaws.{FollowsTraces}

-- ---- packets load cables between switches alone, and not that to the port of their LID
abbrev pub between_switches : NetState → (lid place : ℕ) → PortRef → Bool
between_switches net lid place at = passes net lid place at && is_channel net at

abbrev pub LastCablesLoadToo : Type 0
LastCablesLoadToo = FollowsTraces between_switches → ⊥

-- ---- a switch with two adapters, to the second of which LID 2 leads
abbrev pub one_plan : TopologyState
one_plan = record {
  nodes =
      record { name = codes "A"; node_type = node_type.Switch; guid = 0x10; ports = 2 }
      ∷ record { name = codes "h"; node_type = node_type.ChannelAdapter; guid = 0x100; ports = 1 }
      ∷ record { name = codes "k"; node_type = node_type.ChannelAdapter; guid = 0x110; ports = 1 }
      ∷ [];
  cables = cable 0 1 1 1 ∷ cable 0 2 2 1 ∷ [];
  roots = [];
  sm = record { node = 1; port = 1 };
}

abbrev pub one_held : SwitchState
one_held = record {
  node_guid = 0x10;
  description = [];
  info = record switch_info_at_power_up { linear_fdb_top = 2 };
  ports = switch_port 0 Internal false ∷ switch_port 1 Cabled false ∷ switch_port 2 Cabled false ∷ [];
  linear = 255 ∷ 255 ∷ 2 ∷ [];
  masks = [];
}

abbrev pub one_switch : FabricState
one_switch = record {
  nodes = Switch one_held ∷ adapter_with 0x100 1 Cabled ∷ adapter_with 0x110 2 Cabled ∷ [];
  cables = cable 0 1 1 1 ∷ cable 0 2 2 1 ∷ [];
  cut = [];
  manager = record { node = 1; port = 1 };
}

abbrev pub one_dump : DumpState
one_dump = record { tables = record { line = 1; guid = 0x10; top = 2; rows = record { lid = 2; port = 2; destination = NotReported } ∷ [] } ∷ [] }

-- from h to k
abbrev pub a_packet : Packet
a_packet = record { slid = 1; dlid = 2; p_key = 0xffff; destination_qp = 2; payload = [] }
