-- What a trace and the loads of cables have in common: the statements of the laws of `src/trace_laws.rt`.
use Rattle.std.specs.Prelude.{ℕ, ◌≡◌, ◌≤◌, Bool, true, false, List, length, slice_get, Some}
use Rattle.std.specs.List.{Contains}
use Rattle.audit_loads.specs.Ways.{passes}
use Rattle.data_packet.specs.declared.packet.Packet.{Packet}
use Rattle.dump_file.specs.Dump.{DumpState}
use Rattle.fabric_parts.specs.Lid.{is_multicast}
use Rattle.fabric_parts.specs.declared.cable.PortRef.{PortRef}
use Rattle.joint_laws.specs.RouteLaws.{over}
use Rattle.joint_laws.specs.OwnTables.{dump_of}
use Rattle.joint_laws.specs.Shown.{Shows}
use Rattle.packet_trace.specs.Steps.{steps_of}
use Rattle.packet_trace.specs.Trace.{step}
use Rattle.packet_trace.specs.declared.turn.Turn.TheVariants.{Accepts}
use Rattle.audit_net.specs.Net.{NetState}
use Rattle.smp_wire.specs.FabricState.{FabricState, is_switch_at}
use Rattle.smp_wire.specs.declared.node.Node.TheVariants.{Switch}
use Rattle.subnet_fabric.specs.BringUp.{IsBroughtUpBy}
use Rattle.switch_model.specs.SwitchState.{SwitchState}
use Rattle.topo_file.specs.Node.{is_switch_at as is_planned_switch}
use Rattle.topo_file.specs.Sound.{IsSound}
use Rattle.topo_file.specs.Topology.{TopologyState}
use Rattle.updn_routes.specs.Subnet.{RoutesState}
use Rattle.joint_laws.specs.Steps.{is_left_by}

-- the fabric has the cables of the topology, and a switch where the topology has one; no switch has a port 255, which a table has
-- where a LID leads nowhere
pub record IsFabricOf (plan : TopologyState) (fabric : FabricState) : Type 0 where
  pub cables : fabric.cables ≡ plan.cables
  pub switches : (node : ℕ) → is_switch_at fabric.nodes node ≡ is_planned_switch plan.nodes node
  pub few : (node : ℕ) (held : SwitchState) → slice_get fabric.nodes node ≡ Some (Switch held) → length held.ports ≤ 255

-- some port accepts the packet that comes in at this one
abbrev pub IsAccepted : FabricState → Packet → PortRef → Type 0
IsAccepted fabric packet first = (end : PortRef) × Contains (steps_of fabric packet first) (step end Accepts)

-- If a packet is accepted that comes in first at a port of a switch, it leaves by the ports by which what goes from that switch to its
-- LID loads cables, and by no others. The loads are counted by whatever dump shows what the switches hold.
abbrev pub FollowsTraces : (NetState → (lid place : ℕ) → PortRef → Bool) → Type 0
FollowsTraces leaves =
    (plan : TopologyState) (fabric : FabricState) (lids : List ℕ) (dump : DumpState) (packet : Packet) (first at : PortRef)
    → IsFabricOf plan fabric → Shows (over plan dump) lids fabric → is_multicast packet.dlid ≡ false → is_planned_switch plan.nodes first.node ≡ true
    → IsAccepted fabric packet first → leaves (over plan dump) packet.dlid first.node at ≡ is_left_by (steps_of fabric packet first) at

abbrev pub LoadsFollowTraces : Type 0
LoadsFollowTraces = FollowsTraces passes

-- so it is of each fabric that is brought up, by the dump of its LFTs
abbrev pub OwnLoadsFollowTraces : Type 0
OwnLoadsFollowTraces =
    (plan : TopologyState) (keys : List (List ℕ)) (routes : RoutesState) (fabric : FabricState) (packet : Packet) (first at : PortRef)
    → IsSound plan → IsBroughtUpBy plan keys routes fabric → is_multicast packet.dlid ≡ false → is_planned_switch plan.nodes first.node ≡ true
    → IsAccepted fabric packet first
    → passes (over plan (dump_of plan routes.lids fabric)) packet.dlid first.node at ≡ is_left_by (steps_of fabric packet first) at
