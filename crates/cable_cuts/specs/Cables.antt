-- The cables between the switches of a topology, and the topology without one of them.
use Rattle.std.specs.Prelude.{◌&&◌, Bool, List, filter}
use Rattle.std.specs.List.{list_any}
use Rattle.fabric_parts.specs.declared.cable.Cable.{Cable}
use Rattle.fabric_wire.specs.Cabling.{is_between, is_not_between}
use Rattle.subnet_fabric.specs.Recabled.{with_cables}
use Rattle.topo_file.specs.Node.{is_switch_at}
use Rattle.topo_file.specs.Topology.{TopologyState}
use Rattle.topo_file.specs.declared.node.Node.{Node}

-- both ends of the cable are ports of switches
abbrev pub joins_switches : List Node → Cable → Bool
joins_switches nodes cable = is_switch_at nodes cable.first.node && is_switch_at nodes cable.second.node

-- those of a topology, in their order
abbrev pub switch_cables : TopologyState → List Cable
switch_cables plan = filter (joins_switches plan.nodes) plan.cables

-- the topology has one between the ends of this
abbrev pub can_be_cut : TopologyState → Cable → Bool
can_be_cut plan cable = joins_switches plan.nodes cable && list_any (is_between cable.first cable.second) plan.cables

-- the topology without it; all else stays
abbrev pub without_cable : Cable → TopologyState → TopologyState
without_cable cable plan = with_cables (filter (is_not_between cable.first cable.second) plan.cables) plan
