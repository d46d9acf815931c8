-- The fabric that a topology describes, at power-up.
use Rattle.std.specs.Prelude.{ℕ, ◌-◌, ◌++◌, if◌then◌else◌, List, [], map, length, replicate}
use Rattle.std.specs.List.{enumerate_from, range_with_len}
use Rattle.agent_rules.specs.declared.link.PortLink.{PortLink}
use Rattle.agent_rules.specs.declared.link.PortLink.TheVariants.{Cabled, Uncabled}
use Rattle.agent_rules.specs.declared.power_up.TheConstants.{LINEAR_TABLE, MULTICAST_TABLE}
use Rattle.port_model.specs.AdapterState.{AdapterState, at_power_up as adapter_at_power_up}
use Rattle.switch_model.specs.SwitchState.{at_power_up as switch_at_power_up}
use Rattle.fabric_parts.specs.declared.cable.Cable.{Cable}
use Rattle.topo_file.specs.declared.node.Node.{Node as PlannedNode}
use Rattle.fabric_parts.specs.declared.node_type.NodeType.{NodeType}
use Rattle.fabric_parts.specs.declared.node_type.NodeType.TheVariants as node_type
use Rattle.fabric_parts.specs.Cable.{is_cabled}
use Rattle.topo_file.specs.Node.{port_guid}
use Rattle.topo_file.specs.Topology.{TopologyState}
use Rattle.smp_wire.specs.declared.node.Node.{Node}
use Rattle.smp_wire.specs.declared.node.Node.TheVariants.{Switch, Adapter}
use Rattle.smp_wire.specs.FabricState.{FabricState}

-- a port has a link if a cable ends at it
abbrev pub link_of : List Cable → ℕ → ℕ → PortLink
link_of cables place number = if is_cabled cables (record { node = place; port = number }) then Cabled else Uncabled

-- the links of the ports of the node there, from port 1 on
abbrev pub links_of : List Cable → ℕ → ℕ → List PortLink
links_of cables place count = map (λ number. link_of cables place number) (range_with_len 1 count)

-- a name in the 64 bytes of NodeDescription
abbrev pub named : List ℕ → List ℕ
named name = name ++ replicate (64 - length name) 0

-- a port of an adapter
abbrev pub adapter_port_of : List Cable → ℕ → PlannedNode → ℕ → AdapterState
adapter_port_of cables place node number =
    adapter_at_power_up node.guid node.ports number (port_guid node number) (named node.name) (link_of cables place number)

-- the node there, of either kind
abbrev pub node_of_type : NodeType → List Cable → ℕ → PlannedNode → Node
node_of_type node_type.Switch cables place node =
    Switch (switch_at_power_up node.guid (named node.name) (links_of cables place node.ports) LINEAR_TABLE MULTICAST_TABLE)
node_of_type node_type.ChannelAdapter cables place node =
    Adapter (map (adapter_port_of cables place node) (range_with_len 1 node.ports))

abbrev pub node_of : List Cable → ℕ → PlannedNode → Node
node_of cables place node = node_of_type node.node_type cables place node

-- the same nodes, cables and subnet manager's port
abbrev pub fabric_of : TopologyState → FabricState
fabric_of plan = record {
  nodes = map (λ p. node_of plan.cables p.0 p.1) (enumerate_from 0 plan.nodes);
  cables = plan.cables;
  cut = [];
  manager = plan.sm;
}
