-- The end ports of a fabric, by what its agents hold, and those that a graph has.
use Rattle.std.specs.Prelude.{ℕ, ◌==◌, ◌&&◌, Bool, true, false, if◌then◌else◌, List, map, ◌++◌, slice_get, Option, Some, None, option_map}
use Rattle.std.specs.Option.{option_and_then}
use Rattle.fabric_parts.specs.Cable.{is_cabled}
use Rattle.fabric_parts.specs.declared.cable.PortRef.{PortRef}
use Rattle.port_model.specs.AdapterState.{AdapterState}
use Rattle.smp_wire.specs.FabricState.{FabricState, adapter_port, is_port, is_switch_at}
use Rattle.smp_wire.specs.declared.node.Node.{Node}
use Rattle.smp_wire.specs.declared.node.Node.TheVariants.{Switch, Adapter}
use Rattle.switch_model.specs.SwitchState.{num_ports}
use Rattle.sweep.specs.Graph.{GraphState}
use Rattle.sweep.specs.declared.graph.GraphPort.{GraphPort}
use Rattle.sweep.specs.declared.graph.GraphSwitch.{GraphSwitch}

-- what is known of such a port: its GUID, its number, and its node
pub record FabricPort : Type 0 where
  pub guid : ℕ
  pub number : ℕ
  pub node_guid : ℕ
  -- NodeDescription's 64 bytes
  pub description : List ℕ
  pub num_ports : ℕ
  pub is_switch : Bool

-- ---- of a fabric
-- port 0 of each switch, and each port of an adapter that has a cable
abbrev pub is_end_port_of : FabricState → PortRef → Bool
is_end_port_of fabric at =
    if is_switch_at fabric.nodes at.node then at.port == 0 else is_port fabric.nodes at && is_cabled fabric.cables at

abbrev pub port_held : ℕ → AdapterState → FabricPort
port_held number port = record {
  guid = port.port_guid;
  number = number;
  node_guid = port.node_guid;
  description = port.description;
  num_ports = port.num_ports;
  is_switch = false;
}

-- a switch holds the GUID of its port 0, and each port of an adapter its own
abbrev pub held_in : Node → ℕ → Option FabricPort
held_in (Switch held) number =
    Some (record {
      guid = held.node_guid;
      number = number;
      node_guid = held.node_guid;
      description = held.description;
      num_ports = num_ports held;
      is_switch = true;
    })
held_in (Adapter ports) number = option_map (port_held number) (adapter_port ports number)

-- of another port nothing is said
abbrev pub end_port_in : FabricState → PortRef → Option FabricPort
end_port_in fabric at =
    if is_end_port_of fabric at then option_and_then (λ node. held_in node at.port) (slice_get fabric.nodes at.node) else None

-- ---- of a graph
abbrev pub end_of_switch : GraphSwitch → FabricPort
end_of_switch switch = record {
  guid = switch.guid;
  number = 0;
  node_guid = switch.guid;
  description = switch.name;
  num_ports = switch.num_ports;
  is_switch = true;
}

abbrev pub end_of_adapter : GraphPort → FabricPort
end_of_adapter port = record {
  guid = port.port_guid;
  number = port.number;
  node_guid = port.node_guid;
  description = port.name;
  num_ports = port.num_ports;
  is_switch = false;
}

-- port 0 of each switch, and each port of an adapter
abbrev pub end_ports_in : GraphState → List FabricPort
end_ports_in graph = map end_of_switch graph.switches ++ map end_of_adapter graph.ports
