-- What a fabric is: its nodes, with what their agents hold, its cables, those that are cut, and the SM port.
use Rattle.std.specs.Prelude.{ℕ, ◌-◌, ◌==◌, ◌&&◌, nat_le, Bool, true, false, if◌then◌else◌, List, [], ◌++◌, length, slice_get, slice_set, Option, Some, None}
use Rattle.std.specs.Option.{option_and_then, option_map_or}
use Rattle.port_model.specs.AdapterState.{AdapterState}
use Rattle.port_model.specs.Agent.{agent_after as adapter_after, agent_reply as adapter_reply}
use Rattle.switch_model.specs.Agent.{agent_after as switch_after, agent_reply as switch_reply}
use Rattle.switch_model.specs.SwitchState.{num_ports}
use Rattle.fabric_parts.specs.declared.cable.Cable.{Cable}
use Rattle.fabric_parts.specs.declared.cable.PortRef.{PortRef}
use Rattle.smp_wire.specs.declared.node.Node.{Node}
use Rattle.smp_wire.specs.declared.node.Node.TheVariants.{Switch, Adapter}

pub record FabricState : Type 0 where
  pub nodes : List Node
  pub cables : List Cable
  -- cables that were cut, and can be mended: nothing goes over them
  pub cut : List Cable
  pub manager : PortRef

-- the fabric of these parts, of which no cable is cut
abbrev pub fabric_with : List Node → List Cable → PortRef → FabricState
fabric_with nodes cables manager = record { nodes = nodes; cables = cables; cut = []; manager = manager }

-- those that are cut too
abbrev pub all_cables : FabricState → List Cable
all_cables fabric = fabric.cables ++ fabric.cut

-- ---- nodes
abbrev pub is_switch : Node → Bool
is_switch (Switch held) = true
is_switch (Adapter ports) = false

-- a switch stands at that place
abbrev pub is_switch_at : List Node → ℕ → Bool
is_switch_at nodes place = option_map_or is_switch (slice_get nodes place) false

-- how many ports a node has, port 0 of a switch not counted
abbrev pub port_count : Node → ℕ
port_count (Switch held) = num_ports held
port_count (Adapter ports) = length ports

-- the port is one of its node, and not port 0
abbrev pub is_port : List Node → PortRef → Bool
is_port nodes at = nat_le 1 at.port && nat_le at.port (option_map_or port_count (slice_get nodes at.node) 0)

-- the port of that number of an adapter; ports count from 1
abbrev pub adapter_port : List AdapterState → ℕ → Option AdapterState
adapter_port ports number = if number == 0 then None else slice_get ports (number - 1)

-- how the node answers an SMP that came in at that port: one agent for a switch, one for each port of
-- an adapter
unfoldable pub node_reply : Node → ℕ → List ℕ → Option (List ℕ)
node_reply (Switch held) number smp = switch_reply held number smp
node_reply (Adapter ports) number smp = option_and_then (λ port. adapter_reply port smp) (adapter_port ports number)

-- what the node is then
abbrev pub adapter_ports_after : List AdapterState → ℕ → List ℕ → Option AdapterState → List AdapterState
adapter_ports_after ports number smp None = ports
adapter_ports_after ports number smp (Some port) = slice_set ports (number - 1) (adapter_after port smp)

unfoldable pub node_after : Node → ℕ → List ℕ → Node
node_after (Switch held) number smp = Switch (switch_after held smp)
node_after (Adapter ports) number smp = Adapter (adapter_ports_after ports number smp (adapter_port ports number))

-- ---- the agent at a port of the fabric
abbrev pub reply_at : FabricState → PortRef → List ℕ → Option (List ℕ)
reply_at fabric at smp = option_and_then (λ node. node_reply node at.port smp) (slice_get fabric.nodes at.node)

abbrev pub nodes_after : List Node → PortRef → List ℕ → Option Node → List Node
nodes_after nodes at smp None = nodes
nodes_after nodes at smp (Some node) = slice_set nodes at.node (node_after node at.port smp)

-- what the fabric is then: one node may change, and nothing else
abbrev pub after_at : FabricState → PortRef → List ℕ → FabricState
after_at fabric at smp = record fabric { nodes = nodes_after fabric.nodes at smp (slice_get fabric.nodes at.node) }
