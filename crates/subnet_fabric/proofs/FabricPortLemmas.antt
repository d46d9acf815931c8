-- The end ports of a topology's fabric are the topology's.
use Rattle.std.proofs.Common.{◌≡◌, ℕ, ◌+◌, ◌-◌, ◌≤◌, ◌==◌, ◌&&◌, nat_le, Bool, true, false, cond, List, map, slice_get}
use Rattle.std.proofs.Common.{Option, Some, None, option_map, refl, sym, ap, ◌∙◌, add-zero, arith}
use Rattle.std.specs.Prelude.{if◌then◌else◌}
use Rattle.std.specs.List.{range_with_len}
use Rattle.std.specs.Option.{option_and_then}
use Rattle.std.proofs.lemmas.Bool.{and_parts, eqb-true, leb-true}
use Rattle.std.proofs.lemmas.Bool.Decides.{nat_tests}
use Rattle.std.proofs.lemmas.Option.{slice_get-map}
use Rattle.step_results.proofs.ListLemmas.{range_at}
use Rattle.fabric_parts.specs.Cable.{is_cabled}
use Rattle.fabric_parts.specs.declared.cable.Cable.{Cable}
use Rattle.fabric_parts.specs.declared.cable.PortRef.{PortRef}
use Rattle.fabric_parts.specs.declared.node_type.NodeType.{NodeType}
use Rattle.fabric_parts.specs.declared.node_type.NodeType.TheVariants as node_type
use Rattle.fabric_parts.specs.NodeType.{is_switch_type}
use Rattle.fabric_wire.proofs.OfTopologyLemmas.{count_of, node_at, port_there, switch_there}
use Rattle.fabric_wire.specs.OfTopology.{adapter_port_of, fabric_of, node_of, node_of_type, named}
use Rattle.smp_wire.specs.FabricState.{adapter_port}
use Rattle.topo_file.specs.Node.{is_switch, port_guid}
use Rattle.topo_file.specs.Topology.{TopologyState}
use Rattle.topo_file.specs.declared.node.Node.{Node}
use Rattle.sweep.specs.EndPorts.{FabricPort, held_in, is_end_port_of}
use Rattle.subnet_fabric.specs.EndPorts.{is_end_port}
use Rattle.subnet_fabric.specs.FabricPorts.{planned_port}
use Rattle.subnet_fabric.specs.PortLaws.{EndPortsAreTheFabrics}

same_ports : (plan : TopologyState) (at : PortRef) → is_end_port_of (fabric_of plan) at ≡ is_end_port plan at
same_ports plan at = rw (switch_there plan.cables plan.nodes at.node, port_there plan.cables plan.nodes at) refl

-- ---- what a node holds that is made of a topology's
abbrev made_of : Node → ℕ → FabricPort
made_of node number = record {
  guid = port_guid node number;
  number = number;
  node_guid = node.guid;
  description = named node.name;
  num_ports = node.ports;
  is_switch = is_switch node;
}

numbered : (cables : List Cable) (place : ℕ) (node : Node) (number : ℕ) → 1 ≤ number → number ≤ node.ports
    → adapter_port (map (adapter_port_of cables place node) (range_with_len 1 node.ports)) number ≡ Some (adapter_port_of cables place node number)
numbered cables place node number low high =
    let of = adapter_port_of cables place node in
    let positive : (number == 0) ≡ false = grind (arith, nat_tests) in
    let place : 1 + (number - 1) ≡ number = omega arith in
    rw positive
    (slice_get-map of (range_with_len 1 node.ports) (number - 1)
    ∙ ap (option_map of) (range_at 1 node.ports (number - 1) (omega arith) ∙ ap (λ (n : ℕ). Some n) place))

-- an end port of that node, by its kind
abbrev Ends : NodeType → Node → ℕ → Type 0
Ends node_type.Switch node number = number ≡ 0
Ends node_type.ChannelAdapter node number = (1 ≤ number) × (number ≤ node.ports)

held_of : (of : NodeType) (cables : List Cable) (place : ℕ) (node : Node) (number : ℕ) → node.node_type ≡ of → Ends of node number
    → held_in (node_of_type of cables place node) number ≡ Some (made_of node number)
held_of node_type.Switch cables place node number type ends =
    let guid : node.guid ≡ port_guid node number = rw ends (sym (add-zero node.guid)) in
    rw (type, sym guid, count_of node_type.Switch cables place node) refl
held_of node_type.ChannelAdapter cables place node number type ends = rw (type, numbered cables place node number ends.0 ends.1) refl

-- ---- each end port
ends_by : (of : NodeType) (node : Node) (number : ℕ) (cabled : Bool)
    → cond (is_switch_type of) (number == 0) ((nat_le 1 number && nat_le number node.ports) && cabled) ≡ true → Ends of node number
ends_by node_type.Switch node number cabled h = eqb-true number 0 h
ends_by node_type.ChannelAdapter node number cabled h =
    let numbers = and_parts (nat_le 1 number) (nat_le number node.ports) (and_parts _ cabled h).0 in
    (leb-true 1 number numbers.0, leb-true number node.ports numbers.1)

there_by : (plan : TopologyState) (at : PortRef) (o : Option Node) → slice_get plan.nodes at.node ≡ o → is_end_port plan at ≡ true
    → option_and_then (λ node. held_in node at.port) (option_map (node_of plan.cables at.node) o) ≡ Some (planned_port plan at)
there_by plan at None e h =
    let none : (nat_le 1 at.port && nat_le at.port 0) && is_cabled plan.cables at ≡ true = rw e at h in
    let numbers = and_parts (nat_le 1 at.port) (nat_le at.port 0) (and_parts _ (is_cabled plan.cables at) none).0 in
    absurd (omega (arith, leb-true 1 at.port numbers.0, leb-true at.port 0 numbers.1))
there_by plan at (Some node) e h =
    let ends : cond (is_switch_type node.node_type) (at.port == 0) ((nat_le 1 at.port && nat_le at.port node.ports) && is_cabled plan.cables at) ≡ true = rw e at h in
    held_of node.node_type plan.cables at.node node at.port refl (ends_by node.node_type node at.port (is_cabled plan.cables at) ends) ∙ (rw e refl)

there : (plan : TopologyState) (at : PortRef) → is_end_port plan at ≡ true
    → option_and_then (λ node. held_in node at.port) (slice_get (fabric_of plan).nodes at.node) ≡ Some (planned_port plan at)
there plan at h =
    ap (option_and_then (λ node. held_in node at.port)) (node_at plan.cables plan.nodes at.node)
    ∙ there_by plan at (slice_get plan.nodes at.node) refl h

same_by : (plan : TopologyState) (at : PortRef) (b : Bool) → is_end_port plan at ≡ b
    → (if b then option_and_then (λ node. held_in node at.port) (slice_get (fabric_of plan).nodes at.node) else None) ≡ (if b then Some (planned_port plan at) else None)
same_by plan at true e = there plan at e
same_by plan at false e = refl

pub end_ports_are_the_fabrics : EndPortsAreTheFabrics
end_ports_are_the_fabrics plan at =
    ap (λ (b : Bool). if b then option_and_then (λ node. held_in node at.port) (slice_get (fabric_of plan).nodes at.node) else None) (same_ports plan at)
    ∙ same_by plan at (is_end_port plan at) refl
