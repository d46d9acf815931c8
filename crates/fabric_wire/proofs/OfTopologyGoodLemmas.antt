-- The fabric of a topology is good: its GUIDs, the ports of its nodes, and its cables.
use Rattle.std.proofs.Common.{ℕ, zero, suc, ◌≡◌, ◌≤◌, ◌+◌, ◌==◌, ◌∙◌, refl, sym, true, false, not, List, [], ◌∷◌, map, flat_map, ◌&&◌, arith}
use Rattle.std.specs.List.{All, list_all, list_any, range_with_len, IsDistinct}
use Rattle.std.specs.Str.{bytes_eq}
use Rattle.std.proofs.lemmas.List.{append-nil}
use Rattle.std.proofs.lemmas.Bool.{and_from, and_left, and_parts, eq-eqb, not_from_false, not-true, or_from}
use Rattle.std.proofs.Math.Bool.{or_assoc}
use Rattle.std.proofs.lemmas.List.FromFn.{length-map-range_with_len}
use Rattle.std.proofs.lemmas.Map.Keys.{IsDistinct-tail}
use Rattle.agent_rules.specs.declared.power_up.TheConstants.{LINEAR_TABLE, MULTICAST_TABLE}
use Rattle.attr_tables.specs.Attribute.{IsAttribute}
use Rattle.std.proofs.lemmas.List.Elements.{All-cons, All-nil}
use Rattle.step_results.proofs.TestLemmas.{same_either_way}
use Rattle.port_model.specs.Good.{IsGoodPort}
use Rattle.port_model.proofs.AgentLemmas.{new_ports_good}
use Rattle.switch_model.proofs.GoodLemmas.{new_switches_good}
use Rattle.fabric_parts.specs.NodeType.{most_ports}
use Rattle.fabric_parts.specs.declared.cable.Cable.{Cable}
use Rattle.fabric_parts.specs.declared.cable.PortRef.{PortRef}
use Rattle.topo_file.specs.declared.node.Node.{Node as PlannedNode}
use Rattle.fabric_parts.specs.declared.node_type.NodeType.{NodeType}
use Rattle.fabric_parts.specs.declared.node_type.NodeType.TheVariants as node_type
use Rattle.fabric_parts.specs.Cable.{is_cabled, is_same_port}
use Rattle.topo_file.specs.Node.{is_switch_at as is_planned_at, port_guid}
use Rattle.topo_file.specs.Sound.{ends_at_ports, is_named, is_sized, joins_right, shares_port}
use Rattle.smp_wire.specs.Good.{ends_of, IsGoodNode, has_a_right_count, is_in_order, is_of, is_right, node_guid}
use Rattle.fabric_wire.specs.Laws.{TopologiesGiveGood}
use Rattle.fabric_wire.specs.OfTopology.{adapter_port_of, link_of, links_of, named, node_of, node_of_type}
use Rattle.fabric_wire.proofs.NameLemmas.{name_described}
use Rattle.fabric_wire.proofs.OfTopologyLemmas.{all_made, free_ends, links_long, most_port, nodes_from, port_there, right_count, switch_there}
use Rattle.fabric_wire.proofs.OfTopologyGuidLemmas.{end_guids_differ, guid_of, node_guids_differ}
use Rattle.step_results.proofs.DistinctLemmas.{all_differ, distinct}

-- ---- the ports of an adapter stand in order
all_of : (cables : List Cable) (place : ℕ) (node : PlannedNode) (number count : ℕ)
    → list_all (is_of node.guid node.ports) (map (adapter_port_of cables place node) (range_with_len number count)) ≡ true
all_of cables place node number zero = refl
all_of cables place node number (suc count) =
    and_from ((node.guid == node.guid) && (node.ports == node.ports)) _ (and_from (node.guid == node.guid) _ (eq-eqb node.guid node.guid refl) (eq-eqb node.ports node.ports refl))
    (all_of cables place node (number + 1) count)

counted : (cables : List Cable) (place : ℕ) (node : PlannedNode) (number count : ℕ)
    → bytes_eq (map (λ port. port.number) (map (adapter_port_of cables place node) (range_with_len number count))) (range_with_len number count) ≡ true
counted cables place node number zero = refl
counted cables place node number (suc count) =
    and_from (number == number) _ (eq-eqb number number refl) (counted cables place node (number + 1) count)

ordered : (of : NodeType) (cables : List Cable) (place : ℕ) (node : PlannedNode) → node_guid (node_of_type of cables place node) ≡ node.guid
    → is_in_order (node_of_type of cables place node) ≡ true
ordered node_type.Switch cables place node guid = refl
ordered node_type.ChannelAdapter cables place node guid =
    let long = length-map-range_with_len (adapter_port_of cables place node) 1 node.ports in
    rw (guid, long) (and_from (list_all (is_of node.guid node.ports)
    (map (adapter_port_of cables place node) (range_with_len 1 node.ports))) _
    (all_of cables place node 1 node.ports) (counted cables place node 1 node.ports))

in_order : (cables : List Cable) (place : ℕ) (node : PlannedNode) → is_sized node ≡ true → is_in_order (node_of cables place node) ≡ true
in_order cables place node sized = ordered node.node_type cables place node (guid_of cables place node sized)

-- ---- what agents give fills an attribute
ports_hold : (cables : List Cable) (place : ℕ) (node : PlannedNode) (number count : ℕ) → IsAttribute (named node.name)
    → number + count ≤ 256 → All IsGoodPort (map (adapter_port_of cables place node) (range_with_len number count))
ports_hold cables place node number zero is few = All-nil IsGoodPort
ports_hold cables place node number (suc count) is few =
    All-cons IsGoodPort (adapter_port_of cables place node number) (map (adapter_port_of cables place node) (range_with_len (number + 1) count))
    (new_ports_good node.guid node.ports number (port_guid node number) (named node.name)
    (link_of cables place number) (omega (arith, few)) is)
    (ports_hold cables place node (number + 1) count is (omega (arith, few)))

holding : (of : NodeType) (cables : List Cable) (place : ℕ) (node : PlannedNode) → is_named node ≡ true → node.ports ≤ most_ports of
    → IsGoodNode (node_of_type of cables place node)
holding node_type.Switch cables place node is few =
    let long = links_long cables place node.ports in
    new_switches_good node.guid (named node.name) (links_of cables place node.ports) LINEAR_TABLE MULTICAST_TABLE
    (name_described node.name is) (omega (arith, few, long)) (omega arith) (omega arith)
holding node_type.ChannelAdapter cables place node is few =
    ports_hold cables place node 1 node.ports (name_described node.name is) (omega (arith, few))

all_hold : (cables : List Cable) (first : ℕ) (nodes : List PlannedNode) → list_all is_named nodes ≡ true → list_all is_sized nodes ≡ true
    → All IsGoodNode (nodes_from cables first nodes)
all_hold cables first [] names sizes = All-nil IsGoodNode
all_hold cables first (node ∷ nodes) names sizes =
    let name = and_parts (is_named node) _ names in
    let size = and_parts (is_sized node) _ sizes in
    All-cons IsGoodNode (node_of cables first node) (nodes_from cables (first + 1) nodes)
    (holding node.node_type cables first node name.0 (most_port node size.0)) (all_hold cables (first + 1) nodes name.1 size.1)

-- ---- a cable joins right ports
right_there : (cables : List Cable) (nodes : List PlannedNode) (cable : Cable) → ends_at_ports nodes cable ≡ true → joins_right nodes cable ≡ true
    → is_right (nodes_from cables 0 nodes) cable ≡ true
right_there cables nodes cable ends joins =
    let both = and_parts _ _ ends in
    rw (port_there cables nodes cable.first, port_there cables nodes cable.second, switch_there cables nodes cable.first.node, switch_there cables nodes cable.second.node)
    (and_from _ _ both.0 (and_from _ _ both.1 joins))

pub all_right : (built : List Cable) (nodes : List PlannedNode) (cables : List Cable)
    → list_all (ends_at_ports nodes) cables ≡ true → list_all (joins_right nodes) cables ≡ true
    → list_all (is_right (nodes_from built 0 nodes)) cables ≡ true
all_right built nodes [] ends joins = refl
all_right built nodes (cable ∷ cables) ends joins =
    let one = and_parts (ends_at_ports nodes cable) _ ends in
    let two = and_parts (joins_right nodes cable) _ joins in
    and_from (is_right (nodes_from built 0 nodes) cable) _ (right_there built nodes cable one.0 two.0) (all_right built nodes cables one.1 two.1)

-- ---- no port has two cables
port_back : (one other : PortRef) → is_same_port one other ≡ is_same_port other one
port_back one other = rw (same_either_way one.node other.node, same_either_way one.port other.port) refl

ends_are : (port : PortRef) (cables : List Cable) → list_any (is_same_port port) (flat_map ends_of cables) ≡ is_cabled cables port
ends_are port [] = refl
ends_are port (cable ∷ cables) =
    rw (port_back port cable.first, port_back port cable.second, ends_are port cables)
    (sym (or_assoc (is_same_port cable.first port) (is_same_port cable.second port) (is_cabled cables port)))

ends_apart : (nodes : List PlannedNode) (cable : Cable) → joins_right nodes cable ≡ true → is_same_port cable.first cable.second ≡ false
ends_apart nodes cable joins =
    and_left (cable.first.node == cable.second.node) _ (not-true _ (and_parts (not (cable.first.node == cable.second.node)) _ joins).0)

all_once : (nodes : List PlannedNode) (cables : List Cable) → list_all (joins_right nodes) cables ≡ true → IsDistinct shares_port cables
    → all_differ is_same_port (flat_map ends_of cables) ≡ true
all_once nodes [] joins own = refl
all_once nodes (cable ∷ cables) joins own =
    let join = and_parts (joins_right nodes cable) _ joins in
    let free = free_ends cable cables own in
    let rest = flat_map ends_of cables in
    let first : list_any (is_same_port cable.first) (cable.second ∷ rest) ≡ false = or_from
    (is_same_port cable.first cable.second) _ (ends_apart nodes cable join.0)
    (ends_are cable.first cables ∙ free.0) in
    let second : list_any (is_same_port cable.second) rest ≡ false = ends_are cable.second cables ∙ free.1 in
    and_from (not (list_any (is_same_port cable.first) (cable.second ∷ rest))) _ (not_from_false _ first)
    (and_from (not (list_any (is_same_port cable.second) rest)) _ (not_from_false _ second) (all_once nodes cables join.1 (IsDistinct-tail shares_port cable cables own)))

-- ---- all of it
pub good : TopologiesGiveGood
good plan sound =
    let lines = sound.lines in
    let manager = and_parts (not (is_planned_at plan.nodes plan.sm.node)) _ sound.manager_port in
    record {
      node_guids = node_guids_differ plan.cables plan.nodes lines.sizes lines.guids lines.own_guids;
      end_guids = end_guids_differ plan.cables plan.nodes lines.sizes lines.guids lines.own_guids;
      counts = all_made has_a_right_count is_sized plan.cables 0 plan.nodes (λ place node sized. right_count plan.cables place node sized) lines.sizes;
      order = all_made is_in_order is_sized plan.cables 0 plan.nodes (λ place node sized. in_order plan.cables place node sized) lines.sizes;
      holdings = all_hold plan.cables 0 plan.nodes lines.names lines.sizes;
      cables = rw (append-nil plan.cables) (all_right plan.cables plan.nodes plan.cables lines.ends lines.joins);
      once = rw (append-nil plan.cables)
          (distinct is_same_port (flat_map ends_of plan.cables) (all_once plan.nodes plan.cables lines.joins lines.own_ports));
      manager_port = port_there plan.cables plan.nodes plan.sm ∙ manager.1;
      manager_adapter = switch_there plan.cables plan.nodes plan.sm.node ∙ not-true _ manager.0;
      manager_cabled = sound.manager_cabled;
    }
