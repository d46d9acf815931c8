-- The nodes of a topology's fabric, each at the place of the node that it is made of.
use Rattle.std.proofs.Common.{ℕ, zero, suc, ◌≡◌, ◌+◌, ◌≤◌, ◌∙◌, ap, refl, sym, Bool, true, false, List, [], ◌∷◌, map, length, slice_get, Option, Some}
use Rattle.std.proofs.Common.{None, option_map, nat_le, ◌&&◌, arith, add-zero, zero-add, leb-true}
use Rattle.std.specs.List.{enumerate_from, list_all, list_any, IsDistinct}
use Rattle.std.specs.Option.{option_map_or}
use Rattle.std.proofs.lemmas.Bool.{and_from, and_parts, or_from, or_parts}
use Rattle.std.proofs.lemmas.List.FromFn.{length-map-range_with_len}
use Rattle.agent_rules.specs.declared.link.PortLink.TheVariants.{Internal}
use Rattle.switch_model.proofs.PortLemmas.{length-ports_from}
use Rattle.fabric_parts.specs.declared.cable.Cable.{Cable}
use Rattle.fabric_parts.specs.declared.cable.PortRef.{PortRef}
use Rattle.topo_file.specs.declared.node.Node.{Node as PlannedNode}
use Rattle.fabric_parts.specs.declared.node_type.NodeType.{NodeType}
use Rattle.fabric_parts.specs.declared.node_type.NodeType.TheVariants as node_type
use Rattle.fabric_parts.specs.Cable.{ends_at, is_cabled}
use Rattle.fabric_parts.specs.NodeType.{is_switch_type, most_ports}
use Rattle.topo_file.specs.Node.{is_switch as is_planned_switch, is_switch_at as is_planned_at, ports_at}
use Rattle.topo_file.specs.Sound.{is_port as is_planned_port, is_sized, shares_port}
use Rattle.smp_wire.specs.declared.node.Node.{Node}
use Rattle.smp_wire.specs.FabricState.{is_port, is_switch, is_switch_at, port_count}
use Rattle.smp_wire.specs.Good.{has_a_right_count}
use Rattle.fabric_wire.specs.OfTopology.{adapter_port_of, link_of, links_of, node_of, node_of_type}
use Rattle.step_results.proofs.DistinctLemmas.{none_shares}

-- ---- places
abbrev pub nodes_from : List Cable → ℕ → List PlannedNode → List Node
nodes_from cables first nodes = map (λ p. node_of cables p.0 p.1) (enumerate_from first nodes)

node_from : (cables : List Cable) (first : ℕ) (nodes : List PlannedNode) (k : ℕ)
    → slice_get (nodes_from cables first nodes) k ≡ option_map (node_of cables (first + k)) (slice_get nodes k)
node_from cables first [] k = refl
node_from cables first (node ∷ nodes) zero = ap (λ (place : ℕ). Some (node_of cables place node)) (sym (add-zero first))
node_from cables first (node ∷ nodes) (suc k) =
    let moved : (first + 1) + k ≡ first + suc k = omega arith in
    node_from cables (first + 1) nodes k ∙ ap (λ (place : ℕ). option_map (node_of cables place) (slice_get nodes k)) moved

pub node_at : (cables : List Cable) (nodes : List PlannedNode) (k : ℕ)
    → slice_get (nodes_from cables 0 nodes) k ≡ option_map (node_of cables k) (slice_get nodes k)
node_at cables nodes k =
    node_from cables 0 nodes k ∙ ap (λ (place : ℕ). option_map (node_of cables place) (slice_get nodes k)) (zero-add k)

-- what is read of a node that is made of another
read_or : {X Y Z : Type 0} (f : Y → Z) (g : X → Y) (h : X → Z) (d : Z) (o : Option X) → ((x : X) → f (g x) ≡ h x)
    → option_map_or f (option_map g o) d ≡ option_map_or h o d
read_or f g h d None same = refl
read_or f g h d (Some x) same = same x

-- each node passes a test, where those that they are made of pass another
pub all_made : (p : Node → Bool) (q : PlannedNode → Bool) (cables : List Cable) (first : ℕ) (nodes : List PlannedNode)
    → ((place : ℕ) (node : PlannedNode) → q node ≡ true → p (node_of cables place node) ≡ true) → list_all q nodes ≡ true → list_all p (nodes_from cables first nodes) ≡ true
all_made p q cables first [] each all = refl
all_made p q cables first (node ∷ nodes) each all =
    let parts = and_parts (q node) (list_all q nodes) all in
    and_from (p (node_of cables first node)) _ (each first node parts.0) (all_made p q cables (first + 1) nodes each parts.1)

-- ---- the kind of a node, and its number of ports
type_of : (of : NodeType) (cables : List Cable) (place : ℕ) (node : PlannedNode) → is_switch (node_of_type of cables place node) ≡ is_switch_type of
type_of node_type.Switch cables place node = refl
type_of node_type.ChannelAdapter cables place node = refl

pub switch_there : (cables : List Cable) (nodes : List PlannedNode) (k : ℕ) → is_switch_at (nodes_from cables 0 nodes) k ≡ is_planned_at nodes k
switch_there cables nodes k =
    ap (λ (o : Option Node). option_map_or is_switch o false) (node_at cables nodes k)
    ∙ read_or is_switch (node_of cables k) is_planned_switch false (slice_get nodes k) (λ node. type_of node.node_type cables k node)

pub links_long : (cables : List Cable) (place count : ℕ) → length (links_of cables place count) ≡ count
links_long cables place count = length-map-range_with_len (link_of cables place) 1 count

pub count_of : (of : NodeType) (cables : List Cable) (place : ℕ) (node : PlannedNode) → port_count (node_of_type of cables place node) ≡ node.ports
count_of node_type.Switch cables place node =
    let all = length-ports_from 0 (Internal ∷ links_of cables place node.ports) in
    let links = links_long cables place node.ports in
    omega (arith, all, links)
count_of node_type.ChannelAdapter cables place node = length-map-range_with_len (adapter_port_of cables place node) 1 node.ports

ports_there : (cables : List Cable) (nodes : List PlannedNode) (k : ℕ)
    → option_map_or port_count (slice_get (nodes_from cables 0 nodes) k) 0 ≡ ports_at nodes k
ports_there cables nodes k =
    ap (λ (o : Option Node). option_map_or port_count o 0) (node_at cables nodes k)
    ∙ read_or port_count (node_of cables k) (λ node. node.ports) 0 (slice_get nodes k) (λ node. count_of node.node_type cables k node)

pub port_there : (cables : List Cable) (nodes : List PlannedNode) (at : PortRef) → is_port (nodes_from cables 0 nodes) at ≡ is_planned_port nodes at
port_there cables nodes at = rw (ports_there cables nodes at.node) refl

-- ---- a node of which a topology reports has ports, and not too many
right_of : (of : NodeType) (cables : List Cable) (place : ℕ) (node : PlannedNode) → nat_le 1 node.ports && nat_le node.ports (most_ports of) ≡ true
    → has_a_right_count (node_of_type of cables place node) ≡ true
right_of node_type.Switch cables place node sized = rw (count_of node_type.Switch cables place node) sized
right_of node_type.ChannelAdapter cables place node sized = rw (count_of node_type.ChannelAdapter cables place node) sized

pub right_count : (cables : List Cable) (place : ℕ) (node : PlannedNode) → is_sized node ≡ true → has_a_right_count (node_of cables place node) ≡ true
right_count cables place node sized = right_of node.node_type cables place node (and_parts (nat_le 1 node.guid) _ sized).1

pub some_port : (node : PlannedNode) → is_sized node ≡ true → 1 ≤ node.ports
some_port node sized =
    leb-true 1 node.ports (and_parts (nat_le 1 node.ports) _ (and_parts (nat_le 1 node.guid) _ sized).1).0

pub most_port : (node : PlannedNode) → is_sized node ≡ true → node.ports ≤ most_ports node.node_type
most_port node sized =
    leb-true node.ports (most_ports node.node_type) (and_parts (nat_le 1 node.ports) _ (and_parts (nat_le 1 node.guid) _ sized).1).1

-- ---- the ports of the first cable are its alone
free_from : (cable : Cable) (cables : List Cable) → list_any (shares_port cable) cables ≡ false
    → (is_cabled cables cable.first ≡ false) × (is_cabled cables cable.second ≡ false)
free_from cable [] h = (refl, refl)
free_from cable (other ∷ cables) h =
    let parts = or_parts (shares_port cable other) _ h in
    let ends = or_parts (ends_at cable.first other) _ parts.0 in
    let later = free_from cable cables parts.1 in
    (or_from (ends_at cable.first other) _ ends.0 later.0, or_from (ends_at cable.second other) _ ends.1 later.1)

-- no later cable ends at the ports of the first
pub free_ends : (cable : Cable) (cables : List Cable) → IsDistinct shares_port (cable ∷ cables)
    → (is_cabled cables cable.first ≡ false) × (is_cabled cables cable.second ≡ false)
free_ends cable cables own = free_from cable cables (none_shares shares_port cable cables own)
