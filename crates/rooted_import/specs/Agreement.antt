-- Whether a topology that was read is another one with roots.
use Rattle.std.specs.Prelude.{ℕ, ◌==◌, ◌&&◌, Bool, List, length}
use Rattle.std.specs.List.{list_all, list_any, zip}
use Rattle.std.specs.Str.{bytes_eq}
use Rattle.fabric_parts.specs.declared.cable.Cable.{Cable}
use Rattle.fabric_parts.specs.Cable.{is_same_port}
use Rattle.fabric_parts.specs.NodeType.{node_type_code}
use Rattle.topo_file.specs.declared.node.Node.{Node}
use Rattle.topo_file.specs.Topology.{TopologyState}
use Rattle.topo_file.specs.Node.{guid_at}
use Rattle.rooted_import.specs.Roots.{roots_of}

abbrev pub is_same_node : Node × Node → Bool
is_same_node pair =
    bytes_eq pair.0.name pair.1.name
    && ((node_type_code pair.0.node_type == node_type_code pair.1.node_type) && ((pair.0.guid == pair.1.guid) && (pair.0.ports == pair.1.ports)))

abbrev pub is_same_cable : Cable × Cable → Bool
is_same_cable pair = is_same_port pair.0.first pair.1.first && is_same_port pair.0.second pair.1.second

abbrev pub is_same_place : ℕ × ℕ → Bool
is_same_place pair = pair.0 == pair.1

-- in the same order
abbrev pub are_same : {X : Type 0} → (X × X → Bool) → List X → List X → Bool
are_same same xs ys = (length xs == length ys) && list_all same (zip xs ys)

-- the switch of this GUID is a root
abbrev pub has_root : List Node → (roots : List ℕ) → ℕ → Bool
has_root nodes roots guid = list_any (λ root. guid_at nodes root == guid) roots

-- ---- the nodes, the cables and the SM port are the same, the roots are the switches of these GUIDs, and none of these is missing
abbrev pub is_rooted : (guids : List ℕ) → (plan again : TopologyState) → Bool
is_rooted guids plan again =
    are_same is_same_node plan.nodes again.nodes
    && (are_same is_same_cable plan.cables again.cables
    && (is_same_port plan.sm again.sm
    && (are_same is_same_place (roots_of guids plan.nodes) again.roots && list_all (has_root again.nodes again.roots) guids)))
