-- The switches that become roots: the top switches of a discovery, found in its topology by their GUIDs.
use Rattle.std.specs.Prelude.{ℕ, ◌==◌, ◌&&◌, Bool, List, [], ◌∷◌, ◌++◌, codes, filter, flat_map, length, map}
use Rattle.std.specs.List.{list_any, range_with_len}
use Rattle.netdiscover_file.specs.Discovery.{DiscoveryState}
use Rattle.topo_file.specs.declared.node.Node.{Node}
use Rattle.topo_file.specs.Node.{guid_at, is_switch_at, name_at}
use Rattle.topology_import.specs.Nodes.{switch_guid_at}
use Rattle.audit_plan.specs.Plan.{plan_found}
use Rattle.audit_plan.specs.Tops.{top_switches}

-- the GUIDs that the top switches have in the topology
abbrev pub top_guids : DiscoveryState → List ℕ
top_guids discovery = map (switch_guid_at discovery.nodes) (top_switches (plan_found discovery))

abbrev pub is_among : List ℕ → ℕ → Bool
is_among guids guid = list_any (λ one. one == guid) guids

-- the node there is a switch with one of these GUIDs
abbrev pub is_wanted : List ℕ → List Node → ℕ → Bool
is_wanted guids nodes place = is_switch_at nodes place && is_among guids (guid_at nodes place)

-- in the order of the nodes
abbrev pub roots_of : List ℕ → List Node → List ℕ
roots_of guids nodes = filter (is_wanted guids nodes) (range_with_len 0 (length nodes))

-- ---- a line `root NAME` for each, behind the text
abbrev pub root_line : List Node → ℕ → List ℕ
root_line nodes place = codes "root " ++ name_at nodes place ++ 10 ∷ []

abbrev pub rooted_text : List Node → (roots : List ℕ) → (text : List ℕ) → List ℕ
rooted_text nodes roots text = text ++ flat_map (root_line nodes) roots
