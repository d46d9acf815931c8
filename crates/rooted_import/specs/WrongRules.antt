-- Wrong rules for which topologies have the roots, and the law that each breaks.
use Rattle.std.specs.Prelude.{ℕ, ◌&&◌, Bool, List}
use Rattle.std.specs.List.{list_all}
use Rattle.fabric_parts.specs.Cable.{is_same_port}
use Rattle.topo_file.specs.Topology.{TopologyState}
use Rattle.rooted_import.specs.Agreement.{are_same, has_root, is_same_cable, is_same_node, is_same_place}
use Rattle.rooted_import.specs.Laws.{ReportsOthers}
use Rattle.rooted_import.specs.Roots.{roots_of}

-- the nodes may be others
abbrev pub without_nodes : (guids : List ℕ) → (plan again : TopologyState) → Bool
without_nodes guids plan again =
    are_same is_same_cable plan.cables again.cables
    && (is_same_port plan.sm again.sm
    && (are_same is_same_place (roots_of guids plan.nodes) again.roots && list_all (has_root again.nodes again.roots) guids))

abbrev pub NodesAreWanted : Type 0
NodesAreWanted = ReportsOthers without_nodes → ⊥

-- the cables may be others
abbrev pub without_cables : (guids : List ℕ) → (plan again : TopologyState) → Bool
without_cables guids plan again =
    are_same is_same_node plan.nodes again.nodes
    && (is_same_port plan.sm again.sm
    && (are_same is_same_place (roots_of guids plan.nodes) again.roots && list_all (has_root again.nodes again.roots) guids))

abbrev pub CablesAreWanted : Type 0
CablesAreWanted = ReportsOthers without_cables → ⊥

-- the SM may be on another port
abbrev pub without_manager : (guids : List ℕ) → (plan again : TopologyState) → Bool
without_manager guids plan again =
    are_same is_same_node plan.nodes again.nodes
    && (are_same is_same_cable plan.cables again.cables
    && (are_same is_same_place (roots_of guids plan.nodes) again.roots && list_all (has_root again.nodes again.roots) guids))

abbrev pub TheManagerIsWanted : Type 0
TheManagerIsWanted = ReportsOthers without_manager → ⊥

-- other switches may be roots too
abbrev pub with_others : (guids : List ℕ) → (plan again : TopologyState) → Bool
with_others guids plan again =
    are_same is_same_node plan.nodes again.nodes
    && (are_same is_same_cable plan.cables again.cables
    && (is_same_port plan.sm again.sm && list_all (has_root again.nodes again.roots) guids))

abbrev pub NoOthersAreRoots : Type 0
NoOthersAreRoots = ReportsOthers with_others → ⊥

-- a top switch may be missing
abbrev pub without_all : (guids : List ℕ) → (plan again : TopologyState) → Bool
without_all guids plan again =
    are_same is_same_node plan.nodes again.nodes
    && (are_same is_same_cable plan.cables again.cables
    && (is_same_port plan.sm again.sm && are_same is_same_place (roots_of guids plan.nodes) again.roots))

abbrev pub AllAreWanted : Type 0
AllAreWanted = ReportsOthers without_all → ⊥
