-- Wrong rules for which topologies are those of a discovery, and the law that each breaks.
use Rattle.std.specs.Prelude.{ℕ, Bool, ◌&&◌, ◌||◌, List, is_none}
use Rattle.std.specs.List.{list_all, list_any}
use Rattle.fabric_parts.specs.declared.cable.Cable.{Cable}
use Rattle.netdiscover_file.specs.declared.port.PortLine.{PortLine}
use Rattle.netdiscover_file.specs.Discovery.{DiscoveryState}
use Rattle.topo_file.specs.Topology.{TopologyState}
use Rattle.topology_import.specs.declared.planned.Planned.{Planned}
use Rattle.topology_import.specs.Agreement.{are_as_planned, has_cable, has_ends, has_no_roots, is_end_port, is_port_of, is_reported}
use Rattle.topology_import.specs.Ends.{counted, ends}
use Rattle.topology_import.specs.Laws.{ReportsOthers}

-- adapters may have any ports besides
abbrev pub agrees_without_ends : DiscoveryState → List Planned → ℕ → TopologyState → Bool
agrees_without_ends discovery planned manager plan =
    are_as_planned planned plan.nodes
    && (list_all (has_cable discovery plan) (counted discovery)
    && (list_all (is_reported discovery plan) plan.cables && (is_end_port plan.nodes plan.sm manager && has_no_roots plan)))

abbrev pub EndsAreWanted : Type 0
EndsAreWanted = ReportsOthers agrees_without_ends → ⊥

-- no line is asked for its cable
abbrev pub agrees_without_lines : DiscoveryState → List Planned → ℕ → TopologyState → Bool
agrees_without_lines discovery planned manager plan =
    are_as_planned planned plan.nodes
    && (list_all (has_ends (ends discovery)) plan.nodes
    && (list_all (is_reported discovery plan) plan.cables && (is_end_port plan.nodes plan.sm manager && has_no_roots plan)))

abbrev pub LinesAreWanted : Type 0
LinesAreWanted = ReportsOthers agrees_without_lines → ⊥

-- lines of switches are not asked for theirs
abbrev pub agrees_at_adapters : DiscoveryState → List Planned → ℕ → TopologyState → Bool
agrees_at_adapters discovery planned manager plan =
    are_as_planned planned plan.nodes
    && (list_all (has_ends (ends discovery)) plan.nodes
    && (list_all (λ line. is_none line.guid || has_cable discovery plan line) (counted discovery)
    && (list_all (is_reported discovery plan) plan.cables && (is_end_port plan.nodes plan.sm manager && has_no_roots plan))))

abbrev pub SwitchesAreJoinedToo : Type 0
SwitchesAreJoinedToo = ReportsOthers agrees_at_adapters → ⊥

-- no cable is asked for its lines
abbrev pub agrees_without_cables : DiscoveryState → List Planned → ℕ → TopologyState → Bool
agrees_without_cables discovery planned manager plan =
    are_as_planned planned plan.nodes
    && (list_all (has_ends (ends discovery)) plan.nodes
    && (list_all (has_cable discovery plan) (counted discovery) && (is_end_port plan.nodes plan.sm manager && has_no_roots plan)))

abbrev pub CablesAreWanted : Type 0
CablesAreWanted = ReportsOthers agrees_without_cables → ⊥

-- the subnet manager may be anywhere
abbrev pub agrees_without_manager : DiscoveryState → List Planned → ℕ → TopologyState → Bool
agrees_without_manager discovery planned manager plan =
    are_as_planned planned plan.nodes
    && (list_all (has_ends (ends discovery)) plan.nodes
    && (list_all (has_cable discovery plan) (counted discovery) && (list_all (is_reported discovery plan) plan.cables && has_no_roots plan)))

abbrev pub TheManagerIsWanted : Type 0
TheManagerIsWanted = ReportsOthers agrees_without_manager → ⊥

-- any switches may be named as roots
abbrev pub agrees_without_roots : DiscoveryState → List Planned → ℕ → TopologyState → Bool
agrees_without_roots discovery planned manager plan =
    are_as_planned planned plan.nodes
    && (list_all (has_ends (ends discovery)) plan.nodes
    && (list_all (has_cable discovery plan) (counted discovery)
    && (list_all (is_reported discovery plan) plan.cables && is_end_port plan.nodes plan.sm manager)))

abbrev pub NoRootsAreWanted : Type 0
NoRootsAreWanted = ReportsOthers agrees_without_roots → ⊥

-- a cable is that of each line at whose port it ends, wherever it leads
abbrev pub ends_at_line : DiscoveryState → TopologyState → PortLine → Cable → Bool
ends_at_line discovery plan line cable = is_port_of discovery plan.nodes line cable.first || is_port_of discovery plan.nodes line cable.second

abbrev pub agrees_at_near_ends : DiscoveryState → List Planned → ℕ → TopologyState → Bool
agrees_at_near_ends discovery planned manager plan =
    are_as_planned planned plan.nodes
    && (list_all (has_ends (ends discovery)) plan.nodes
    && (list_all (λ line. list_any (ends_at_line discovery plan line) plan.cables) (counted discovery)
    && (list_all (λ cable. list_any (λ line. ends_at_line discovery plan line cable) (counted discovery)) plan.cables
    && (is_end_port plan.nodes plan.sm manager && has_no_roots plan))))

abbrev pub NearEndsAloneAreNotEnough : Type 0
NearEndsAloneAreNotEnough = ReportsOthers agrees_at_near_ends → ⊥
