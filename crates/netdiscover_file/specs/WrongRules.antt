-- Wrong rules for what agrees, and the law that each breaks.
use Rattle.std.specs.Prelude.{Bool, ◌≡◌, true, false, not, ◌==◌, ◌&&◌, ◌||◌, List, is_some}
use Rattle.std.specs.List.{list_all}
use Rattle.std.specs.Option.{option_map_or}
use Rattle.netdiscover_file.specs.declared.ends.FarEnd.{FarEnd}
use Rattle.netdiscover_file.specs.declared.node.Node.{Node}
use Rattle.netdiscover_file.specs.declared.port.PortLine.{PortLine}
use Rattle.netdiscover_file.specs.Agreement.{far_line, names, stands_at_both_ends}
use Rattle.netdiscover_file.specs.Discovery.{DiscoveryState, DraftState}
use Rattle.netdiscover_file.specs.Laws.{OneOtherEndWhere, ReportsMissingEnds, ReportsOnlyMissingEnds, ReportsTakenGuids}
use Rattle.netdiscover_file.specs.Node.{is_node_at, place_of}
use Rattle.netdiscover_file.specs.Port.{is_reported_already}
use Rattle.netdiscover_file.specs.Sound.{has_other_end}

-- the far end is there, wherever its own line leads
abbrev pub has_far_end : List Node → List PortLine → PortLine → Bool
has_far_end nodes ports line = option_map_or (names nodes line.far) (far_line nodes ports line.far) false

abbrev pub FarEndsAloneAreNotEnough : Type 0
FarEndsAloneAreNotEnough = ReportsMissingEnds has_far_end → ⊥

-- both ends name one another's nodes and numbers, whatever GUIDs they report of the ports
abbrev pub names_number : List Node → FarEnd → PortLine → Bool
names_number nodes far line = is_node_at nodes line.port.node far.node && (line.port.port == far.port)

abbrev pub has_far_number : List Node → List PortLine → PortLine → Bool
has_far_number nodes ports line =
    option_map_or (λ other. names_number nodes line.far other && names_number nodes other.far line) (far_line nodes ports line.far) false

abbrev pub NumbersAloneAreNotEnough : Type 0
NumbersAloneAreNotEnough = ReportsMissingEnds has_far_number → ⊥

-- a cable must join two nodes
abbrev pub joins_two_nodes : List Node → List PortLine → PortLine → Bool
joins_two_nodes nodes ports line = stands_at_both_ends nodes ports line && not (is_node_at nodes line.port.node line.far.node)

abbrev pub ANodeMayBeJoinedToItself : Type 0
ANodeMayBeJoinedToItself = ReportsOnlyMissingEnds joins_two_nodes → ⊥

-- each line has one that leads back, whether or not two lines are of one port
abbrev pub HaveOtherEnds : DiscoveryState → Type 0
HaveOtherEnds discovery = list_all (has_other_end discovery.nodes discovery.ports) discovery.ports ≡ true

abbrev pub OtherEndsAloneMayBeTwo : Type 0
OtherEndsAloneMayBeTwo = OneOtherEndWhere HaveOtherEnds → ⊥

-- the GUID of the node is new, whatever that of its port is
abbrev pub has_taken_node_guid : DraftState → Node → Bool
has_taken_node_guid so_far node = is_some (place_of node.id.guid so_far.nodes)

abbrev pub NodesAloneAreNotEnough : Type 0
NodesAloneAreNotEnough = ReportsTakenGuids has_taken_node_guid → ⊥

-- the GUID of the port is new, whatever that of the node is
abbrev pub has_taken_port_guid : DraftState → Node → Bool
has_taken_port_guid so_far node = is_reported_already node.port_guid so_far.port_guids

abbrev pub PortsAloneAreNotEnough : Type 0
PortsAloneAreNotEnough = ReportsTakenGuids has_taken_port_guid → ⊥

-- both are new, whichever switch the line before reported
abbrev pub has_taken_either : DraftState → Node → Bool
has_taken_either so_far node = has_taken_node_guid so_far node || has_taken_port_guid so_far node

abbrev pub OtherSwitchesAreWanted : Type 0
OtherSwitchesAreWanted = ReportsTakenGuids has_taken_either → ⊥

-- every node has a GUID that is taken
abbrev pub SomeGuidsAreFree : Type 0
SomeGuidsAreFree = ReportsTakenGuids (λ so_far node. true) → ⊥
