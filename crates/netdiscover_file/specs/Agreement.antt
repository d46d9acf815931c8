-- Whether each cable stands at both its ends, and alike.
use Rattle.std.specs.Prelude.{ℕ, Bool, false, not, ◌==◌, ◌&&◌, List, find, Option, option_map}
use Rattle.std.specs.Option.{option_and_then, option_map_or}
use Rattle.fabric_parts.specs.Cable.{port}
use Rattle.netdiscover_file.specs.declared.node.Node.{Node}
use Rattle.netdiscover_file.specs.declared.port.PortLine.{PortLine}
use Rattle.netdiscover_file.specs.declared.ends.FarEnd.{FarEnd}
use Rattle.netdiscover_file.specs.Node.{is_node_at, place_of}
use Rattle.netdiscover_file.specs.Port.{is_same_guid, line_of}

-- a far end names the port of this line: its node, its number, and its GUID if the port has one
abbrev pub names : List Node → FarEnd → PortLine → Bool
names nodes far line = is_node_at nodes line.port.node far.node && ((line.port.port == far.port) && is_same_guid line.guid far.guid)

-- each of the two lines names the port of the other
abbrev pub is_one_cable : List Node → PortLine → PortLine → Bool
is_one_cable nodes line other = names nodes line.far other && names nodes other.far line

-- the line of the port that a far end reports by the GUID of its node and by its number
abbrev pub far_line : List Node → List PortLine → FarEnd → Option PortLine
far_line nodes ports far = option_and_then (λ place. line_of (port place far.port) ports) (place_of far.node.guid nodes)

abbrev pub stands_at_both_ends : List Node → List PortLine → PortLine → Bool
stands_at_both_ends nodes ports line = option_map_or (is_one_cable nodes line) (far_line nodes ports line.far) false

-- the first line of a port whose cable does not
abbrev pub first_wrong : List Node → List PortLine → Option ℕ
first_wrong nodes ports = option_map (λ line. line.line) (find (λ line. not (stands_at_both_ends nodes ports line)) ports)
