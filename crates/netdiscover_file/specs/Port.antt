-- The lines of ports, in their order.
use Rattle.std.specs.Prelude.{ℕ, Bool, true, false, ◌==◌, ◌&&◌, List, position, slice_get, Option, Some, None}
use Rattle.std.specs.List.{list_any}
use Rattle.std.specs.Option.{option_and_then, option_map_or}
use Rattle.fabric_parts.specs.declared.cable.PortRef.{PortRef}
use Rattle.fabric_parts.specs.Cable.{is_same_port}
use Rattle.netdiscover_file.specs.declared.ends.FarEnd.{FarEnd}
use Rattle.netdiscover_file.specs.declared.port.PortLine.{PortLine}
use Rattle.netdiscover_file.specs.Ends.{is_same_node}

-- where the line of this port stands among the lines
abbrev pub place_of_line : PortRef → List PortLine → Option ℕ
place_of_line port lines = position (λ line. is_same_port port line.port) lines

-- the line of this port
abbrev pub line_of : PortRef → List PortLine → Option PortLine
line_of port lines = option_and_then (λ place. slice_get lines place) (place_of_line port lines)

-- the GUID is one of these
abbrev pub is_reported : ℕ → List ℕ → Bool
is_reported guid reported = list_any (λ other. guid == other) reported

-- likewise, if there is one
abbrev pub is_reported_already : Option ℕ → List ℕ → Bool
is_reported_already (Some guid) reported = is_reported guid reported
is_reported_already None reported = false

-- both are the same GUID, or both are none
abbrev pub is_same_guid : Option ℕ → Option ℕ → Bool
is_same_guid (Some a) (Some b) = a == b
is_same_guid None None = true
is_same_guid _ _ = false

-- ---- both lines say the same of one port
abbrev pub is_same_far_end : FarEnd → FarEnd → Bool
is_same_far_end a b = is_same_node a.node b.node && ((a.port == b.port) && is_same_guid a.guid b.guid)

abbrev pub says_same : PortLine → PortLine → Bool
says_same a b = is_same_guid a.guid b.guid && (is_same_guid a.lid b.lid && is_same_far_end a.far b.far)

-- the line of this port says the same
abbrev pub is_said_already : PortLine → List PortLine → Bool
is_said_already line lines = option_map_or (λ other. says_same other line) (line_of line.port lines) false
