-- Ports of nodes, and the cables between them.
use Rattle.std.specs.Prelude.{ℕ, Bool, ◌==◌, ◌&&◌, ◌||◌, nat_le, List, [], ◌∷◌, Option, Some, None, option_map, find, if◌then◌else◌}
use Rattle.std.specs.List.{list_any}
use Rattle.fabric_parts.specs.declared.cable.Cable.{Cable}
use Rattle.fabric_parts.specs.declared.cable.PortRef.{PortRef}

abbrev pub port : ℕ → ℕ → PortRef
port node number = record { node = node; port = number }

-- the port of this number of a node with so many ports; ports count from 1
abbrev pub port_within : (ports node number : ℕ) → Option PortRef
port_within ports node number = if nat_le 1 number && nat_le number ports then Some (port node number) else None

-- the last port of a path that begins here
abbrev pub last_of : PortRef → List PortRef → PortRef
last_of here [] = here
last_of here (there ∷ ends) = last_of there ends

abbrev pub is_same_port : PortRef → PortRef → Bool
is_same_port a b = (a.node == b.node) && (a.port == b.port)

-- the port is an end of this cable
abbrev pub ends_at : PortRef → Cable → Bool
ends_at port cable = is_same_port cable.first port || is_same_port cable.second port

-- some cable ends at the port
abbrev pub is_cabled : List Cable → PortRef → Bool
is_cabled cables port = list_any (λ cable. ends_at port cable) cables

-- the end of a cable that is not this one
abbrev pub other_end : PortRef → Cable → PortRef
other_end here cable = if is_same_port cable.first here then cable.second else cable.first

-- the other end of the cable at a port
abbrev pub far_end : List Cable → PortRef → Option PortRef
far_end cables here = option_map (other_end here) (find (λ cable. ends_at here cable) cables)
