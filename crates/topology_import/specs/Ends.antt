-- The ports of channel adapters that a topology takes over, and the adapters that their GUIDs make of them.
use Rattle.std.specs.Prelude.{ℕ, Bool, true, false, not, ◌+◌, ◌-◌, ◌^◌, ◌==◌, ◌&&◌, ◌||◌, nat_le, nat_lt, List, filter, find, position, slice_get, Option, is_some, unwrap_or}
use Rattle.std.specs.List.{range_with_len}
use Rattle.std.specs.Option.{option_and_then, option_map_or}
use Rattle.netdiscover_file.specs.declared.kind.NodeKind.{NodeKind}
use Rattle.netdiscover_file.specs.declared.kind.NodeKind.TheVariants.{Switch, ChannelAdapter, Router}
use Rattle.netdiscover_file.specs.declared.node.Node.{Node}
use Rattle.netdiscover_file.specs.declared.port.PortLine.{PortLine}
use Rattle.netdiscover_file.specs.Discovery.{DiscoveryState}

-- ---- the lines of ports that count: those of cables to routers are left out
abbrev pub is_router : NodeKind → Bool
is_router Router = true
is_router Switch = false
is_router ChannelAdapter = false

abbrev pub is_router_at : List Node → ℕ → Bool
is_router_at nodes place = option_map_or (λ node. is_router node.id.kind) (slice_get nodes place) false

abbrev pub counts : List Node → PortLine → Bool
counts nodes line = not (is_router_at nodes line.port.node || is_router line.far.node.kind)

abbrev pub counted : DiscoveryState → List PortLine
counted discovery = filter (counts discovery.nodes) discovery.ports

-- ---- the end ports: those of channel adapters, since a port of a switch has no GUID of its own
abbrev pub is_end : List Node → PortLine → Bool
is_end nodes line = counts nodes line && is_some line.guid

abbrev pub ends : DiscoveryState → List PortLine
ends discovery = filter (is_end discovery.nodes) discovery.ports

abbrev pub guid_of : PortLine → ℕ
guid_of line = unwrap_or line.guid 0

-- where the end port of this GUID stands among them
abbrev pub place_of_end : ℕ → List PortLine → Option ℕ
place_of_end guid ends = position (λ line. guid == guid_of line) ends

abbrev pub end_with : ℕ → List PortLine → Option PortLine
end_with guid ends = option_and_then (λ place. slice_get ends place) (place_of_end guid ends)

abbrev pub is_port_guid : List PortLine → ℕ → Bool
is_port_guid ends guid = is_some (place_of_end guid ends)

-- ---- adapters: port p of an adapter of GUID g has the GUID g + p, so that ports of GUIDs that follow one another are
-- those of one adapter. Of more than 8 none is made, and so GUIDs are counted along as far as that alone.
abbrev pub is_below : List PortLine → ℕ → ℕ → Bool
is_below ends guid steps = nat_le steps guid && is_port_guid ends (guid - steps)

-- GUIDs have 64 bits
abbrev pub is_above : List PortLine → ℕ → ℕ → Bool
is_above ends guid steps = nat_lt (guid + steps) (2 ^ 64) && is_port_guid ends (guid + steps)

-- the number of the port of this GUID at its adapter: the nearest GUID below that is no port's is the adapter's
abbrev pub number_of : List PortLine → ℕ → ℕ
number_of ends guid = unwrap_or (find (λ steps. not (is_below ends guid steps)) (range_with_len 1 8)) 9

-- how many ports the adapter has of which this is the GUID of the first
abbrev pub ports_from : List PortLine → ℕ → ℕ
ports_from ends guid = unwrap_or (find (λ steps. not (is_above ends guid steps)) (range_with_len 1 8)) 9

abbrev pub is_first : List PortLine → PortLine → Bool
is_first ends line = not (is_below ends (guid_of line) 1)

-- the first ports of adapters
abbrev pub firsts : List PortLine → List PortLine
firsts ends = filter (is_first ends) ends
