-- What a subnet manager knows of a fabric: its switches in order of discovery, the links between them, and the ports of
-- channel adapters that are attached to them. And what holds of every such graph, whatever wire it came over.
use Rattle.std.specs.Prelude.{ℕ, ◌≡◌, ◌≤◌, ◌==◌, ◌&&◌, ◌||◌, not, nat_le, nat_lt, Bool, true, List, [], ◌∷◌, ◌++◌, map, length, get_or, slice_get}
use Rattle.std.specs.List.{IsDistinct, list_all, list_any, range_with_len}
use Rattle.std.specs.Option.{option_map_or}
use Rattle.fabric_parts.specs.Cable.{is_same_port, port}
use Rattle.fabric_parts.specs.NodeType.{most_ports}
use Rattle.fabric_parts.specs.declared.cable.PortRef.{PortRef}
use Rattle.fabric_parts.specs.declared.node_type.NodeType.TheVariants as node_type
use Rattle.sweep.specs.declared.graph.GraphPort.{GraphPort}
use Rattle.sweep.specs.declared.graph.GraphSwitch.{GraphSwitch}
use Rattle.sweep.specs.declared.graph.GraphLink.{GraphLink}
use Rattle.fabric_parts.specs.declared.limits.TheConstants.{ADAPTER_PORTS, SWITCHES}
use Rattle.sweep.specs.declared.path.TheConstants.{PATH_HOPS}

pub record GraphState : Type 0 where
  -- the GUID of the SM port
  pub manager : ℕ
  pub switches : List GraphSwitch
  -- for each switch its links to other switches, by port; the other ends name switches by their places in that list
  pub rows : List (List GraphLink)
  pub ports : List GraphPort

-- the graph of these parts
abbrev pub graph_with : ℕ → List GraphSwitch → List (List GraphLink) → List GraphPort → GraphState
graph_with manager switches rows ports = record { manager = manager; switches = switches; rows = rows; ports = ports }

-- ---- switches
-- 1 to 36 ports, and found by a path of 1 to 63 hops
abbrev pub is_right_switch : GraphSwitch → Bool
is_right_switch switch =
    (nat_le 1 switch.num_ports && nat_le switch.num_ports (most_ports node_type.Switch))
    && (nat_le 1 (length switch.path) && nat_le (length switch.path) PATH_HOPS)

-- how many ports the switch at that place has
abbrev pub count_at : List GraphSwitch → ℕ → ℕ
count_at switches place = option_map_or (λ switch. switch.num_ports) (slice_get switches place) 0

-- a port of a switch of the graph
abbrev pub is_switch_port : List GraphSwitch → PortRef → Bool
is_switch_port switches at = nat_le 1 at.port && nat_le at.port (count_at switches at.node)

-- ---- links
-- a link out of that port leads there
abbrev pub is_linked : List (List GraphLink) → PortRef → PortRef → Bool
is_linked rows here there = list_any (λ link. (link.port == here.port) && is_same_port link.to there) (get_or rows here.node [])

-- ports that rise, from above that number
abbrev pub rise_above : ℕ → List GraphLink → Bool
rise_above last [] = true
rise_above last (link ∷ links) = nat_lt last link.port && rise_above link.port links

-- out of a port of the switch at that place, to a port of another switch, which leads back
abbrev pub is_right_link : List GraphSwitch → List (List GraphLink) → ℕ → GraphLink → Bool
is_right_link switches rows place link =
    nat_le link.port (count_at switches place)
    && (not (link.to.node == place) && is_linked rows link.to (port place link.port))

-- in the order of their ports
abbrev pub is_right_row : List GraphSwitch → List (List GraphLink) → ℕ → Bool
is_right_row switches rows place =
    rise_above 0 (get_or rows place []) && list_all (is_right_link switches rows place) (get_or rows place [])

-- some link of the switch at that place leads to one that was found earlier
abbrev pub is_near : List (List GraphLink) → ℕ → Bool
is_near rows place = list_any (λ link. nat_lt link.to.node place) (get_or rows place [])

-- so does one of each but the first
abbrev pub is_joined : List (List GraphLink) → Bool
is_joined rows = list_all (λ place. (place == 0) || is_near rows place) (range_with_len 0 (length rows))

-- ---- ports of adapters
-- no switch of the graph has this GUID
abbrev pub is_no_switch : List GraphSwitch → ℕ → Bool
is_no_switch switches guid = not (list_any (λ switch. switch.guid == guid) switches)

-- how many hops the path has by which the switch at that place was found
abbrev pub hops_to : List GraphSwitch → ℕ → ℕ
hops_to switches place = option_map_or (λ switch. length switch.path) (slice_get switches place) 0

-- at a port of a switch, of an adapter of 1 to 8 ports; and a path goes on from that switch, to the adapter
abbrev pub is_right_port : List GraphSwitch → GraphPort → Bool
is_right_port switches port =
    is_switch_port switches port.at
    && ((nat_le 1 port.number && nat_le port.number port.num_ports)
    && (nat_le port.num_ports (most_ports node_type.ChannelAdapter)
    && (is_no_switch switches port.node_guid && nat_lt (hops_to switches port.at.node) PATH_HOPS)))

-- two ports of one adapter have two numbers, and report one number of ports
abbrev pub agree : GraphPort → GraphPort → Bool
agree one other =
    not (one.node_guid == other.node_guid) || ((one.num_ports == other.num_ports) && not (one.number == other.number))

abbrev pub all_agree : List GraphPort → Bool
all_agree [] = true
all_agree (port ∷ ports) = list_all (agree port) ports && all_agree ports

-- ---- GUIDs
-- those of the ends of packets: a switch has its own
abbrev pub end_guids : List GraphSwitch → List GraphPort → List ℕ
end_guids switches ports = map (λ switch. switch.guid) switches ++ map (λ port. port.port_guid) ports

-- ---- the graph
pub record IsGraph (graph : GraphState) : Type 0 where
  pub few_switches : length graph.switches ≤ SWITCHES
  pub few_ports : length graph.ports ≤ ADAPTER_PORTS
  pub switches : list_all is_right_switch graph.switches ≡ true
  pub a_row_each : length graph.rows ≡ length graph.switches
  pub rows : list_all (is_right_row graph.switches graph.rows) (range_with_len 0 (length graph.rows)) ≡ true
  pub ports : list_all (is_right_port graph.switches) graph.ports ≡ true
  pub agree : all_agree graph.ports ≡ true
  -- no two ends of packets have one GUID
  pub guids : IsDistinct (λ a b. a == b) (end_guids graph.switches graph.ports)
  -- the SM port is among them
  pub manager_there : list_any (λ port. port.port_guid == graph.manager) graph.ports ≡ true
