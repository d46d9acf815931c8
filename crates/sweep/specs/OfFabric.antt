-- What the graph of a fabric is. One list says where its switches stand among the fabric's nodes, and with which paths;
-- all else of the graph is a function of that list. That it lays out the fabric is one thing, and that its paths lead to
-- its switches another: once a cable is gone some may not.
use Rattle.std.specs.Prelude.{ℕ, ◌≡◌, ◌≤◌, ◌==◌, Bool, if◌then◌else◌, List, [], ◌∷◌, map, flat_map, length, slice_get, Some, option_map, unwrap_or}
use Rattle.std.specs.List.{All, IsDistinct, list_any, position_or_len, range_with_len}
use Rattle.std.specs.Option.{option_map_or}
use Rattle.fabric_parts.specs.Cable.{far_end, port}
use Rattle.fabric_parts.specs.declared.cable.PortRef.{PortRef}
use Rattle.smp_wire.specs.FabricState.{FabricState, is_switch_at, port_count}
use Rattle.smp_wire.specs.Good.{node_guid}
use Rattle.smp_wire.specs.Walk.{end_of}
use Rattle.sweep.specs.Graph.{GraphState}
use Rattle.sweep.specs.Seen.{name_at, seen_at}
use Rattle.sweep.specs.declared.graph.GraphPort.{GraphPort}
use Rattle.sweep.specs.declared.graph.GraphSwitch.{GraphSwitch}
use Rattle.sweep.specs.declared.graph.GraphLink.{GraphLink}
use Rattle.sweep.specs.declared.path.TheConstants.{PATH_HOPS}
use Rattle.sweep.specs.declared.seen.Seen.{Seen}

-- a switch of a graph: its place among the fabric's nodes, and the path that the graph has for it
pub record Found : Type 0 where
  pub node : ℕ
  pub path : List ℕ

abbrev pub nodes_of : List Found → List ℕ
nodes_of found = map (λ one. one.node) found

-- ---- switches
abbrev pub guid_at : FabricState → ℕ → ℕ
guid_at fabric node = option_map_or node_guid (slice_get fabric.nodes node) 0

abbrev pub ports_at : FabricState → ℕ → ℕ
ports_at fabric node = option_map_or port_count (slice_get fabric.nodes node) 0

abbrev pub switch_of : FabricState → Found → GraphSwitch
switch_of fabric found =
    record {
      guid = guid_at fabric found.node;
      num_ports = ports_at fabric found.node;
      name = unwrap_or (name_at fabric (port found.node 0)) [];
      path = found.path;
    }

-- ---- links
abbrev pub is_among : List ℕ → ℕ → Bool
is_among nodes node = list_any (λ one. one == node) nodes

-- the place of a node in that list
abbrev pub place_of : List ℕ → ℕ → ℕ
place_of nodes node = position_or_len (λ one. one == node) nodes

-- the same port, with its node by its place in that list
abbrev pub placed : List ℕ → PortRef → PortRef
placed nodes at = port (place_of nodes at.node) at.port

-- what a port of a switch has: a link, if there is a switch at the other end of its cable
abbrev pub link_to : FabricState → List ℕ → ℕ → PortRef → List GraphLink
link_to fabric nodes number there =
    if is_switch_at fabric.nodes there.node then record { port = number; to = placed nodes there } ∷ [] else []

abbrev pub links_up_to : FabricState → List ℕ → ℕ → ℕ → List GraphLink
links_up_to fabric nodes node count =
    flat_map (λ number. option_map_or (link_to fabric nodes number) (far_end fabric.cables (port node number)) [])
    (range_with_len 1 count)

-- the links of a switch, by port
abbrev pub row_of : FabricState → List ℕ → ℕ → List GraphLink
row_of fabric nodes node = links_up_to fabric nodes node (ports_at fabric node)

-- ---- ports of adapters
abbrev pub port_seen : PortRef → List ℕ → Seen → GraphPort
port_seen at name seen =
    record {
      node_guid = seen.node_guid;
      port_guid = seen.port_guid;
      number = seen.local_port_num;
      num_ports = seen.num_ports;
      name = name;
      at = at;
    }

-- the port that is attached at that port of a switch, if there is an adapter at the other end of its cable
abbrev pub port_to : FabricState → PortRef → PortRef → List GraphPort
port_to fabric at there =
    if is_switch_at fabric.nodes there.node then []
    else option_map_or (λ seen. port_seen at (unwrap_or (name_at fabric there) []) seen ∷ []) (seen_at fabric there) []

abbrev pub ports_up_to : FabricState → ℕ → ℕ → ℕ → List GraphPort
ports_up_to fabric place node count =
    flat_map (λ number. option_map_or (port_to fabric (port place number)) (far_end fabric.cables (port node number)) [])
    (range_with_len 1 count)

-- those that are attached to the switches at the first places of the list
abbrev pub node_at : List Found → ℕ → ℕ
node_at found place = option_map_or (λ one. one.node) (slice_get found place) 0

abbrev pub ports_before : FabricState → List Found → ℕ → List GraphPort
ports_before fabric found count =
    flat_map (λ place. ports_up_to fabric place (node_at found place) (ports_at fabric (node_at found place)))
    (range_with_len 0 count)

abbrev pub all_ports : FabricState → List Found → List GraphPort
all_ports fabric found = ports_before fabric found (length found)

-- ---- paths
-- the path leaves by the subnet manager's own port, is no longer than a directed route, and ends at that switch
pub record Leads (fabric : FabricState) (found : Found) : Type 0 where
  pub rest : List ℕ
  pub leaves : found.path ≡ fabric.manager.port ∷ rest
  pub at : PortRef
  pub ends : end_of fabric found.path ≡ Some at
  pub node : at.node ≡ found.node
  pub short : length found.path ≤ PATH_HOPS

-- ---- the graph
-- it has the switches, links and ports of the fabric, wherever its paths may lead
pub record IsLayoutOf (graph : GraphState) (fabric : FabricState) : Type 0 where
  pub found : List Found
  -- each switch, and each once
  pub once : IsDistinct (λ a b. a == b) (nodes_of found)
  pub all : (node : ℕ) → is_among (nodes_of found) node ≡ is_switch_at fabric.nodes node
  pub manager : option_map (λ seen. seen.port_guid) (seen_at fabric fabric.manager) ≡ Some graph.manager
  pub switches : graph.switches ≡ map (switch_of fabric) found
  pub rows : graph.rows ≡ map (λ one. row_of fabric (nodes_of found) one.node) found
  pub ports : graph.ports ≡ all_ports fabric found

-- and each path leads to its switch
pub record IsGraphOf (graph : GraphState) (fabric : FabricState) : Type 0 where
  pub layout : IsLayoutOf graph fabric
  pub lead : All (Leads fabric) layout.found
