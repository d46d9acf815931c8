-- What routes are of: the cables between the switches of a graph, their GUIDs, and where each LID is attached. And the routes
-- of a subnet, which keep the graph and the LIDs.
use Rattle.std.specs.Prelude.{ℕ, ◌≡◌, ◌==◌, List, map, find, position, Option, Some, None, option_map}
use Rattle.fabric_parts.specs.declared.cable.PortRef.{PortRef}
use Rattle.lid_assign.specs.Lids.{AreLids, end_ports}
use Rattle.sweep.specs.Graph.{GraphState}
use Rattle.sweep.specs.Joined.{AllJoined}
use Rattle.sweep.specs.declared.graph.GraphPort.{GraphPort}
use Rattle.sweep.specs.declared.graph.GraphSwitch.{GraphSwitch}
use Rattle.sweep.specs.declared.graph.GraphLink.{GraphLink}
use Rattle.updn_routes.specs.Routes.{SwitchRoutesState}
use Rattle.updn_routes.specs.declared.link.Link.{Link}

-- ---- switches, numbered by their places in the graph
abbrev pub link_of : GraphLink → Link
link_of link = record { port = link.port; to = link.to.node }

abbrev pub row_of : List GraphLink → List Link
row_of links = map link_of links

abbrev pub rows_of : GraphState → List (List Link)
rows_of graph = map row_of graph.rows

abbrev pub guids_of : GraphState → List ℕ
guids_of graph = map (λ switch. switch.guid) graph.switches

-- ---- LIDs
-- the switch with that GUID
abbrev pub place_of : List GraphSwitch → ℕ → Option ℕ
place_of switches guid = position (λ switch. switch.guid == guid) switches

-- the port of a switch that has a cable to the adapter's port with that GUID
abbrev pub attachment_of : List GraphPort → ℕ → Option PortRef
attachment_of ports guid = option_map (λ port. port.at) (find (λ port. port.port_guid == guid) ports)

-- where the end port with that GUID is attached: it is a switch's own, or an adapter's
abbrev pub home_from : Option ℕ → Option PortRef → PortRef
home_from (Some place) at = record { node = place; port = 0 }
home_from None (Some at) = at
home_from None None = record { node = 0; port = 0 }

abbrev pub home_in : GraphState → ℕ → PortRef
home_in graph guid = home_from (place_of graph.switches guid) (attachment_of graph.ports guid)

-- where each LID is attached, from LID 1 on
abbrev pub homes_of : GraphState → List ℕ → List PortRef
homes_of graph lids = map (home_in graph) lids

-- ---- the routes of a subnet
pub record RoutesState : Type 0 where
  pub graph : GraphState
  pub lids : List ℕ
  -- between its switches, by their places in the graph
  pub between : SwitchRoutesState

-- they are of that graph, whose switches are joined, and of its LIDs
pub record AreOfGraph (routes : RoutesState) : Type 0 where
  pub joined : AllJoined routes.graph.rows
  pub lids_are : AreLids (end_ports routes.graph) routes.lids
  pub rows_are : routes.between.rows ≡ rows_of routes.graph
  pub guids_are : routes.between.guids ≡ guids_of routes.graph
  pub homes_are : routes.between.homes ≡ homes_of routes.graph routes.lids
