-- What a graph is once a cable between two of its switches is cut, or mended, and when its cables serve to sweep it. Ends
-- are ports of switches by their places in the graph. All else of the graph is kept, also the paths by which the switches
-- were found, which may lead over cables that are gone.
use Rattle.std.specs.Prelude.{ℕ, ◌-◌, ◌≡◌, ◌≤◌, ◌==◌, ◌&&◌, ◌||◌, ◌⊎◌, not, nat_lt, Bool, true, false, if◌then◌else◌, List, [], ◌∷◌, ◌++◌, map, filter, find, length, get_or, option_map, unwrap_or}
use Rattle.std.specs.List.{All, Contains, enumerate_from, list_any}
use Rattle.fabric_parts.specs.declared.cable.PortRef.{PortRef}
use Rattle.sweep.specs.declared.graph.GraphLink.{GraphLink}
use Rattle.sweep.specs.declared.path.TheConstants.{PATH_HOPS}
use Rattle.sweep.specs.Graph.{GraphState, is_switch_port}
use Rattle.sweep.specs.Joined.{AllJoined, is_next_to, is_walk_by}

-- ---- a cable cut
-- a link of the switch at that place leaves by that port
abbrev pub leaves_by : ℕ → PortRef → GraphLink → Bool
leaves_by place at link = (place == at.node) && (link.port == at.port)

-- the links of that switch that leave by neither port
abbrev pub row_without : PortRef → PortRef → ℕ → List GraphLink → List GraphLink
row_without a b place links = filter (λ link. not (leaves_by place a link || leaves_by place b link)) links

abbrev pub rows_without : PortRef → PortRef → List (List GraphLink) → List (List GraphLink)
rows_without a b rows = map (λ (place, links). row_without a b place links) (enumerate_from 0 rows)

-- the graph without the cable between these ports
abbrev pub without : PortRef → PortRef → GraphState → GraphState
without a b graph = record graph { rows = rows_without a b graph.rows }

-- ---- a cable mended
-- the links with one more, out of that port, at its place in the order of ports
abbrev pub links_with : ℕ → PortRef → List GraphLink → List GraphLink
links_with number to links =
    filter (λ link. nat_lt link.port number) links
    ++ record { port = number; to = to } ∷ []
    ++ filter (λ link. nat_lt number link.port) links

abbrev pub row_with : PortRef → PortRef → ℕ → List GraphLink → List GraphLink
row_with a b place links =
    if place == a.node then links_with a.port b links else if place == b.node then links_with b.port a links else links

abbrev pub rows_with : PortRef → PortRef → List (List GraphLink) → List (List GraphLink)
rows_with a b rows = map (λ (place, links). row_with a b place links) (enumerate_from 0 rows)

-- the graph with a cable between these ports
abbrev pub with_cable : PortRef → PortRef → GraphState → GraphState
with_cable a b graph = record graph { rows = rows_with a b graph.rows }

-- no link leaves by that port
abbrev pub is_free : List (List GraphLink) → PortRef → Bool
is_free rows at = not (list_any (λ link. link.port == at.port) (get_or rows at.node []))

-- a cable may join these ports: they are of two switches of the graph, and free
pub record MayBeCabled (graph : GraphState) (a b : PortRef) : Type 0 where
  pub first : is_switch_port graph.switches a ≡ true
  pub second : is_switch_port graph.switches b ≡ true
  pub apart : (a.node == b.node) ≡ false
  pub first_free : is_free graph.rows a ≡ true
  pub second_free : is_free graph.rows b ≡ true

-- ---- whether the cables serve to sweep it
-- the place of the switch to which the SM port is attached
abbrev pub manager_switch : GraphState → ℕ
manager_switch graph = unwrap_or (option_map (λ port. port.at.node) (find (λ port. port.port_guid == graph.manager) graph.ports)) 0

-- some path from the SM port comes to that switch that a hop can be added to: its first hop leads to the
-- subnet manager's switch, and so a walk of two hops less than a path has at most leads on from there
pub record IsNear (rows : List (List GraphLink)) (from place : ℕ) : Type 0 where
  pub steps : List ℕ
  pub leads : is_walk_by (is_next_to rows) from steps place ≡ true
  pub short : length steps ≤ PATH_HOPS - 2

-- cables join all switches, and an SMP goes over each cable
pub record IsWhole (graph : GraphState) : Type 0 where
  pub joined : AllJoined graph.rows
  pub links : (place : ℕ) (link : GraphLink) → Contains (get_or graph.rows place []) link
      → IsNear graph.rows (manager_switch graph) place ⊎ IsNear graph.rows (manager_switch graph) link.to.node
  pub ports : All (λ port. IsNear graph.rows (manager_switch graph) port.at.node) graph.ports
