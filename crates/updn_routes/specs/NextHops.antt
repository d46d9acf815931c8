-- By which port a switch of a fabric sends what is for a LID, by the switch's GUID and not by its place in a graph.
use Rattle.std.specs.Prelude.{ℕ, List, Option}
use Rattle.std.specs.Option.{option_and_then}
use Rattle.updn_routes.specs.Order.{AreRanks}
use Rattle.updn_routes.specs.Routes.{AreRoutes, next_hop}
use Rattle.updn_routes.specs.Subnet.{AreOfGraph, RoutesState, guids_of, place_of, rows_of}

-- no port if no switch has that GUID
abbrev pub hop_by : RoutesState → ℕ → ℕ → Option ℕ
hop_by routes guid lid = option_and_then (λ place. next_hop routes.between place lid) (place_of routes.graph.switches guid)

-- routes as they are chosen over a graph, with these roots named
pub record AreChosenFrom (roots : List ℕ) (routes : RoutesState) : Type 0 where
  pub of : AreOfGraph routes
  pub ranks : AreRanks (rows_of routes.graph) (guids_of routes.graph) roots routes.between.ranks
  pub chosen : AreRoutes routes.between
