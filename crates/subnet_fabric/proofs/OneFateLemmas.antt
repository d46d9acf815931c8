-- One thing becomes of a topology's fabric, whatever the order in which a sweep finds its switches.
use Rattle.std.proofs.Common.{ℕ, ◌+◌, ◌≡◌, ◌∙◌, ap, refl, subst, sym, List, [], ◌∷◌, map}
use Rattle.std.specs.List.{enumerate_from}
use Rattle.fabric_wire.proofs.OfTopologyGoodLemmas.{good}
use Rattle.fabric_wire.specs.OfTopology.{fabric_of}
use Rattle.lid_assign.specs.Lids.{AreLids, end_ports}
use Rattle.updn_routes.proofs.AlikeLemmas.{none_is_reached_and_refused, one_pair_is_refused}
use Rattle.updn_routes.proofs.OfFabricLemmas.{graphs_of_one_fabric_are_alike}
use Rattle.updn_routes.specs.Alike.{AreAlike, layout_of}
use Rattle.subnet_fabric.proofs.GraphPortLemmas.{sweeps_find_what_is_listed}
use Rattle.sweep.specs.Graph.{GraphState}
use Rattle.topo_file.specs.Sound.{IsSound}
use Rattle.topo_file.specs.Topology.{TopologyState}
use Rattle.updn_routes.specs.Fault.{IsRefused}
use Rattle.updn_routes.specs.Order.{precedes}
use Rattle.updn_routes.specs.Routes.{AllReached, order_of}
use Rattle.updn_routes.specs.Subnet.{guids_of, homes_of, rows_of}
use Rattle.subnet_fabric.specs.BringUp.{root_guids}
use Rattle.subnet_fabric.specs.SetUp.{AreAssigned, IsLaidOut}
use Rattle.subnet_fabric.proofs.FoundLemmas.{laid_out}
use Rattle.subnet_fabric.specs.Laws.{NoPathExcludesComingUp, OnePairHasNoPath, TooFarExcludesTheRest}

pub too_far_excludes_the_rest : TooFarExcludesTheRest
too_far_excludes_the_rest plan keys fabric switch port far = (λ none. none.laid.near far, λ up. up.by.are.found.near far)

-- ---- two graphs that may be found
numbered : (first : ℕ) (xs : List ℕ) → map (λ p. p.1) (enumerate_from first xs) ≡ xs
numbered first [] = refl
numbered first (x ∷ xs) = ap (λ (rest : List ℕ). x ∷ rest) (numbered (first + 1) xs)

-- LIDs are those that are listed, and so one list
pub one_list : (plan : TopologyState) (one other : GraphState) (guids others : List ℕ) → IsSound plan → IsLaidOut (fabric_of plan) one → IsLaidOut (fabric_of plan) other
    → AreAssigned one guids → AreAssigned other others → others ≡ guids
one_list plan one other guids others sound found found_too assigned assigned_too =
    let here = sweeps_find_what_is_listed [] plan one guids sound found.layout assigned.lids assigned.order in
    let there = sweeps_find_what_is_listed [] plan other others sound found_too.layout assigned_too.lids assigned_too.order in
    sym (numbered 1 others) ∙ ap (map (λ (p : ℕ × ℕ). p.1)) (sym there.lids ∙ here.lids) ∙ numbered 1 guids

are_alike : (plan : TopologyState) (one other : GraphState) (guids others : List ℕ) → IsSound plan → IsLaidOut (fabric_of plan) one → IsLaidOut (fabric_of plan) other
    → AreAssigned one guids → AreAssigned other others → AreAlike (layout_of one guids) (layout_of other guids)
are_alike plan one other guids others sound found found_too assigned assigned_too =
    graphs_of_one_fabric_are_alike (fabric_of plan) one other guids (good plan sound) found.layout found_too.layout assigned.lids
    (subst (AreLids (end_ports other)) (one_list plan one other guids others sound found found_too assigned assigned_too) assigned_too.lids)

-- ---- no path
pub no_path_excludes_coming_up : NoPathExcludesComingUp
no_path_excludes_coming_up plan keys fabric switch port sound none up =
    let routes = up.routes in
    let are = up.by.are in
    let same : routes.lids ≡ none.guids =
    one_list plan none.graph routes.graph none.guids routes.lids sound none.laid (laid_out (fabric_of plan) routes.graph are.found) none.assigned are.assigned in
    let alike = are_alike plan none.graph routes.graph none.guids routes.lids sound none.laid (laid_out (fabric_of plan) routes.graph are.found) none.assigned are.assigned in
    let here : AllReached (rows_of routes.graph) (order_of routes.between) (homes_of routes.graph none.guids) =
    subst (λ (lids : List ℕ). AllReached (rows_of routes.graph) (order_of routes.between) (homes_of routes.graph lids)) same are.reached in
    let reached : AllReached (rows_of routes.graph) (precedes routes.between.ranks (guids_of routes.graph)) (homes_of routes.graph none.guids) =
    subst (λ (guids : List ℕ). AllReached (rows_of routes.graph) (precedes routes.between.ranks guids) (homes_of routes.graph none.guids))
    are.made.guids_are here in
    none_is_reached_and_refused (layout_of none.graph none.guids) (layout_of routes.graph none.guids) (root_guids plan) routes.between.ranks
    switch port alike none.refused are.made.ranks_are reached

pub one_pair_has_no_path : OnePairHasNoPath
one_pair_has_no_path plan a b c d sound one other =
    let same : other.guids ≡ one.guids =
    one_list plan one.graph other.graph one.guids other.guids sound one.laid other.laid one.assigned other.assigned in
    let alike = are_alike plan one.graph other.graph one.guids other.guids sound one.laid other.laid one.assigned other.assigned in
    let refused =
    subst (λ (lids : List ℕ). IsRefused (rows_of other.graph) (guids_of other.graph) (root_guids plan) (homes_of other.graph lids) c d)
    same other.refused in
    one_pair_is_refused (layout_of one.graph one.guids) (layout_of other.graph one.guids) (root_guids plan) a b c d alike one.refused refused
