-- Whether roots leave a port of a fabric without a way is one thing, whatever layout of it routes were computed over.
use Rattle.std.proofs.Common.{ℕ, ◌≡◌, ◌∙◌, subst, sym, List}
use Rattle.std.proofs.lemmas.Option.{same_Some}
use Rattle.lid_assign.specs.Lids.{AreLids, end_ports}
use Rattle.updn_routes.proofs.AlikeLemmas.{none_is_reached_and_refused}
use Rattle.updn_routes.proofs.OfFabricLemmas.{graphs_of_one_fabric_are_alike}
use Rattle.updn_routes.specs.Alike.{layout_of}
use Rattle.smp_wire.specs.FabricState.{FabricState}
use Rattle.smp_wire.specs.Good.{IsGood}
use Rattle.subnet_fabric.proofs.RecabledLidLemmas.{HaveSameEnds, one_list}
use Rattle.subnet_fabric.specs.SetUp.{AreAssigned, HasNoPathFrom, IsLaidOut}
use Rattle.sweep.proofs.EndPortLemmas.{graphs_have_the_end_ports}
use Rattle.sweep.specs.Graph.{GraphState}
use Rattle.updn_routes.specs.Order.{precedes}
use Rattle.updn_routes.specs.Routes.{AllReached, AreRoutesOf, SwitchRoutesState, order_of}
use Rattle.updn_routes.specs.Subnet.{guids_of, homes_of, rows_of}

module _ (fabric : FabricState) (graph : GraphState) (lids roots : List ℕ) (between : SwitchRoutesState) (good : IsGood fabric)
    (laid : IsLaidOut fabric graph) (assigned : AreAssigned graph lids)
    (made : AreRoutesOf (rows_of graph) (guids_of graph) roots (homes_of graph lids) between)
    (reached : AllReached (rows_of graph) (order_of between) (homes_of graph lids)) where
  pub none_is_without : (switch port : ℕ) → HasNoPathFrom fabric roots switch port → ⊥
  none_is_without switch port none =
      let ends : HaveSameEnds none.graph graph = record {
        to = λ end has.
            (graphs_have_the_end_ports fabric graph end good laid.layout).1 ((graphs_have_the_end_ports fabric none.graph end good none.laid.layout).0 has);
        back = λ end has.
            (graphs_have_the_end_ports fabric none.graph end good none.laid.layout).1 ((graphs_have_the_end_ports fabric graph end good laid.layout).0 has);
      } in
      let manager : graph.manager ≡ none.graph.manager =
      same_Some graph.manager none.graph.manager (sym laid.layout.manager ∙ none.laid.layout.manager) in
      let same : lids ≡ none.guids = one_list none.graph graph none.guids lids ends manager none.assigned assigned in
      let alike =
      graphs_of_one_fabric_are_alike fabric none.graph graph none.guids good none.laid.layout laid.layout none.assigned.lids
      (subst (AreLids (end_ports graph)) same assigned.lids) in
      let here : AllReached (rows_of graph) (precedes between.ranks (guids_of graph)) (homes_of graph none.guids) =
      subst (λ (guids : List ℕ). AllReached (rows_of graph) (precedes between.ranks guids) (homes_of graph none.guids)) made.guids_are
      (subst (λ (all : List ℕ). AllReached (rows_of graph) (order_of between) (homes_of graph all)) same reached) in
      none_is_reached_and_refused (layout_of none.graph none.guids) (layout_of graph none.guids) roots between.ranks switch port alike none.refused
      made.ranks_are here
