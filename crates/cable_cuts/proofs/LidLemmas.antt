-- By two layouts of one good fabric, LIDs are one list.
use Rattle.std.proofs.Common.{ℕ, ◌≡◌, ◌∙◌, sym, List}
use Rattle.std.proofs.lemmas.Option.{same_Some}
use Rattle.smp_wire.specs.FabricState.{FabricState}
use Rattle.smp_wire.specs.Good.{IsGood}
use Rattle.subnet_fabric.proofs.RecabledLidLemmas.{HaveSameEnds, one_list}
use Rattle.subnet_fabric.specs.SetUp.{AreAssigned}
use Rattle.sweep.proofs.EndPortLemmas.{graphs_have_the_end_ports}
use Rattle.sweep.specs.Graph.{GraphState}
use Rattle.sweep.specs.OfFabric.{IsLayoutOf}

module _ (fabric : FabricState) (good : IsGood fabric) where
  pub same_lids : (one other : GraphState) (guids others : List ℕ) → IsLayoutOf one fabric → IsLayoutOf other fabric → AreAssigned one guids
      → AreAssigned other others → others ≡ guids
  same_lids one other guids others layout layout_too assigned assigned_too =
      let ends : HaveSameEnds one other = record {
        to = λ end has.
            (graphs_have_the_end_ports fabric other end good layout_too).1 ((graphs_have_the_end_ports fabric one end good layout).0 has);
        back = λ end has.
            (graphs_have_the_end_ports fabric one end good layout).1 ((graphs_have_the_end_ports fabric other end good layout_too).0 has);
      } in
      let manager : other.manager ≡ one.manager = same_Some other.manager one.manager (sym layout_too.manager ∙ layout.manager) in
      one_list one other guids others ends manager assigned assigned_too
