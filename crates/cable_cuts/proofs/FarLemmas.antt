-- Where cables join the switches of a good fabric, either a cable is too far from the subnet manager or the graph is whole.
use Rattle.std.proofs.Common.{◌≡◌, ℕ, suc, ◌⊎◌, Bool, true, false, ◌&&◌, ◌||◌, List, [], ◌∷◌}
use Rattle.std.proofs.Common.{Option, refl, sym, ap, ◌∙◌, inl, inr, arith}
use Rattle.std.specs.Bool.{Decides}
use Rattle.std.specs.List.{Contains, list_all}
use Rattle.std.proofs.lemmas.Bool.{and_from, and_parts, false≢true, or_cases, or_parts}
use Rattle.fabric_parts.specs.declared.cable.Cable.{Cable}
use Rattle.step_results.proofs.ListLemmas.{all_there}
use Rattle.smp_wire.specs.FabricState.{FabricState, is_switch_at}
use Rattle.smp_wire.specs.Good.{IsGood, SwitchesJoined}
use Rattle.sweep.proofs.EndPortLemmas.{stands}
use Rattle.sweep.proofs.FoundLemmas.{place_is}
use Rattle.sweep.proofs.LayoutLemmas.{are_inside, at_less, at_switch, first, manager_at}
use Rattle.sweep.proofs.RoundLemmas.{distances_exist}
use Rattle.sweep.proofs.ServedLemmas.{near_decides}
use Rattle.sweep.proofs.SweptLemmas.{near_within, whole_graphs_are_swept, within_near}
use Rattle.sweep.specs.Graph.{GraphState}
use Rattle.sweep.specs.Hops.{IsTooFar, IsWithin}
use Rattle.sweep.specs.OfFabric.{IsLayoutOf, nodes_of, place_of}
use Rattle.sweep.specs.Recabled.{IsNear, IsWhole, manager_switch}
use Rattle.sweep.specs.Rounds.{AreDistances, is_reached}

-- all of a list pass a test, or one fails it
data AllOrOne {X : Type 0} (p : X → Bool) (xs : List X) : Type 0 where
  All : list_all p xs ≡ true → AllOrOne p xs
  One : (x : X) → Contains xs x → p x ≡ false → AllOrOne p xs

later : {X : Type 0} (x : X) (xs : List X) (y : X) → Contains xs y → Contains (x ∷ xs) y
later x xs y there = let less = there.1 in (suc there.0, omega (arith, less), there.2)

all_or_one : {X : Type 0} (p : X → Bool) (xs : List X) → AllOrOne p xs
all_or_one p [] = All refl
all_or_one p (x ∷ xs) = by (p x) refl (all_or_one p xs)
  where
    by : (b : Bool) → p x ≡ b → AllOrOne p xs → AllOrOne p (x ∷ xs)
    by false fails rest = One x (0, omega arith, refl) fails
    by true is (All rest) = All (and_from (p x) _ is rest)
    by true is (One y there fails) = One y (later x xs y there) fails

module _ (fabric : FabricState) (graph : GraphState) (good : IsGood fabric) (layout : IsLayoutOf graph fabric) where
  abbrev nodes : List ℕ
  nodes = nodes_of layout.found

  distances : (found : List (Option ℕ)) × AreDistances graph.rows (manager_switch graph) found
  distances =
      distances_exist graph.rows (manager_switch graph) (are_inside fabric graph good layout)
      (at_less fabric graph good layout (manager_switch graph) (first fabric graph good layout).0.node (manager_at fabric graph good layout))

  decides : (k : ℕ) → Decides (is_reached distances.0 k) (IsNear graph.rows (manager_switch graph) k)
  decides k = near_decides graph.rows (manager_switch graph) distances.0 distances.1 k

  is_within : ℕ → Bool
  is_within node = is_switch_at fabric.nodes node && is_reached distances.0 (place_of nodes node)

  within_is : (node : ℕ) → is_within node ≡ true → IsWithin fabric 62 node
  unfolding is_within
  within_is node is =
      let parts = and_parts (is_switch_at fabric.nodes node) _ is in
      let at = at_switch fabric graph good layout node parts.0 in
      let place : place_of nodes node ≡ at.0 = place_is nodes at.0 node layout.once at.1 in
      near_within fabric graph good layout at.0 node at.1 ((decides at.0).0 (ap (is_reached distances.0) (sym place) ∙ parts.1))

  is_within_if : (node : ℕ) → is_within node ≡ false → IsWithin fabric 62 node → ⊥
  unfolding is_within
  is_within_if node fails within =
      let at = at_switch fabric graph good layout node within.switch in
      let place : place_of nodes node ≡ at.0 = place_is nodes at.0 node layout.once at.1 in
      let reached = ap (is_reached distances.0) place ∙ (decides at.0).1 (within_near fabric graph good layout at.0 node at.1 within) in
      false≢true (sym fails ∙ and_from (is_switch_at fabric.nodes node) _ within.switch reached)

  -- ---- so one of the two can be reported
  pub far_or_whole : SwitchesJoined fabric → IsTooFar fabric ⊎ IsWhole graph
  far_or_whole joined = by (all_or_one (λ (cable : Cable). is_within cable.first.node || is_within cable.second.node) fabric.cables)
    where
      no_end : (cable : Cable) → (is_within cable.first.node || is_within cable.second.node) ≡ false
          → (is_within cable.first.node ≡ false) × (is_within cable.second.node ≡ false)
      no_end cable none = or_parts (is_within cable.first.node) _ none

      by : AllOrOne (λ (cable : Cable). is_within cable.first.node || is_within cable.second.node) fabric.cables → IsTooFar fabric ⊎ IsWhole graph
      by (One cable there fails) =
          let none = no_end cable fails in
          inl (record {
            cable = cable;
            there = there;
            first = is_within_if cable.first.node none.0;
            second = is_within_if cable.second.node none.1;
          })
      by (All near) = inr ((whole_graphs_are_swept fabric graph good layout).1 (joined, λ far. not_far far))
        where
          not_far : IsTooFar fabric → ⊥
          not_far far =
              let at = stands fabric.cables far.cable far.there in
              let test = all_there (λ (cable : Cable). is_within cable.first.node || is_within cable.second.node) fabric.cables at.0 far.cable near at.1 in
              elim (or_cases (is_within far.cable.first.node) _ test) [
                | inl first ↦ far.first (within_is far.cable.first.node first)
                | inr second ↦ far.second (within_is far.cable.second.node second)
              ]
