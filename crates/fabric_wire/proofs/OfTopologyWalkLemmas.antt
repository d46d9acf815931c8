-- A walk from switch to switch over a topology's cables is a walk of SMPs through its fabric.
use Rattle.std.proofs.Common.{ℕ, ◌≡◌, ◌==◌, ◌∙◌, ap, refl, sym, inl, inr, subst, Bool, true, false, not, List, [], ◌∷◌, Some, ◌&&◌}
use Rattle.std.specs.List.{list_all, list_any, IsDistinct}
use Rattle.std.proofs.lemmas.Bool.{and_left, and_parts, eq-eqb, eqb-true, false≢true, not-true, or_cases, or_from}
use Rattle.std.proofs.lemmas.Map.Keys.{IsDistinct-tail}
use Rattle.fabric_parts.specs.declared.cable.Cable.{Cable}
use Rattle.fabric_parts.specs.declared.cable.PortRef.{PortRef}
use Rattle.topo_file.specs.declared.node.Node.{Node as PlannedNode}
use Rattle.fabric_parts.specs.Cable.{ends_at, far_end, is_cabled, is_same_port, last_of, other_end, port}
use Rattle.topo_file.specs.Connectivity.{is_walk, joins}
use Rattle.topo_file.specs.Node.{is_switch_at as is_planned_at}
use Rattle.topo_file.specs.Sound.{IsSound, joins_right, shares_port}
use Rattle.topo_file.specs.Topology.{TopologyState}
use Rattle.smp_wire.specs.declared.node.Node.{Node}
use Rattle.smp_wire.specs.FabricState.{is_switch_at}
use Rattle.smp_wire.specs.Good.{is_right, leads}
use Rattle.fabric_wire.specs.Laws.{TopologiesAreJoined}
use Rattle.fabric_wire.specs.OfTopology.{fabric_of}
use Rattle.smp_wire.specs.Walk.{walk}
use Rattle.smp_wire.proofs.CableLemmas.{itself, same_port}
use Rattle.fabric_wire.proofs.HopLemmas.{hop_is_far_end}
use Rattle.fabric_wire.proofs.OfTopologyGoodLemmas.{all_right}
use Rattle.fabric_wire.proofs.OfTopologyLemmas.{free_ends, nodes_from, switch_there}

-- ---- out of one node by a cable to the next
pub record GoesOut (cables : List Cable) (a next : ℕ) : Type 0 where
  pub number : ℕ
  pub there : PortRef
  pub far : far_end cables (port a number) ≡ Some there
  pub cabled : is_cabled cables (port a number) ≡ true
  pub node : there.node ≡ next

-- by the first end of the first cable, or by its second
by_first : (cable : Cable) (cables : List Cable) (a next : ℕ) → cable.first.node ≡ a → cable.second.node ≡ next → GoesOut (cable ∷ cables) a next
by_first cable cables a next here there =
    let same : is_same_port cable.first (port a cable.first.port) ≡ true = subst (λ (k : ℕ). is_same_port cable.first (port k cable.first.port) ≡ true) here (itself cable.first) in
    record { number = cable.first.port; there = cable.second; far = rw (same, same) refl; cabled = rw same refl; node = there }

by_second : (cable : Cable) (cables : List Cable) (a next : ℕ) → (cable.first.node == cable.second.node) ≡ false
    → cable.second.node ≡ a → cable.first.node ≡ next
    → GoesOut (cable ∷ cables) a next
by_second cable cables a next apart here there =
    let same : is_same_port cable.second (port a cable.second.port) ≡ true = subst (λ (k : ℕ). is_same_port cable.second (port k cable.second.port) ≡ true) here (itself cable.second) in
    let other : is_same_port cable.first (port a cable.second.port) ≡ false = and_left (cable.first.node == a) _ (subst (λ (k : ℕ). (cable.first.node == k) ≡ false) here apart) in
    let turned : other_end (port a cable.second.port) cable ≡ cable.first = rw other refl in
    record { number = cable.second.port; there = cable.first; far = rw (other, same) (ap (λ (one : PortRef). Some one) turned); cabled = rw (other, same) refl; node = there }

-- by a later cable, since the first does not end at its port
not_end : (cable : Cable) (cables : List Cable) (at : PortRef) → is_cabled cables cable.first ≡ false
    → is_cabled cables cable.second ≡ false → is_cabled cables at ≡ true
    → ends_at at cable ≡ false
not_end cable cables at first second cabled =
    or_from (is_same_port cable.first at) _ (is_other cable.first first) (is_other cable.second second)
  where
    is_other : (end : PortRef) → is_cabled cables end ≡ false → is_same_port end at ≡ false
    is_other end free = by (is_same_port end at) refl
      where
        by : (b : Bool) → is_same_port end at ≡ b → b ≡ false
        by true h = absurd (false≢true (sym free ∙ ap (is_cabled cables) (same_port end at h) ∙ cabled))
        by false h = refl

by_later : (cable : Cable) (cables : List Cable) (a next : ℕ) → is_cabled cables cable.first ≡ false
    → is_cabled cables cable.second ≡ false → GoesOut cables a next
    → GoesOut (cable ∷ cables) a next
by_later cable cables a next first second out =
    let other = not_end cable cables (port a out.number) first second out.cabled in
    record { number = out.number; there = out.there; far = rw other out.far; cabled = rw other out.cabled; node = out.node }

out_by : (nodes : List PlannedNode) (cables : List Cable) (a next : ℕ) → list_all (joins_right nodes) cables ≡ true → IsDistinct shares_port cables
    → list_any (λ cable. joins a next cable) cables ≡ true → GoesOut cables a next
out_by nodes [] a next right own joined = absurd (false≢true joined)
out_by nodes (cable ∷ cables) a next right own joined =
    let rights = and_parts (joins_right nodes cable) _ right in
    let apart = not-true _ (and_parts (not (cable.first.node == cable.second.node)) _ rights.0).0 in
    let free = free_ends cable cables own in
    elim (or_cases (joins a next cable) _ joined) [
      | inl here ↦ elim (or_cases ((cable.first.node == a) && (cable.second.node == next)) _ here) [
        | inl forth ↦ let ends = and_parts (cable.first.node == a) _ forth in
            by_first cable cables a next (eqb-true cable.first.node a ends.0) (eqb-true cable.second.node next ends.1)
        | inr back ↦ let ends = and_parts (cable.first.node == next) _ back in
            by_second cable cables a next apart (eqb-true cable.second.node a ends.1) (eqb-true cable.first.node next ends.0)
      ]
      | inr later ↦ by_later cable cables a next free.0 free.1 (out_by nodes cables a next rights.1 (IsDistinct-tail shares_port cable cables own) later)
    ]

-- ---- a walk
pub record Goes (nodes : List Node) (cables : List Cable) (here : PortRef) (b : ℕ) : Type 0 where
  pub numbers : List ℕ
  pub ends : List PortRef
  pub walked : walk nodes cables false here numbers ≡ Some ends
  pub arrives : (last_of here ends).node ≡ b

goes_on : (nodes : List Node) (cables : List Cable) (here : PortRef) (next b : ℕ) (out : GoesOut cables here.node next)
    → list_all (is_right nodes) cables ≡ true → is_switch_at nodes here.node ≡ true
    → Goes nodes cables out.there b → Goes nodes cables here b
goes_on nodes cables here next b out right switch rest =
    let hopped = hop_is_far_end nodes cables false here out.number right switch ∙ out.far in
    record { numbers = out.number ∷ rest.numbers; ends = out.there ∷ rest.ends; walked = rw (hopped, rest.walked) refl; arrives = rest.arrives }

goes : (plan : TopologyState) → IsSound plan → (here : PortRef) (steps : List ℕ) (b : ℕ) → is_walk plan.nodes plan.cables here.node steps b ≡ true
    → Goes (nodes_from plan.cables 0 plan.nodes) plan.cables here b
goes plan sound here [] b walks =
    record { numbers = []; ends = []; walked = refl; arrives = eqb-true here.node b (and_parts (is_planned_at plan.nodes here.node) _ walks).1 }
goes plan sound here (next ∷ steps) b walks =
    let first = and_parts (is_planned_at plan.nodes here.node) _ walks in
    let second = and_parts (list_any (λ cable. joins here.node next cable) plan.cables) _ first.1 in
    let out = out_by plan.nodes plan.cables here.node next sound.lines.joins sound.lines.own_ports second.0 in
    goes_on (nodes_from plan.cables 0 plan.nodes) plan.cables here next b out
    (all_right plan.cables plan.nodes plan.cables sound.lines.ends sound.lines.joins)
    (switch_there plan.cables plan.nodes here.node ∙ first.0)
    (goes plan sound out.there steps b (subst (λ (k : ℕ). is_walk plan.nodes plan.cables k steps b ≡ true) (sym out.node) second.1))

leads_there : (plan : TopologyState) (a b : ℕ) (way : Goes (nodes_from plan.cables 0 plan.nodes) plan.cables (port a 0) b)
    → leads (fabric_of plan) a way.numbers b ≡ true
leads_there plan a b way = rw way.walked (eq-eqb (last_of (port a 0) way.ends).node b way.arrives)

pub joined : TopologiesAreJoined
joined plan sound a b is_a is_b =
    let walks = sound.connected a b (sym (switch_there plan.cables plan.nodes a) ∙ is_a) (sym (switch_there plan.cables plan.nodes b) ∙ is_b) in
    let way = goes plan sound (port a 0) walks.0 b walks.1 in
    (way.numbers, leads_there plan a b way)
