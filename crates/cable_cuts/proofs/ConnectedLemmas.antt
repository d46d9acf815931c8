-- Where cables join the switches of a topology's fabric, they join those of the topology.
use Rattle.std.proofs.Common.{◌≡◌, ℕ, Bool, true, false, cond, ◌==◌, ◌&&◌, ◌∙◌, List, [], ◌∷◌, ap, refl, sym, subst, Option, Some, None, option_map}
use Rattle.std.specs.List.{list_any}
use Rattle.std.specs.Option.{option_and_then, option_map_or}
use Rattle.std.proofs.Math.Bool.{or-true}
use Rattle.std.proofs.lemmas.Bool.{and_from, eq-eqb, eqb-true, false≢true}
use Rattle.std.proofs.lemmas.Option.{none-some, same_Some}
use Rattle.fabric_parts.specs.Cable.{far_end, is_same_port, last_of, port}
use Rattle.fabric_parts.specs.declared.cable.Cable.{Cable}
use Rattle.fabric_parts.specs.declared.cable.PortRef.{PortRef}
use Rattle.fabric_wire.proofs.OfTopologyLemmas.{switch_there}
use Rattle.fabric_wire.specs.OfTopology.{fabric_of}
use Rattle.smp_wire.proofs.CableLemmas.{far_end_before, same_port}
use Rattle.smp_wire.specs.FabricState.{FabricState, is_port, is_switch_at}
use Rattle.smp_wire.specs.Good.{SwitchesJoined}
use Rattle.smp_wire.specs.Walk.{hop, walk}
use Rattle.topo_file.proofs.WalkLemmas.{if_joined}
use Rattle.topo_file.specs.Connectivity.{AllJoined, Joined, is_connected, joins}
use Rattle.topo_file.specs.Node.{is_switch_at as is_planned_at}
use Rattle.topo_file.specs.Topology.{TopologyState}

-- the cable of a port joins its node and the one where it leads
far_joins : (cables : List Cable) (at there : PortRef) → far_end cables at ≡ Some there → list_any (λ cable. joins at.node there.node cable) cables ≡ true
far_joins [] at there far = absurd (none-some there far)
far_joins (cable ∷ cables) at there far =
    by (is_same_port cable.first at) refl (is_same_port cable.second at) refl (far_end_before cable cables at ∙ far) (λ is. far_joins cables at there is)
  where
    ends : (one two from to : PortRef) → one ≡ from → two ≡ to → ((one.node == from.node) && (two.node == to.node)) ≡ true
    ends one two from to is is_too =
        and_from _ _ (eq-eqb one.node from.node (ap (λ (p : PortRef). p.node) is)) (eq-eqb two.node to.node (ap (λ (p : PortRef). p.node) is_too))

    by : (first : Bool) → is_same_port cable.first at ≡ first → (second : Bool) → is_same_port cable.second at ≡ second
        → cond first (Some cable.second) (cond second (Some cable.first) (far_end cables at)) ≡ Some there
        → (far_end cables at ≡ Some there → list_any (λ cable. joins at.node there.node cable) cables ≡ true)
        → list_any (λ cable. joins at.node there.node cable) (cable ∷ cables) ≡ true
    by true first second other is later =
        rw (ends cable.first cable.second at there (same_port cable.first at first) (same_Some cable.second there is)) refl
    by false first true second is later =
        rw (ends cable.first cable.second there at (same_Some cable.first there is) (same_port cable.second at second), or-true ((cable.first.node == at.node) && (cable.second.node == there.node))) refl
    by false first false second is later = rw (later is) (or-true (joins at.node there.node cable))

module _ (plan : TopologyState) where
  abbrev fabric : FabricState
  fabric = fabric_of plan

  planned : (node : ℕ) → is_switch_at fabric.nodes node ≡ true → is_planned_at plan.nodes node ≡ true
  planned node switch = sym (switch_there plan.cables plan.nodes node) ∙ switch

  -- a hop goes out of a switch, over a cable
  hopped : (here there : PortRef) (number : ℕ) → hop fabric.nodes fabric.cables false here number ≡ Some there
      → (is_switch_at fabric.nodes here.node ≡ true) × (far_end fabric.cables (port here.node number) ≡ Some there)
  unfolding hop
  hopped here there number is = by (is_switch_at fabric.nodes here.node) refl (is_port fabric.nodes (port here.node number)) is
    where
      by : (b : Bool) → is_switch_at fabric.nodes here.node ≡ b → (c : Bool)
          → cond (b && c) (far_end fabric.cables (port here.node number)) None ≡ Some there
          → (is_switch_at fabric.nodes here.node ≡ true) × (far_end fabric.cables (port here.node number) ≡ Some there)
      by true switch true goes = (switch, goes)
      by true switch false goes = absurd (none-some there goes)
      by false switch c goes = absurd (none-some there goes)

  abbrev Later : List ℕ → Type 0
  Later numbers = (there : PortRef) (more : List PortRef) → walk fabric.nodes fabric.cables false there numbers ≡ Some more
      → is_switch_at fabric.nodes (last_of there more).node ≡ true → Joined plan.nodes plan.cables there.node (last_of there more).node

  walked : (here : PortRef) (numbers : List ℕ) (ends : List PortRef) → walk fabric.nodes fabric.cables false here numbers ≡ Some ends
      → is_switch_at fabric.nodes (last_of here ends).node ≡ true → Joined plan.nodes plan.cables here.node (last_of here ends).node
  walked here [] ends is switch =
      let none : [] ≡ ends = same_Some [] ends is in
      let at : is_planned_at plan.nodes here.node ≡ true = planned here.node (ap (λ (ends : List PortRef). is_switch_at fabric.nodes (last_of here ends).node) none ∙ switch) in
      subst (λ (ends : List PortRef). Joined plan.nodes plan.cables here.node (last_of here ends).node) none
      ([], and_from _ _ at (eq-eqb here.node here.node refl))
  walked here (number ∷ numbers) ends is switch =
      by (hop fabric.nodes fabric.cables false here number) refl is (λ there more rest switch. walked there numbers more rest switch)
    where
      on : (there : PortRef) → hop fabric.nodes fabric.cables false here number ≡ Some there
          → (o : Option (List PortRef)) → walk fabric.nodes fabric.cables false there numbers ≡ o
          → option_map (λ ends. there ∷ ends) o ≡ Some ends → Later numbers → Joined plan.nodes plan.cables here.node (last_of here ends).node
      on there goes None rest is later = absurd (none-some ends is)
      on there goes (Some more) rest is later =
          let same : there ∷ more ≡ ends = same_Some (there ∷ more) ends is in
          let one = hopped here there number goes in
          let way = later there more rest (ap (λ (ends : List PortRef). is_switch_at fabric.nodes (last_of here ends).node) same ∙ switch) in
          subst (λ (ends : List PortRef). Joined plan.nodes plan.cables here.node (last_of here ends).node) same
          (there.node ∷ way.0, and_from _ _ (planned here.node one.0) (and_from _ _ (far_joins plan.cables (port here.node number) there one.1) way.1))

      by : (o : Option PortRef) → hop fabric.nodes fabric.cables false here number ≡ o
          → option_and_then (λ there. option_map (λ ends. there ∷ ends) (walk fabric.nodes fabric.cables false there numbers)) o ≡ Some ends → Later numbers
          → Joined plan.nodes plan.cables here.node (last_of here ends).node
      by None goes is later = absurd (none-some ends is)
      by (Some there) goes is later = on there goes (walk fabric.nodes fabric.cables false there numbers) refl is later

  all_joined : SwitchesJoined fabric → AllJoined plan.nodes plan.cables
  all_joined each a b is is_too =
      let way = each a b (switch_there plan.cables plan.nodes a ∙ is) (switch_there plan.cables plan.nodes b ∙ is_too) in
      by way.0 (walk fabric.nodes fabric.cables false (port a 0) way.0) refl way.1
    where
      by : (numbers : List ℕ) (o : Option (List PortRef)) → walk fabric.nodes fabric.cables false (port a 0) numbers ≡ o
          → option_map_or (λ ends. (last_of (port a 0) ends).node == b) o false ≡ true → Joined plan.nodes plan.cables a b
      by numbers None walks is = absurd (false≢true is)
      by numbers (Some ends) walks is =
          let end : (last_of (port a 0) ends).node ≡ b = eqb-true _ b is in
          subst (Joined plan.nodes plan.cables a) end
          (walked (port a 0) numbers ends walks (ap (is_switch_at fabric.nodes) end ∙ switch_there plan.cables plan.nodes b ∙ is_too))

  pub is_connected_then : SwitchesJoined fabric → is_connected plan.nodes plan.cables ≡ true
  is_connected_then each = if_joined plan.nodes plan.cables (all_joined each)
