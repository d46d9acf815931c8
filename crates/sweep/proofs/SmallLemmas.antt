-- The fabric of a graph is not too big for one.
use Rattle.std.proofs.Common.{ℕ, ◌-◌, ◌<◌, ◌≤◌, ◌≡◌, ◌∙◌, ◌==◌, ◌&&◌, inl, inr, ap, refl, sym, not, nat_le, nat_eq, Bool, true, false, List, map, length, slice_get, get_or}
use Rattle.std.proofs.Common.{◌⊎◌, Option, Some, None, option_map, if◌then◌else◌, arith}
use Rattle.std.specs.Cmp.{IsEquivalence}
use Rattle.std.specs.List.{IsDistinct, list_all, list_any}
use Rattle.std.specs.Option.{option_map_or, unwrap_or}
use Rattle.std.proofs.lemmas.Bool.{and_parts, eqb-true, false≢true, leb-true, not-true}
use Rattle.std.proofs.lemmas.Cmp.{nat_eq_equiv}
use Rattle.std.proofs.lemmas.List.{length-map}
use Rattle.std.proofs.lemmas.Map.Made.{length-le_from_is_member}
use Rattle.std.proofs.lemmas.Option.{slice_get_cases, slice_get-map}
use Rattle.fabric_parts.specs.Cable.{far_end, is_same_port, port}
use Rattle.fabric_parts.specs.declared.cable.PortRef.{PortRef}
use Rattle.port_model.specs.AdapterState.{AdapterState}
use Rattle.step_results.proofs.ListLemmas.{all_there}
use Rattle.smp_wire.proofs.CableLemmas.{cabled_is_port, itself, same_port}
use Rattle.smp_wire.proofs.PresentLemmas.{present_right}
use Rattle.smp_wire.specs.FabricState.{FabricState, is_port, is_switch, is_switch_at, port_count}
use Rattle.smp_wire.specs.Good.{IsGood}
use Rattle.smp_wire.specs.declared.node.Node.{Node}
use Rattle.smp_wire.specs.declared.node.Node.TheVariants.{Switch, Adapter}
use Rattle.sweep.specs.Graph.{GraphState, IsGraph}
use Rattle.sweep.specs.Limits.{IsTooBig, is_adapter_port}
use Rattle.sweep.specs.OfFabric.{Found, IsLayoutOf, all_ports, is_among, node_at, nodes_of, switch_of}
use Rattle.sweep.specs.declared.graph.GraphPort.{GraphPort}
use Rattle.sweep.proofs.CabledLemmas.{far_of}
use Rattle.sweep.proofs.EndPortLemmas.{AdapterAt, attached, stands}
use Rattle.sweep.proofs.FoundLemmas.{any_at, any_by}

-- ---- switches
few_switches : (fabric : FabricState) (found : List Found) (some : List ℕ) → ((node : ℕ) → is_among (nodes_of found) node ≡ is_switch_at fabric.nodes node)
    → IsDistinct nat_eq some → list_all (is_switch_at fabric.nodes) some ≡ true → length some ≤ length (nodes_of found)
few_switches fabric found some all once are =
    length-le_from_is_member nat_eq_equiv some (nodes_of found) once (λ node among. there node among)
  where
    there : (node : ℕ) → list_any (nat_eq node) some ≡ true → list_any (nat_eq node) (nodes_of found) ≡ true
    there node among =
        let one = any_at (nat_eq node) some among in
        let same : node ≡ one.one = eqb-true node one.one one.passes in
        let switch = ap (is_switch_at fabric.nodes) same ∙ all_there (is_switch_at fabric.nodes) some one.place one.one are one.there in
        let stood = any_at (λ one. one == node) (nodes_of found) (all node ∙ switch) in
        any_by (nat_eq node) (nodes_of found) stood.place stood.one stood.there (nat_eq_equiv.symm node stood.one ∙ stood.passes)

-- ---- ports of adapters
-- a port of an adapter is held there
pub held_at : (fabric : FabricState) (at : PortRef) → is_switch_at fabric.nodes at.node ≡ false → is_port fabric.nodes at ≡ true → AdapterAt fabric at
held_at fabric at adapter is = by (slice_get fabric.nodes at.node) refl adapter is
  where
    by_number : (ports : List AdapterState) (zero_port : Bool) → slice_get fabric.nodes at.node ≡ Some (Adapter ports) → (at.port == 0) ≡ zero_port
        → 1 ≤ at.port → at.port ≤ length ports → AdapterAt fabric at
    by_number ports true node zero_port low high = absurd (omega (arith, eqb-true at.port 0 zero_port, low))
    by_number ports false node zero_port low high = from (slice_get_cases ports (at.port - 1)).1
      where
        from : ((x : AdapterState) × (at.port - 1 < length ports) × (slice_get ports (at.port - 1) ≡ Some x) × (get_or ports (at.port - 1) x ≡ x))
            ⊎ ((length ports ≤ at.port - 1) × (slice_get ports (at.port - 1) ≡ None)) → AdapterAt fabric at
        from (inl here) = record {
          ports = ports;
          one = here.0;
          node = node;
          held = ap (λ (b : Bool). if b then None else slice_get ports (at.port - 1)) zero_port ∙ here.2;
        }
        from (inr past) = absurd (omega (arith, past.0, low, high))

    by : (o : Option Node) → slice_get fabric.nodes at.node ≡ o → option_map_or is_switch o false ≡ false
        → nat_le 1 at.port && nat_le at.port (option_map_or port_count o 0) ≡ true → AdapterAt fabric at
    by None node kind range = absurd (omega (arith, leb-true 1 at.port (and_parts (nat_le 1 at.port) _ range).0, leb-true at.port 0 (and_parts (nat_le 1 at.port) _ range).1))
    by (Some (Switch held)) node kind range = absurd (false≢true (sym kind))
    by (Some (Adapter ports)) node kind range =
        by_number ports (at.port == 0) node refl (leb-true 1 at.port (and_parts (nat_le 1 at.port) _ range).0)
        (leb-true at.port (length ports) (and_parts (nat_le 1 at.port) _ range).1)

-- the port of an adapter that is attached where the graph says
abbrev end_there : FabricState → List Found → GraphPort → PortRef
end_there fabric found one = unwrap_or (far_end fabric.cables (port (node_at found one.at.node) one.at.port)) one.at

few_ports : (fabric : FabricState) (found : List Found) (some : List PortRef) → IsGood fabric
    → ((node : ℕ) → is_among (nodes_of found) node ≡ is_switch_at fabric.nodes node) → IsDistinct is_same_port some
    → list_all (is_adapter_port fabric) some ≡ true → length some ≤ length (map (end_there fabric found) (all_ports fabric found))
few_ports fabric found some good all once are =
    length-le_from_is_member same_ports some (map (end_there fabric found) (all_ports fabric found)) once (λ at among. there at among)
  where
    same_ports : IsEquivalence is_same_port
    same_ports = record {
      refl = itself;
      symm = λ a b. rw (nat_eq_equiv.symm a.node b.node, nat_eq_equiv.symm a.port b.port) refl;
      congr = λ a b c same. ap (λ (p : PortRef). is_same_port p c) (same_port a b same);
    }

    there : (at : PortRef) → list_any (is_same_port at) some ≡ true
        → list_any (is_same_port at) (map (end_there fabric found) (all_ports fabric found)) ≡ true
    there at among =
        let one = any_at (is_same_port at) some among in
        let same : at ≡ one.one = same_port at one.one one.passes in
        let kind = ap (is_adapter_port fabric) same ∙ all_there (is_adapter_port fabric) some one.place one.one are one.there in
        let parts = and_parts (not (is_switch_at fabric.nodes at.node)) _ kind in
        let adapter = not-true _ parts.0 in
        let far = far_of fabric.cables at parts.1 in
        let is = cabled_is_port fabric.nodes fabric.cables at far.0 (present_right good) far.1 in
        let hung = attached fabric found at good all adapter parts.1 (held_at fabric at adapter is) in
        let stood = stands (all_ports fabric found) _ hung.among in
        any_by (is_same_port at) (map (end_there fabric found) (all_ports fabric found)) stood.0 at
        (slice_get-map (end_there fabric found) (all_ports fabric found) stood.0 ∙ ap (option_map (end_there fabric found)) stood.1
        ∙ ap (λ (o : Option PortRef). Some (unwrap_or o (port hung.place hung.number))) hung.home) (itself at)

pub not_too_big : (fabric : FabricState) (graph : GraphState) → IsGood fabric → IsGraph graph → IsLayoutOf graph fabric → IsTooBig fabric → ⊥
not_too_big fabric graph good is of (inl over) =
    let few = few_switches fabric of.found over.some of.all over.once over.are in
    let long = length-map of.found (λ (one : Found). one.node) in
    let switches = ap (λ (some : List _). length some) of.switches ∙ length-map of.found (switch_of fabric) in
    omega (arith, over.many, few, long, switches, is.few_switches)
not_too_big fabric graph good is of (inr over) =
    let few = few_ports fabric of.found over.some good of.all over.once over.are in
    let long = length-map (all_ports fabric of.found) (end_there fabric of.found) in
    let ports = ap (λ (some : List GraphPort). length some) of.ports in
    omega (arith, over.many, few, long, ports, is.few_ports)
