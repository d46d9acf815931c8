-- Ports of adapters that are met: no port twice.
use Rattle.std.proofs.Common.{ℕ, suc, ◌<◌, ◌≤◌, ◌≡◌, ◌⊎◌, inl, inr, ◌∙◌, ◌==◌, ap, refl, sym, Bool, true, false, List, [], ◌∷◌, ◌++◌, length}
use Rattle.std.proofs.Common.{slice_get, get_or, Option, Some, None, option_map, arith}
use Rattle.std.specs.List.{All, IsDistinct, list_any}
use Rattle.std.proofs.lemmas.List.{map-append}
use Rattle.std.proofs.lemmas.List.Elements.{All-push}
use Rattle.std.proofs.lemmas.Option.{same_Some, slice_get_cases, slice_get_within, slice_get-map}
use Rattle.step_results.proofs.ListLemmas.{all_have}
use Rattle.fabric_parts.specs.Cable.{far_end, is_same_port, port}
use Rattle.fabric_parts.specs.declared.cable.PortRef.{PortRef}
use Rattle.smp_wire.proofs.CableLemmas.{both_ways, far_is_port, same_port}
use Rattle.step_results.proofs.DistinctLemmas.{differ}
use Rattle.smp_wire.specs.FabricState.{FabricState, is_switch_at}
use Rattle.smp_wire.specs.Good.{IsGood}
use Rattle.sweep.specs.OfFabric.{Found, node_at, nodes_of, port_seen, ports_at}
use Rattle.sweep.specs.Progress.{AreMet, IsDiscovery, IsShownAt, Met, StandsAt, WasAsked, WasMet, ends_met}
use Rattle.sweep.specs.Seen.{seen_at}
use Rattle.sweep.specs.declared.graph.GraphPort.{GraphPort}
use Rattle.sweep.specs.declared.seen.Seen.{Seen}
use Rattle.sweep.proofs.FoundLemmas.{any_at, distinct_push, node_there, one_place}
use Rattle.sweep.proofs.ProgressLemmas.{node_of}
use Rattle.smp_wire.proofs.PresentLemmas.{present_once, present_right}

-- a port more was asked
asked_on : (found : List Found) (i count : ℕ) (at : PortRef) → WasAsked found i count at → WasAsked found i (suc count) at
asked_on found i count at was = (by was.0, was.1)
  where
    by : (at.node < i) ⊎ ((at.node ≡ i) × (at.port ≤ count)) → (at.node < i) ⊎ ((at.node ≡ i) × (at.port ≤ suc count))
    by (inl before) = inl before
    by (inr here) = inr (here.0, omega (arith, here.1))

was_met_on : (fabric : FabricState) (found : List Found) (i count : ℕ) (met : Met) → WasMet fabric found i count met
    → WasMet fabric found i (suc count) met
was_met_on fabric found i count met was = record { asked = asked_on found i count met.port.at was.asked; cable = was.cable; within = was.within }

pub met_on : (fabric : FabricState) (found : List Found) (i count : ℕ) (ports : List GraphPort) → AreMet fabric found i count ports
    → AreMet fabric found i (suc count) ports
met_on fabric found i count ports are = record {
  met = are.met;
  ports_are = are.ports_are;
  once = are.once;
  shown = are.shown;
  asked = λ k d before. was_met_on fabric found i count _ (are.asked k d before);
}

-- ---- no port is attached to two ports of switches
pub good_once : (fabric : FabricState) (a b : PortRef) → IsGood fabric → far_end fabric.cables a ≡ Some b → far_end fabric.cables b ≡ Some a
good_once fabric a b good is = both_ways fabric.cables a b (differ is_same_port _ (present_once good)) is

pub one_near_end : (fabric : FabricState) (a b there : PortRef) → IsGood fabric → far_end fabric.cables a ≡ Some there
    → far_end fabric.cables b ≡ Some there → a ≡ b
one_near_end fabric a b there good one other = same_Some a b (sym (good_once fabric a there good one) ∙ good_once fabric b there good other)

node_place : (found : List Found) (k i : ℕ) (one : Found) → IsDistinct (λ a b. a == b) (nodes_of found) → k < length found
    → StandsAt found i one → node_at found k ≡ one.node → k ≡ i
node_place found k i one once within there same = by (slice_get_cases found k).1
  where
    by : ((x : Found) × (k < length found) × (slice_get found k ≡ Some x) × (get_or found k x ≡ x)) ⊎ ((length found ≤ k) × (slice_get found k ≡ None)) → k ≡ i
    by (inl here) =
        one_place (nodes_of found) k i one.node once
        (node_there found k here.0 here.2 ∙ ap (λ (n : ℕ). Some n) (sym (node_of found k here.0 here.2) ∙ same)) (node_there found i one there)
    by (inr past) = absurd (omega (arith, past.0, within))

-- a port that is attached to a port that was not asked was not met
not_met : (fabric : FabricState) (found : List Found) (i count : ℕ) (one : Found) (there : PortRef) (met : Met) → IsGood fabric
    → IsDistinct (λ a b. a == b) (nodes_of found) → StandsAt found i one → far_end fabric.cables (port one.node (suc count)) ≡ Some there
    → WasMet fabric found i count met → is_same_port met.end there ≡ true → ⊥
not_met fabric found i count one there met good once stands cable was same =
    let end : met.end ≡ there = same_port met.end there same in
    let near : port (node_at found met.port.at.node) met.port.at.port ≡ port one.node (suc count) =
    one_near_end fabric _ _ there good (was.cable ∙ ap (λ (p : PortRef). Some p) end) cable in
    let place : met.port.at.node ≡ i = node_place found met.port.at.node i one once was.asked.1.1 stands (ap (λ (p : PortRef). p.node) near) in
    let number : met.port.at.port ≡ suc count = ap (λ (p : PortRef). p.port) near in
    by place number was.asked.0
  where
    by : met.port.at.node ≡ i → met.port.at.port ≡ suc count → (met.port.at.node < i) ⊎ ((met.port.at.node ≡ i) × (met.port.at.port ≤ count)) → ⊥
    by place number (inl before) = omega (arith, place, before)
    by place number (inr here) = omega (arith, number, here.1)

none_met : (fabric : FabricState) (found : List Found) (i count : ℕ) (one : Found) (there : PortRef) (met : List Met) → IsGood fabric
    → IsDistinct (λ a b. a == b) (nodes_of found) → StandsAt found i one → far_end fabric.cables (port one.node (suc count)) ≡ Some there
    → All (WasMet fabric found i count) met → list_any (λ end. is_same_port end there) (ends_met met) ≡ false
none_met fabric found i count one there met good once stands cable all = by (list_any (λ end. is_same_port end there) (ends_met met)) refl
  where
    by : (b : Bool) → list_any (λ end. is_same_port end there) (ends_met met) ≡ b → b ≡ false
    by false is = refl
    by true is = let at = any_at (λ end. is_same_port end there) (ends_met met) is in clash at.place at.one at.there at.passes
      where
        clash : (k : ℕ) (end : PortRef) → slice_get (ends_met met) k ≡ Some end → is_same_port end there ≡ true → true ≡ false
        clash k end at passes = from (slice_get met k) refl (sym (slice_get-map (λ (one : Met). one.end) met k) ∙ at)
          where
            from : (o : Option Met) → slice_get met k ≡ o → option_map (λ (one : Met). one.end) o ≡ Some end → true ≡ false
            from None stood is = cc
            from (Some this) stood is =
                let same : this.end ≡ end = same_Some this.end end is in
                absurd (not_met fabric found i count one there this good once stands cable (all_have (WasMet fabric found i count) met k this all stood) (rw same passes))

-- ---- one more
pub met_more : (fabric : FabricState) (found : List Found) (i count : ℕ) (one : Found) (there : PortRef) (seen : Seen) (name : List ℕ) (ports : List GraphPort)
    → IsGood fabric → IsDiscovery fabric found → StandsAt found i one → far_end fabric.cables (port one.node (suc count)) ≡ Some there
    → suc count ≤ ports_at fabric one.node → is_switch_at fabric.nodes there.node ≡ false → seen_at fabric there ≡ Some seen
    → AreMet fabric found i count ports → AreMet fabric found i (suc count) (ports ++ port_seen (port i (suc count)) name seen ∷ [])
met_more fabric found i count one there seen name ports good so_far stands cable within adapter is are =
    let new : Met = record { end = there; port = port_seen (port i (suc count)) name seen } in
    let here : node_at found i ≡ one.node = node_of found i one stands in
    let inside : i < length found = slice_get_within found i one stands in
    record {
      met = are.met ++ new ∷ [];
      ports_are = ap (λ (some : List GraphPort). some ++ port_seen (port i (suc count)) name seen ∷ []) are.ports_are
          ∙ sym (map-append (λ (one : Met). one.port) are.met (new ∷ []));
      once = rw (map-append (λ (one : Met). one.end) are.met (new ∷ []))
          (distinct_push is_same_port (ends_met are.met) there are.once (none_met fabric found i count one there are.met good so_far.once stands cable are.asked));
      shown = All-push (IsShownAt fabric) are.met new are.shown
          (record {
            seen = seen;
            is = is;
            node_guid = refl;
            port_guid = refl;
            number = refl;
            count = refl;
            adapter = adapter;
            there = far_is_port fabric.nodes fabric.cables (port one.node (suc count)) there (present_right good) cable;
          });
      asked = All-push (WasMet fabric found i (suc count)) are.met new (λ k d before. was_met_on fabric found i count _ (are.asked k d before))
          (record {
            asked = (inr (refl, omega arith), (omega arith, inside));
            cable = rw here cable;
            within = rw here within;
          });
    }
