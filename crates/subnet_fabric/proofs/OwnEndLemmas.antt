-- No two end ports of a topology have one GUID.
use Rattle.std.proofs.Common.{ℕ, zero, suc, ◌≡◌, ◌∙◌, ap, refl, sym, Bool, true, false, List, [], ◌∷◌, slice_get, Some}
use Rattle.std.specs.List.{AllByRecursion, IsDistinct}
use Rattle.std.proofs.lemmas.Bool.{eq-eqb, false≢true}
use Rattle.std.proofs.lemmas.List.Elements.{All-from_recursion}
use Rattle.std.proofs.lemmas.Map.Keys.{IsDistinct-head, IsDistinct-tail}
use Rattle.std.proofs.lemmas.Option.{none-some, same_Some}
use Rattle.fabric_parts.specs.Cable.{is_same_port}
use Rattle.fabric_parts.specs.declared.cable.PortRef.{PortRef}
use Rattle.pkey_rules.specs.declared.end_port.EndPort.{EndPort}
use Rattle.step_results.proofs.ListLemmas.{all_have}
use Rattle.smp_wire.proofs.CableLemmas.{same_port}
use Rattle.sweep.proofs.FoundLemmas.{any_at}
use Rattle.topo_file.specs.Node.{port_guid_at}
use Rattle.topo_file.specs.Sound.{IsSound}
use Rattle.topo_file.specs.Topology.{TopologyState}
use Rattle.subnet_fabric.proofs.EndPortLemmas.{of_sound}
use Rattle.subnet_fabric.proofs.EndPlaceLemmas.{IsEndPlace, one_guid, place_of}
use Rattle.subnet_fabric.specs.EndPorts.{is_end_port}
use Rattle.subnet_fabric.specs.Ports.{end_places}
use Rattle.subnet_fabric.specs.declared.end_ports.EndPlace.{EndPlace}

-- what is so of each is so of one of them
all_at : {X : Type 0} (P : X → Type 0) (xs : List X) (k : ℕ) (x : X) → AllByRecursion P xs → slice_get xs k ≡ Some x → P x
all_at P xs k x each there = all_have P xs k x (All-from_recursion P xs each) there

-- of a list of which no two are the same, two that are the same stand at one place
one_place : {X : Type 0} (same : X → X → Bool) (xs : List X) (i j : ℕ) (x y : X) → IsDistinct same xs → slice_get xs i ≡ Some x
    → slice_get xs j ≡ Some y → same x y ≡ true → same y x ≡ true → i ≡ j
one_place same [] i j x y own here there to fro = absurd (none-some x here)
one_place same (z ∷ xs) zero zero x y own here there to fro = refl
one_place same (z ∷ xs) zero (suc j) x y own here there to fro =
    let apart = all_at (λ other. same z other ≡ false) xs j y (IsDistinct-head same z xs own) there in
    absurd (false≢true (sym apart ∙ ap (λ z. same z y) (same_Some z x here) ∙ to))
one_place same (z ∷ xs) (suc i) zero x y own here there to fro =
    let apart = all_at (λ other. same z other ≡ false) xs i x (IsDistinct-head same z xs own) here in
    absurd (false≢true (sym apart ∙ ap (λ z. same z x) (same_Some z y there) ∙ fro))
one_place same (z ∷ xs) (suc i) (suc j) x y own here there to fro = ap suc (one_place same xs i j x y (IsDistinct-tail same z xs own) here there to fro)

-- the end_place of an end port
record IsEndPlaceOf (plan : TopologyState) (at : PortRef) : Type 0 where
  place : ℕ
  end_place : EndPlace
  there : slice_get (end_places plan) place ≡ Some end_place
  is : place_of end_place ≡ at
  guid : end_place.port.guid ≡ port_guid_at plan.nodes at

end_place_of : (plan : TopologyState) (at : PortRef) → IsSound plan → is_end_port plan at ≡ true → IsEndPlaceOf plan at
end_place_of plan at sound there =
    let are = of_sound plan sound in
    let found = any_at (λ end_place. is_same_port (place_of end_place) at) (end_places plan) (are.all at there) in
    let is = same_port (place_of found.one) at found.passes in
    let end_place = all_at (IsEndPlace plan) (end_places plan) found.place found.one are.each found.there in
    record {
      place = found.place;
      end_place = found.one;
      there = found.there;
      is = is;
      guid = ap (λ (port : EndPort). port.guid) end_place.port ∙ ap (port_guid_at plan.nodes) is;
    }

pub one_end : (plan : TopologyState) (a b : PortRef) → IsSound plan → is_end_port plan a ≡ true → is_end_port plan b ≡ true
    → port_guid_at plan.nodes a ≡ port_guid_at plan.nodes b → a ≡ b
one_end plan a b sound here there same =
    let one = end_place_of plan a sound here in
    let other = end_place_of plan b sound there in
    let guid : one.end_place.port.guid ≡ other.end_place.port.guid = one.guid ∙ same ∙ sym other.guid in
    let place =
    one_place one_guid (end_places plan) one.place other.place one.end_place other.end_place (of_sound plan sound).own one.there other.there
    (eq-eqb one.end_place.port.guid other.end_place.port.guid guid) (eq-eqb other.end_place.port.guid one.end_place.port.guid (sym guid)) in
    let end_place = same_Some one.end_place other.end_place (sym one.there ∙ ap (slice_get (end_places plan)) place ∙ other.there) in
    sym one.is ∙ ap place_of end_place ∙ other.is
