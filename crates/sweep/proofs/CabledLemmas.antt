-- Whether a port has a cable, and where the cable and a path over it lead.
use Rattle.std.proofs.Common.{ℕ, ◌≡◌, ◌∙◌, ◌&&◌, ◌||◌, ◌==◌, ap, refl, sym, Bool, true, false, if◌then◌else◌, List, [], ◌∷◌, ◌++◌, find, length, Option, Some, None, option_map}
use Rattle.std.specs.List.{list_any}
use Rattle.std.specs.Option.{option_and_then}
use Rattle.std.proofs.lemmas.Bool.{and_from, false≢true}
use Rattle.fabric_parts.specs.Cable.{ends_at, far_end, is_cabled, other_end, port}
use Rattle.fabric_parts.specs.declared.cable.Cable.{Cable}
use Rattle.fabric_parts.specs.declared.cable.PortRef.{PortRef}
use Rattle.smp_wire.proofs.PathLemmas.{paths_go_on}
use Rattle.smp_wire.specs.FabricState.{FabricState, is_port, is_switch_at}
use Rattle.smp_wire.specs.Walk.{end_of, hands_on, hop}

found_by : {X : Type 0} (p : X → Bool) (x : X) (xs : List X) (b : Bool) → p x ≡ b → b || list_any p xs ≡ true
    → (list_any p xs ≡ true → (y : X) × (find p xs ≡ Some y) × (p y ≡ true)) → (y : X) × ((if b then Some x else find p xs) ≡ Some y) × (p y ≡ true)
found_by p x xs true is any later = (x, refl, is)
found_by p x xs false is any later = later any

pub any_found : {X : Type 0} (p : X → Bool) (xs : List X) → list_any p xs ≡ true → (x : X) × (find p xs ≡ Some x) × (p x ≡ true)
any_found p [] any = absurd (false≢true any)
any_found p (x ∷ xs) any = found_by p x xs (p x) refl any (λ later. any_found p xs later)

find_none : {X : Type 0} (p : X → Bool) (xs : List X) → list_any p xs ≡ false → find p xs ≡ None
find_none p [] none = refl
find_none p (x ∷ xs) none = by (p x) refl (λ later. find_none p xs later)
  where
    by : (b : Bool) → p x ≡ b → (list_any p xs ≡ false → find p xs ≡ None) → find p (x ∷ xs) ≡ None
    by true is rest = absurd (false≢true (sym (ap (λ (b : Bool). b || list_any p xs) (sym is) ∙ none)))
    by false is rest = rw is (rest (ap (λ (b : Bool). b || list_any p xs) (sym is) ∙ none))

-- ---- a port with a cable has a far end, and one without has none
pub far_of : (cables : List Cable) (at : PortRef) → is_cabled cables at ≡ true → (there : PortRef) × (far_end cables at ≡ Some there)
far_of cables at cabled =
    let cable = any_found (λ cable. ends_at at cable) cables cabled in
    (other_end at cable.0, ap (option_map (other_end at)) cable.1)

pub far_none : (cables : List Cable) (at : PortRef) → is_cabled cables at ≡ false → far_end cables at ≡ None
far_none cables at none = ap (option_map (other_end at)) (find_none (λ cable. ends_at at cable) cables none)

pub cabled_of : (cables : List Cable) (at there : PortRef) → far_end cables at ≡ Some there → is_cabled cables at ≡ true
cabled_of cables at there far = by (is_cabled cables at) refl
  where
    none_some : {X : Type 0} (o : Option X) (x : X) → o ≡ None → o ≡ Some x → ⊥
    none_some None x none some = absurd cc
    none_some (Some y) x none some = absurd cc

    by : (b : Bool) → is_cabled cables at ≡ b → b ≡ true
    by true is = refl
    by false is = absurd (none_some (far_end cables at) there (far_none cables at is) far)

-- ---- a path goes on over the cable of a switch's port
pub hops_over : (fabric : FabricState) (at there : PortRef) (number : ℕ) (b : Bool) → is_switch_at fabric.nodes at.node ≡ true
    → is_port fabric.nodes (port at.node number) ≡ true → far_end fabric.cables (port at.node number) ≡ Some there
    → hop fabric.nodes fabric.cables b at number ≡ Some there
unfolding hop
hops_over fabric at there number b switch is_there far = by (hands_on fabric.nodes b at && is_port fabric.nodes (port at.node number)) (and_from _ _ (hands b) is_there)
  where
    hands : (b : Bool) → hands_on fabric.nodes b at ≡ true
    hands true = refl
    hands false = switch

    by : (c : Bool) → c ≡ true → (if c then far_end fabric.cables (port at.node number) else None) ≡ Some there
    by true is = far
    by false is = absurd (false≢true is)

pub end_more : (fabric : FabricState) (path : List ℕ) (at there : PortRef) (number : ℕ) → end_of fabric path ≡ Some at
    → is_switch_at fabric.nodes at.node ≡ true → is_port fabric.nodes (port at.node number) ≡ true
    → far_end fabric.cables (port at.node number) ≡ Some there → end_of fabric (path ++ number ∷ []) ≡ Some there
end_more fabric path at there number ends switch is_there far =
    paths_go_on fabric path number
    ∙ ap (λ (o : Option PortRef). option_and_then (λ here. hop fabric.nodes fabric.cables (length path == 0) here number) o) ends
    ∙ hops_over fabric at there number (length path == 0) switch is_there far
