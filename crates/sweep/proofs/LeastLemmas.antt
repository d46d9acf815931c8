-- A sweep goes by distance: a switch that is nearer than the one that is asked was found, by a path as short.
use Rattle.std.proofs.Common.{ℕ, suc, ◌+◌, ◌<◌, ◌≤◌, ◌≡◌, ◌∙◌, ◌&&◌, nat_le, ap, refl, sym, subst, Bool, true, false, if◌then◌else◌, List, [], ◌∷◌}
use Rattle.std.proofs.Common.{length, Option, Some, None, option_map, arith}
use Rattle.std.specs.Option.{option_and_then}
use Rattle.std.proofs.lemmas.Bool.{and_parts}
use Rattle.std.proofs.lemmas.Bool.Decides.{nat_tests}
use Rattle.std.proofs.lemmas.Option.{same_Some}
use Rattle.fabric_parts.specs.Cable.{far_end, last_of, port}
use Rattle.fabric_parts.specs.declared.cable.PortRef.{PortRef}
use Rattle.smp_wire.proofs.PathLemmas.{paths_begin}
use Rattle.smp_wire.specs.FabricState.{FabricState, is_port, is_switch_at}
use Rattle.smp_wire.specs.Good.{IsGood}
use Rattle.smp_wire.specs.Walk.{hands_on, hop, walk}
use Rattle.sweep.specs.Hops.{IsWithin}
use Rattle.sweep.specs.OfFabric.{Found, ports_at}
use Rattle.sweep.specs.Progress.{IsAsked, IsDiscovery, IsKnownBehind, StandsAt, is_found}
use Rattle.sweep.proofs.FoundLemmas.{found_at, found_by}

-- ---- hops
pub record Hops (fabric : FabricState) (here : PortRef) (number : ℕ) (there : PortRef) : Type 0 where
  pub switch : is_switch_at fabric.nodes here.node ≡ true
  pub is_there : is_port fabric.nodes (port here.node number) ≡ true
  pub cable : far_end fabric.cables (port here.node number) ≡ Some there

pub hops : (fabric : FabricState) (here there : PortRef) (number : ℕ) → hop fabric.nodes fabric.cables false here number ≡ Some there → Hops fabric here number there
unfolding hop
hops fabric here there number is = by (hands_on fabric.nodes false here && is_port fabric.nodes (port here.node number)) refl is
  where
    by : (b : Bool) → hands_on fabric.nodes false here && is_port fabric.nodes (port here.node number) ≡ b
        → (if b then far_end fabric.cables (port here.node number) else None) ≡ Some there → Hops fabric here number there
    by true both far = let parts = and_parts (is_switch_at fabric.nodes here.node) _ both in record { switch = parts.0; is_there = parts.1; cable = far }
    by false both far = absurd cc

-- ---- walks from switches that were found
abbrev pub IsAskedTo : FabricState → List Found → ℕ → Type 0
IsAskedTo fabric found hops = (k : ℕ) (one : Found) → StandsAt found k one → length one.path < hops → IsKnownBehind fabric found one (ports_at fabric one.node)

pub nearer : (found : List Found) (node less more : ℕ) → is_found found less node ≡ true → less ≤ more → is_found found more node ≡ true
nearer found node less more is h =
    let at = found_at found node less is in
    found_by found at.place at.one node more at.there at.node_is (omega (arith, at.near, h))

pub in_range : (fabric : FabricState) (node number : ℕ) → is_port fabric.nodes (port node number) ≡ true → (1 ≤ number) × (number ≤ ports_at fabric node)
in_range fabric node number is = let parts = and_parts (nat_le 1 number) _ is in (low parts.0, high parts.1)
  where
    low : nat_le 1 number ≡ true → 1 ≤ number
    low h = grind (arith, nat_tests, h)

    high : nat_le number (ports_at fabric node) ≡ true → number ≤ ports_at fabric node
    high h = grind (arith, nat_tests, h)

one_hop : (fabric : FabricState) (found : List Found) (deep h number : ℕ) (here there : PortRef) → IsAskedTo fabric found deep → h < deep
    → is_found found h here.node ≡ true → Hops fabric here number there → is_switch_at fabric.nodes there.node ≡ true → is_found found (h + 1) there.node ≡ true
one_hop fabric found deep h number here there asked shallow is hopped switch =
    let at = found_at found here.node h is in
    let range = in_range fabric here.node number hopped.is_there in
    let node : at.one.node ≡ here.node = at.node_is in
    nearer found there.node (length at.one.path + 1) (h + 1)
    ((asked at.place at.one at.there (omega (arith, at.near, shallow))).found_behind number there range.0
    (rw (ap (ports_at fabric) node) range.1) (ap (λ (n : ℕ). far_end fabric.cables (port n number)) node ∙ hopped.cable) switch)
    (omega (arith, at.near))

goes_by : (fabric : FabricState) (there : PortRef) (number : ℕ) (numbers : List ℕ) (some : List PortRef) (next : Option PortRef)
    → hop fabric.nodes fabric.cables false there number ≡ next
    → option_and_then (λ far. option_map (λ ends. far ∷ ends) (walk fabric.nodes fabric.cables false far numbers)) next ≡ Some some
    → is_switch_at fabric.nodes there.node ≡ true
goes_by fabric there number numbers some None hopped walked = absurd cc
goes_by fabric there number numbers some (Some far) hopped walked = (hops fabric there far number hopped).switch

-- a walk that ends at a switch goes on from one
pub goes : (fabric : FabricState) (there : PortRef) (numbers : List ℕ) (some : List PortRef) → walk fabric.nodes fabric.cables false there numbers ≡ Some some
    → is_switch_at fabric.nodes (last_of there some).node ≡ true → is_switch_at fabric.nodes there.node ≡ true
goes fabric there [] some walked switch = subst (λ (ends : List PortRef). is_switch_at fabric.nodes (last_of there ends).node ≡ true) (sym (same_Some [] some walked)) switch
goes fabric there (number ∷ numbers) some walked switch = goes_by fabric there number numbers some (hop fabric.nodes fabric.cables false there number) refl walked

abbrev pub EndsFound : FabricState → List Found → ℕ → PortRef → List PortRef → Type 0
EndsFound fabric found h here ends = is_switch_at fabric.nodes (last_of here ends).node ≡ true → is_found found h (last_of here ends).node ≡ true

on_from : (fabric : FabricState) (found : List Found) (h : ℕ) (here there : PortRef) (ends : List PortRef) (rest : Option (List PortRef))
    → ((some : List PortRef) → rest ≡ Some some → EndsFound fabric found h there some)
    → option_map (λ later. there ∷ later) rest ≡ Some ends → EndsFound fabric found h here ends
on_from fabric found h here there ends None each walked = absurd cc
on_from fabric found h here there ends (Some some) each walked =
    subst (λ (all : List PortRef). is_switch_at fabric.nodes (last_of here all).node ≡ true → is_found found h (last_of here all).node ≡ true)
    (same_Some (there ∷ some) ends walked) (each some refl)

step_from : (fabric : FabricState) (found : List Found) (h : ℕ) (here : PortRef) (numbers : List ℕ) (ends : List PortRef) (next : Option PortRef)
    → ((there : PortRef) (some : List PortRef) → next ≡ Some there → walk fabric.nodes fabric.cables false there numbers ≡ Some some → EndsFound fabric found h there some)
    → option_and_then (λ there. option_map (λ later. there ∷ later) (walk fabric.nodes fabric.cables false there numbers)) next ≡ Some ends
    → EndsFound fabric found h here ends
step_from fabric found h here numbers ends None each walked = absurd cc
step_from fabric found h here numbers ends (Some there) each walked =
    on_from fabric found h here there ends (walk fabric.nodes fabric.cables false there numbers) (λ some is. each there some refl is) walked

pub reached : (fabric : FabricState) (found : List Found) (deep h : ℕ) (here : PortRef) (numbers : List ℕ) (ends : List PortRef)
    → IsAskedTo fabric found deep → h + length numbers ≤ deep → is_found found h here.node ≡ true
    → walk fabric.nodes fabric.cables false here numbers ≡ Some ends → EndsFound fabric found (h + length numbers) here ends
reached fabric found deep h here [] ends asked shallow is walked =
    let none : ends ≡ [] = sym (same_Some [] ends walked) in
    let same : h + 0 ≡ h = omega arith in
    λ switch. rw (none, same) is
reached fabric found deep h here (number ∷ numbers) ends asked shallow is walked =
    let more : (h + 1) + length numbers ≡ h + suc (length numbers) = omega arith in
    step_from fabric found (h + suc (length numbers)) here numbers ends (hop fabric.nodes fabric.cables false here number)
    (λ there some hopped goes_on switch.
    rw (sym more) (reached fabric found deep (h + 1) there numbers some asked (omega (arith, shallow))
    (one_hop fabric found deep h number here there asked (omega (arith, shallow)) is (hops fabric here there number hopped)
    (goes fabric there numbers some goes_on switch)) goes_on switch))
    walked

-- ---- and so from the SM port
asked_to : (fabric : FabricState) (found : List Found) (i count : ℕ) (one : Found) → IsDiscovery fabric found → IsAsked fabric found i count
    → StandsAt found i one → IsAskedTo fabric found (length one.path)
asked_to fabric found i count one so_far asked here k some there near = by (nat_le i k) refl
  where
    by : (b : Bool) → nat_le i k ≡ b → IsKnownBehind fabric found some (ports_at fabric some.node)
    by false before = asked.before k some (grind (arith, nat_tests, before)) there
    by true after = absurd (omega (arith, near, so_far.sorted i k one some (grind (arith, nat_tests, after)) here there))

pub begins : (fabric : FabricState) (rest : List ℕ) (at : PortRef) (first : PortRef) (far : Option PortRef) → far ≡ Some first
    → option_map (last_of fabric.manager) (option_and_then (λ there. option_map (λ ends. there ∷ ends) (walk fabric.nodes fabric.cables false there rest)) far) ≡ Some at
    → (ends : List PortRef) × (walk fabric.nodes fabric.cables false first rest ≡ Some ends) × (last_of first ends ≡ at)
begins fabric rest at first None is ends = absurd cc
begins fabric rest at first (Some there) is ends = by (walk fabric.nodes fabric.cables false there rest) refl ends
  where
    same : there ≡ first
    same = same_Some there first is

    by : (o : Option (List PortRef)) → walk fabric.nodes fabric.cables false there rest ≡ o
        → option_map (last_of fabric.manager) (option_map (λ ends. there ∷ ends) o) ≡ Some at
        → (ends : List PortRef) × (walk fabric.nodes fabric.cables false first rest ≡ Some ends) × (last_of first ends ≡ at)
    by None walked ended = absurd cc
    by (Some some) walked ended =
        (some, ap (λ (p : PortRef). walk fabric.nodes fabric.cables false p rest) (sym same) ∙ walked, ap (λ (p : PortRef). last_of p some) (sym same) ∙ same_Some _ at ended)

pub within_found : (fabric : FabricState) (found : List Found) (deep hops node : ℕ) → IsGood fabric → IsDiscovery fabric found
    → IsAskedTo fabric found deep → IsWithin fabric hops node → hops ≤ deep → is_found found hops node ≡ true
within_found fabric found deep hops node good so_far asked is shallow =
    let from = begins fabric is.rest is.at so_far.first (far_end fabric.cables fabric.manager) so_far.first_cable
    (sym (ap (option_map (last_of fabric.manager)) (paths_begin fabric is.rest good.manager_port)) ∙ is.ends) in
    let ends : (last_of so_far.first from.0).node ≡ node = ap (λ (p : PortRef). p.node) from.2 ∙ is.node_is in
    nearer found node (1 + length is.rest) hops
    (subst (λ (n : ℕ). is_found found (1 + length is.rest) n ≡ true) ends
    (reached fabric found deep 1 so_far.first is.rest from.0 asked (omega (arith, shallow, is.short)) so_far.first_found from.1 (ap (is_switch_at fabric.nodes) ends ∙ is.switch)))
    (omega (arith, is.short))

pub least : (fabric : FabricState) (found : List Found) (i count hops node : ℕ) (one : Found) → IsGood fabric → IsDiscovery fabric found
    → IsAsked fabric found i count → StandsAt found i one → IsWithin fabric hops node → hops ≤ length one.path → is_found found hops node ≡ true
least fabric found i count hops node one good so_far asked here is shallow =
    within_found fabric found (length one.path) hops node good so_far (asked_to fabric found i count one so_far asked here) is shallow
