-- In a good fabric a cable leads back to where it came from, so that a walk leads home.
use Rattle.std.proofs.Common.{ℕ, zero, suc, ◌≡◌, ◌+◌, ◌<◌, ◌≤◌, ◌==◌, ◌∙◌, ◌&&◌, ◌||◌, nat_le, ap, refl, sym, Bool, true, false, if◌then◌else◌, List}
use Rattle.std.proofs.Common.{[], ◌∷◌, flat_map, length, Option, Some, None, option_map, arith, add-one}
use Rattle.std.specs.List.{list_all}
use Rattle.std.specs.Option.{option_and_then, option_map_or}
use Rattle.std.proofs.lemmas.Bool.{and_from, and_parts}
use Rattle.std.proofs.lemmas.Bool.Decides.{nat_tests}
use Rattle.std.proofs.lemmas.List.{get_or-set_other, get_or-set_same, length-set}
use Rattle.std.proofs.lemmas.Option.{same_Some}
use Rattle.smp_route.specs.HopFields.{return_port, with_return_port}
use Rattle.fabric_parts.specs.declared.cable.Cable.{Cable}
use Rattle.fabric_parts.specs.declared.cable.PortRef.{PortRef}
use Rattle.fabric_parts.specs.Cable.{far_end, is_same_port, last_of}
use Rattle.smp_wire.specs.declared.node.Node.{Node}
use Rattle.smp_wire.specs.FabricState.{is_port, is_switch_at}
use Rattle.smp_wire.specs.Good.{ends_of, is_right}
use Rattle.fabric_wire.specs.Hopping.{leads_home}
use Rattle.smp_wire.specs.Walk.{hands_on, hop, walk, with_return_ports}
use Rattle.smp_wire.proofs.CableLemmas.{both_ways, far_ends_meet}
use Rattle.step_results.proofs.DistinctLemmas.{all_differ}

-- ---- ports of cables count from 1
abbrev pub AreNumbered : PortRef → PortRef → Type 0
AreNumbered a b = ((a.port == 0) ≡ false) × ((b.port == 0) ≡ false)

from_1 : (n : ℕ) → nat_le 1 n ≡ true → (n == 0) ≡ false
from_1 n h = grind (arith, nat_tests, h)

port_numbered : (nodes : List Node) (at : PortRef) → is_port nodes at ≡ true → (at.port == 0) ≡ false
port_numbered nodes at h = from_1 at.port (and_parts (nat_le 1 at.port) _ h).0

ends_numbered : (nodes : List Node) (cable : Cable) → is_right nodes cable ≡ true
    → AreNumbered cable.first cable.second × AreNumbered cable.second cable.first
ends_numbered nodes cable right =
    let one = and_parts (is_port nodes cable.first) _ right in
    let two = and_parts (is_port nodes cable.second) _ one.1 in
    let first = port_numbered nodes cable.first one.0 in
    let second = port_numbered nodes cable.second two.0 in
    ((first, second), (second, first))

pub numbered : (nodes : List Node) (cables : List Cable) (a b : PortRef) → list_all (is_right nodes) cables ≡ true
    → far_end cables a ≡ Some b → AreNumbered a b
numbered nodes cables a b right is = far_ends_meet AreNumbered (is_right nodes) (ends_numbered nodes) cables a b right is

-- ---- home
-- two ways home that lead alike from every node, over nodes of the same kinds
pub leads_by : (left : ℕ) (old new : List Node) (one other : ℕ → Bool) (found : Option PortRef)
    → ((place : ℕ) → is_switch_at new place ≡ is_switch_at old place) → ((node : ℕ) → one node ≡ other node)
    → option_map_or (λ there. ((left == 0) || is_switch_at new there.node) && one there.node) found
    false ≡ option_map_or (λ there. ((left == 0) || is_switch_at old there.node) && other there.node) found
    false
leads_by left old new one other None switches same = refl
leads_by left old new one other (Some there) switches same = rw (switches there.node, same there.node) refl

-- the way home goes by the ports of the return path, and by nothing else of the SMP
pub leads_alike : (nodes : List Node) (cables : List Cable) (manager : ℕ) (one other : List ℕ) (left node : ℕ)
    → ((k : ℕ) → 1 ≤ k → k ≤ left → return_port one k ≡ return_port other k)
    → leads_home nodes cables manager one left node ≡ leads_home nodes cables manager other left node
leads_alike nodes cables manager one other zero node same = refl
leads_alike nodes cables manager one other (suc left) node same =
    rw (same (suc left) (omega arith) (omega arith))
    (leads_by left nodes nodes (leads_home nodes cables manager one left)
    (leads_home nodes cables manager other left) _ (λ place. refl)
    (λ there. leads_alike nodes cables manager one other left there
    (λ k from to. same k from (omega (arith, to)))))

-- as it is when it arrives by a cable
hop_parts : (b : Bool) (found : Option PortRef) (there : PortRef) → (if b then found else None) ≡ Some there → (b ≡ true) × (found ≡ Some there)
hop_parts true found there is = (refl, is)
hop_parts false found there is = cc

pub home_on : (nodes : List Node) (cables : List Cable) (manager : ℕ) (starts : Bool) (here there : PortRef) (number hops : ℕ) (smp : List ℕ)
    → all_differ is_same_port (flat_map ends_of cables) ≡ true → starts ≡ (hops == 0) → hops < 63 → length smp ≡ 256
    → hop nodes cables starts here number ≡ Some there → leads_home nodes cables manager smp hops here.node ≡ true
    → leads_home nodes cables manager (with_return_port (suc hops) there.port smp) (suc hops) there.node ≡ true
unfolding hop
home_on nodes cables manager starts here there number hops smp once begins few long is home =
    let out : PortRef = record { node = here.node; port = number } in
    let parts = hop_parts (hands_on nodes starts here && is_port nodes out) _ there is in
    let hands = (and_parts (hands_on nodes starts here) (is_port nodes out) parts.0).0 in
    let back = both_ways cables out there once parts.1 in
    let next = with_return_port (suc hops) there.port smp in
    let entry : return_port next (suc hops) ≡ there.port = get_or-set_same smp (192 + suc hops) there.port 0 (omega (arith, few, long)) in
    let rest : leads_home nodes cables manager next hops here.node ≡ true =
    leads_alike nodes cables manager next smp hops here.node (λ k from to. get_or-set_other smp (192 + suc hops) (192 + k) there.port 0 (λ e. omega (arith, to, e))) ∙ home in
    rw (entry, back) (and_from ((hops == 0) || is_switch_at nodes here.node) _ (ap (λ (b : Bool). b || is_switch_at nodes here.node) (sym begins) ∙ hands) rest)

-- ---- the whole walk
abbrev LeadsFrom : List Node → List Cable → ℕ → ℕ → List ℕ → PortRef → List PortRef → Type 0
LeadsFrom nodes cables manager hops smp here ends = leads_home nodes cables manager (with_return_ports (suc hops) ends smp) (hops + length ends) (last_of here ends).node ≡ true

led_on : (nodes : List Node) (cables : List Cable) (manager hops : ℕ) (smp : List ℕ) (here there : PortRef) (ends : List PortRef) (rest : Option (List PortRef))
    → ((some : List PortRef) → rest ≡ Some some → LeadsFrom nodes cables manager (suc hops) (with_return_port (suc hops) there.port smp) there some)
    → option_map (λ later. there ∷ later) rest ≡ Some ends → LeadsFrom nodes cables manager hops smp here ends
led_on nodes cables manager hops smp here there ends None right is = cc
led_on nodes cables manager hops smp here there ends (Some some) right is =
    let more : suc hops + length some ≡ hops + suc (length some) = omega arith in
    let first : with_return_ports (suc hops) (there ∷ some) smp ≡ with_return_ports (suc (suc hops)) some (with_return_port (suc hops) there.port smp) =
    ap (λ (k : ℕ). with_return_ports k some (with_return_port (suc hops) there.port smp)) (add-one (suc hops)) in
    rw (sym (same_Some _ _ is), ← more, first) (right some refl)

led_from : (nodes : List Node) (cables : List Cable) (manager hops : ℕ) (smp : List ℕ) (here : PortRef) (numbers : List ℕ) (ends : List PortRef) (next : Option PortRef)
    → ((there : PortRef) (some : List PortRef) → next ≡ Some there → walk nodes cables false there numbers ≡ Some
    some → LeadsFrom nodes cables manager (suc hops) (with_return_port (suc hops) there.port smp) there some)
    → option_and_then (λ there. option_map (λ later. there ∷ later) (walk nodes cables false there numbers)) next ≡ Some ends → LeadsFrom nodes cables manager hops smp here ends
led_from nodes cables manager hops smp here numbers ends None right is = cc
led_from nodes cables manager hops smp here numbers ends (Some there) right is =
    led_on nodes cables manager hops smp here there ends (walk nodes cables false there numbers) (λ some walked. right there some refl walked) is

-- from where so many hops lead home, a walk leads on to where its hops too lead home
pub walk_leads_home : (nodes : List Node) (cables : List Cable) (manager : ℕ) (starts : Bool) (here : PortRef) (hops : ℕ) (numbers : List ℕ) (smp : List ℕ) (ends : List PortRef)
    → all_differ is_same_port (flat_map ends_of cables) ≡ true → starts ≡ (hops == 0) → hops + length numbers ≤ 63 → length smp ≡ 256
    → leads_home nodes cables manager smp hops here.node ≡ true → walk nodes cables starts here numbers ≡ Some ends
    → LeadsFrom nodes cables manager hops smp here ends
walk_leads_home nodes cables manager starts here hops [] smp ends once begins few long home is =
    let none : hops + 0 ≡ hops = omega arith in
    rw (sym (same_Some [] ends is), none) home
walk_leads_home nodes cables manager starts here hops (number ∷ numbers) smp ends once begins few long home is =
    led_from nodes cables manager hops smp here numbers ends (hop nodes cables starts here number)
    (λ there some hopped walked. walk_leads_home nodes cables manager false there (suc hops) numbers
    (with_return_port (suc hops) there.port smp) some once (sym (grind (arith, nat_tests))) (omega (arith, few))
    (length-set smp (192 + suc hops) there.port ∙ long)
    (home_on nodes cables manager starts here there number hops smp once begins (omega (arith, few)) long hopped home) walked)
    is
