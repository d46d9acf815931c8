-- Where paths of a good fabric end: at ports of its nodes.
use Rattle.std.proofs.Common.{ℕ, ◌≡◌, refl, sym, Bool, true, false, if◌then◌else◌, ◌&&◌, List, [], ◌∷◌, Option, Some, None, option_map}
use Rattle.std.specs.List.{list_all}
use Rattle.std.specs.Option.{option_and_then}
use Rattle.std.proofs.lemmas.Option.{same_Some}
use Rattle.fabric_parts.specs.Cable.{far_end, last_of}
use Rattle.fabric_parts.specs.declared.cable.Cable.{Cable}
use Rattle.fabric_parts.specs.declared.cable.PortRef.{PortRef}
use Rattle.smp_wire.proofs.CableLemmas.{far_is_port}
use Rattle.smp_wire.specs.FabricState.{FabricState, is_port}
use Rattle.smp_wire.specs.Good.{IsGood, is_right}
use Rattle.smp_wire.specs.Walk.{end_of, hands_on, hop, walk}
use Rattle.smp_wire.specs.declared.node.Node.{Node}
use Rattle.smp_wire.proofs.PresentLemmas.{present_right}

-- ---- the end of a walk
hop_port : (nodes : List Node) (cables : List Cable) (starts : Bool) (here there : PortRef) (number : ℕ)
    → list_all (is_right nodes) cables ≡ true → hop nodes cables starts here number ≡ Some there → is_port nodes there ≡ true
unfolding hop
hop_port nodes cables starts here there number right is = by (hands_on nodes starts here && is_port nodes out) is
  where
    out : PortRef
    out = record { node = here.node; port = number }

    by : (b : Bool) → (if b then far_end cables out else None) ≡ Some there → is_port nodes there ≡ true
    by true h = far_is_port nodes cables out there right h
    by false h = cc

walked_on : (nodes : List Node) (here there : PortRef) (ends : List PortRef) (rest : Option (List PortRef))
    → ((some : List PortRef) → rest ≡ Some some → is_port nodes (last_of there some) ≡ true)
    → option_map (λ later. there ∷ later) rest ≡ Some ends → is_port nodes (last_of here ends) ≡ true
walked_on nodes here there ends None port is = cc
walked_on nodes here there ends (Some some) port is = rw (sym (same_Some _ _ is)) (port some refl)

walked_from : (nodes : List Node) (cables : List Cable) (here : PortRef) (numbers : List ℕ) (ends : List PortRef) (next : Option PortRef)
    → ((there : PortRef) (some : List PortRef) → next ≡ Some there → walk nodes cables false there numbers ≡ Some some
    → is_port nodes (last_of there some) ≡ true)
    → option_and_then (λ there. option_map (λ later. there ∷ later) (walk nodes cables false there numbers)) next ≡ Some ends
    → is_port nodes (last_of here ends) ≡ true
walked_from nodes cables here numbers ends None port is = cc
walked_from nodes cables here numbers ends (Some there) port is =
    walked_on nodes here there ends (walk nodes cables false there numbers) (λ some walked. port there some refl walked) is

walk_port : (nodes : List Node) (cables : List Cable) (starts : Bool) (here : PortRef) (numbers : List ℕ) (ends : List PortRef)
    → list_all (is_right nodes) cables ≡ true → is_port nodes here ≡ true
    → walk nodes cables starts here numbers ≡ Some ends → is_port nodes (last_of here ends) ≡ true
walk_port nodes cables starts here [] ends right port is = rw (sym (same_Some [] ends is)) port
walk_port nodes cables starts here (number ∷ numbers) ends right port is =
    walked_from nodes cables here numbers ends (hop nodes cables starts here number)
    (λ there some hopped walked. walk_port nodes cables false there numbers some right
    (hop_port nodes cables starts here there number right hopped) walked) is

ended : (nodes : List Node) (here at : PortRef) (walked : Option (List PortRef))
    → ((ends : List PortRef) → walked ≡ Some ends → is_port nodes (last_of here ends) ≡ true)
    → option_map (last_of here) walked ≡ Some at → is_port nodes at ≡ true
ended nodes here at None port is = cc
ended nodes here at (Some ends) port is = rw (sym (same_Some _ _ is)) (port ends refl)

-- a path ends at a port
pub end_port : (fabric : FabricState) (path : List ℕ) (at : PortRef) → IsGood fabric → end_of fabric path ≡ Some at
    → is_port fabric.nodes at ≡ true
end_port fabric path at good is =
    ended fabric.nodes fabric.manager at (walk fabric.nodes fabric.cables true fabric.manager path)
    (λ ends walked. walk_port fabric.nodes fabric.cables true fabric.manager path ends (present_right good) good.manager_port walked) is
