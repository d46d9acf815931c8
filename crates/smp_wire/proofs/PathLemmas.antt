-- A path with one more port, and one that begins with the subnet manager's own.
use Rattle.std.proofs.Common.{ℕ, arith, ◌≡◌, ◌∙◌, ◌==◌, ◌&&◌, ap, refl, Bool, true, false, List, [], ◌∷◌, ◌++◌, length, Option, Some, None, option_map}
use Rattle.std.specs.Option.{option_and_then}
use Rattle.std.proofs.lemmas.Bool.Decides.{nat_tests}
use Rattle.step_results.proofs.BoolLemmas.{and_true}
use Rattle.fabric_parts.specs.Cable.{last_of}
use Rattle.fabric_parts.specs.declared.cable.Cable.{Cable}
use Rattle.fabric_parts.specs.declared.cable.PortRef.{PortRef}
use Rattle.smp_wire.specs.declared.node.Node.{Node}
use Rattle.smp_wire.specs.Laws.{PathsBegin, PathsGoOn, WalksGoOn}
use Rattle.smp_wire.specs.Walk.{hop, walk}

-- one hop more at the end of a walk
abbrev more : List Node → List Cable → Bool → PortRef → ℕ → Option (List PortRef) → Option (List PortRef)
more nodes cables starts here number walked =
    option_and_then (λ ends. option_map (λ there. ends ++ there ∷ []) (hop nodes cables starts (last_of here ends) number)) walked

one_hop : (next : Option PortRef)
    → option_and_then (λ there. option_map (λ ends. there ∷ ends) (Some [])) next ≡ option_map (λ there. [] ++ there ∷ []) next
one_hop None = refl
one_hop (Some there) = refl

no_start : (starts : Bool) (first : ℕ) (numbers : List ℕ) → starts && (length (first ∷ numbers) == 0) ≡ false
no_start true first numbers = grind (arith, nat_tests)
no_start false first numbers = refl

joined : (there : PortRef) (ends : List PortRef) (next : Option PortRef)
    → option_map (λ later. there ∷ later) (option_map (λ last. ends ++ last ∷ []) next) ≡ option_map (λ last. (there ∷ ends) ++ last ∷ []) next
joined there ends None = refl
joined there ends (Some last) = refl

after_first : (nodes : List Node) (cables : List Cable) (here there : PortRef) (number : ℕ) (walked : Option (List PortRef))
    → option_map (λ later. there ∷ later) (more nodes cables false there number walked)
    ≡ more nodes cables false here number (option_map (λ later. there ∷ later) walked)
after_first nodes cables here there number None = refl
after_first nodes cables here there number (Some ends) = joined there ends (hop nodes cables false (last_of there ends) number)

by_first : (nodes : List Node) (cables : List Cable) (here : PortRef) (numbers : List ℕ) (number : ℕ) (next : Option PortRef)
    → ((there : PortRef) → walk nodes cables false there (numbers ++ number ∷ []) ≡ more nodes cables false there number (walk nodes cables false there numbers))
    → option_and_then (λ there. option_map (λ later. there ∷ later) (walk nodes cables false there (numbers ++ number ∷ []))) next
    ≡ more nodes cables false here number (option_and_then (λ there. option_map (λ later. there ∷ later) (walk nodes cables false there numbers)) next)
by_first nodes cables here numbers number None each = refl
by_first nodes cables here numbers number (Some there) each =
    ap (option_map (λ later. there ∷ later)) (each there) ∙ after_first nodes cables here there number (walk nodes cables false there numbers)

pub walks_go_on : WalksGoOn
walks_go_on nodes cables starts here [] number = rw (and_true starts) (one_hop (hop nodes cables starts here number))
walks_go_on nodes cables starts here (first ∷ numbers) number =
    rw (no_start starts first numbers) (by_first nodes cables here numbers number (hop nodes cables starts here first) (λ there. walks_go_on nodes cables false there numbers number))

-- ---- where it leads
last_is : (here there : PortRef) (ends : List PortRef) → last_of here (ends ++ there ∷ []) ≡ there
last_is here there [] = refl
last_is here there (end ∷ ends) = last_is end there ends

last_map : (here : PortRef) (ends : List PortRef) (next : Option PortRef)
    → option_map (last_of here) (option_map (λ there. ends ++ there ∷ []) next) ≡ next
last_map here ends None = refl
last_map here ends (Some there) = ap (λ (one : PortRef). Some one) (last_is here there ends)

end_more : (nodes : List Node) (cables : List Cable) (starts : Bool) (here : PortRef) (number : ℕ) (walked : Option (List PortRef))
    → option_map (last_of here) (more nodes cables starts here number walked)
    ≡ option_and_then (λ at. hop nodes cables starts at number) (option_map (last_of here) walked)
end_more nodes cables starts here number None = refl
end_more nodes cables starts here number (Some ends) = last_map here ends (hop nodes cables starts (last_of here ends) number)

pub paths_go_on : PathsGoOn
paths_go_on fabric path number =
    ap (option_map (last_of fabric.manager)) (walks_go_on fabric.nodes fabric.cables true fabric.manager path number)
    ∙ end_more fabric.nodes fabric.cables (length path == 0) fabric.manager number (walk fabric.nodes fabric.cables true fabric.manager path)

-- ---- the first hop leaves by the port itself
pub paths_begin : PathsBegin
unfolding hop
paths_begin fabric numbers port = rw port refl
