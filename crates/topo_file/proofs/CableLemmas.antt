-- The ports at which cables end.
use Rattle.std.proofs.Common.{◌≡◌, Bool, true, false, cond, ◌||◌, List, [], ◌∷◌, ◌++◌, refl, sym, ◌∙◌}
use Rattle.std.proofs.lemmas.List.Folds.{list_any-append}
use Rattle.fabric_parts.specs.declared.cable.Cable.{Cable}
use Rattle.fabric_parts.specs.declared.cable.PortRef.{PortRef}
use Rattle.fabric_parts.specs.Cable.{ends_at, is_cabled, is_same_port}

either : (first second before : Bool) → cond second true (cond first true before) ≡ before || ((first || second) || false)
either true true true = refl
either true true false = refl
either true false true = refl
either true false false = refl
either false true true = refl
either false true false = refl
either false false true = refl
either false false false = refl

-- the ends of a new cable are what is cabled more
pub cabled_more : (cables : List Cable) (cable : Cable) (port : PortRef)
    → cond (is_same_port cable.second port) true (cond (is_same_port cable.first port) true (is_cabled cables port)) ≡ is_cabled (cables ++ cable ∷ []) port
cabled_more cables cable port =
    either (is_same_port cable.first port) (is_same_port cable.second port) (is_cabled cables port) ∙ sym (list_any-append (λ other. ends_at port other) cables (cable ∷ []))
