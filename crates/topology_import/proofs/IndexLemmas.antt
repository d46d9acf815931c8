-- Where a GUID stands, as GUIDs are added.
use Rattle.std.proofs.Common.{◌≡◌, ◌∙◌, refl, sym, ap, ℕ, ◌+◌, Bool, true, false, List, [], ◌∷◌, ◌++◌, length, position, Option, Some, None, option_map, arith}
use Rattle.step_results.proofs.RisingLemmas.{place_here, place_later}
use Rattle.topology_import.specs.Index.{first_or}

later : (found : Option ℕ) (passes : Bool) (n : ℕ) → option_map (λ k. k + 1) (first_or found passes n) ≡ first_or (option_map (λ k. k + 1) found) passes (n + 1)
later (Some place) passes n = refl
later None true n = refl
later None false n = refl

-- one more at the end
pub position_more : {X : Type 0} (p : X → Bool) (xs : List X) (x : X) → position p (xs ++ x ∷ []) ≡ first_or (position p xs) (p x) (length xs)
position_more p [] x = by (p x) refl
  where
    by : (b : Bool) → p x ≡ b → position p (x ∷ []) ≡ first_or (position p []) (p x) 0
    by true e = place_here p x [] e ∙ ap (λ b. first_or None b 0) (sym e)
    by false e = place_later p x [] e ∙ ap (λ b. first_or None b 0) (sym e)
position_more p (y ∷ ys) x = by (p y) refl (position_more p ys x)
  where
    by : (b : Bool) → p y ≡ b → position p (ys ++ x ∷ []) ≡ first_or (position p ys) (p x) (length ys)
        → position p (y ∷ ys ++ x ∷ []) ≡ first_or (position p (y ∷ ys)) (p x) (length (y ∷ ys))
    by true e before = rw (place_here p y (ys ++ x ∷ []) e, place_here p y ys e) refl
    by false e before =
        let long : length (y ∷ ys) ≡ length ys + 1 = omega arith in
        rw (place_later p y (ys ++ x ∷ []) e, place_later p y ys e, before, long) (later (position p ys) (p x) (length ys))
