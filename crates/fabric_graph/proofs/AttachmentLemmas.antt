-- Attachments one after the other, by the places of their nodes.
use Rattle.std.proofs.Common.{ℕ, suc, ◌+◌, ◌≡◌, ◌∙◌, ap, List, [], ◌∷◌, ◌++◌, map, sym, arith}
use Rattle.std.specs.List.{range_with_len}
use Rattle.std.proofs.lemmas.List.{map-append}
use Rattle.step_results.proofs.RangeLemmas.{range_more}

pub one_more : {X : Type 0} (f : ℕ → X) (old new : List X) (n : ℕ) (x : X) → old ≡ map f (range_with_len 0 n) → x ≡ f n → new ≡ old ++ x ∷ []
    → new ≡ map f (range_with_len 0 (n + 1))
one_more f old new n x was is grown =
    let longer : n + 1 ≡ suc n = omega arith in
    let last : 0 + n ≡ n = omega arith in
    grown ∙ rw (was, is) (sym (map-append f (range_with_len 0 n) (n ∷ []))
    ∙ ap (λ (k : ℕ). map f (range_with_len 0 n ++ k ∷ [])) (sym last)
    ∙ ap (map f) (sym (range_more 0 n)) ∙ ap (λ (k : ℕ). map f (range_with_len 0 k)) (sym longer))
