-- A text that grows by a part for each number of a range.
use Rattle.std.proofs.Common.{ℕ, suc, ◌+◌, ◌≡◌, ◌∙◌, ap, List, ◌++◌, append_assoc, sym, arith}
use Rattle.std.specs.List.{flat_map, range_with_len}
use Rattle.step_results.proofs.RangeLemmas.{flat_more}

-- with the text of one number more
pub text_of_one_more : (first : ℕ) (f : ℕ → List ℕ) (old text new : List ℕ) (count more number : ℕ) → first + count ≡ number → count + 1 ≡ more
    → text ≡ old ++ flat_map f (range_with_len first count) → new ≡ text ++ f number
    → new ≡ old ++ flat_map f (range_with_len first more)
text_of_one_more first f old text new count more number last longer was grown =
    let before = flat_map f (range_with_len first count) in
    let next : suc count ≡ more = omega (arith, longer) in
    grown ∙ ap (λ (some : List ℕ). some ++ f number) was ∙ append_assoc old before (f number)
    ∙ ap (λ (some : List ℕ). old ++ some) (sym (flat_more f first count number last))
    ∙ ap (λ (n : ℕ). old ++ flat_map f (range_with_len first n)) next
