-- Tests over ranges that grow.
use Rattle.std.proofs.Common.{ℕ, suc, ◌≡◌, ◌+◌, ◌||◌, ◌∙◌, ap, refl, Bool, true, false, [], ◌∷◌, arith}
use Rattle.std.specs.List.{list_any, range_with_len}
use Rattle.std.proofs.Math.Nat.{zero-add}
use Rattle.std.proofs.lemmas.List.Folds.{list_any-append}
use Rattle.step_results.proofs.RangeLemmas.{range_more}

-- ---- one switch more
pub range_any : (p : ℕ → Bool) (count : ℕ) → list_any p (range_with_len 0 (count + 1)) ≡ (list_any p (range_with_len 0 count) || p count)
range_any p count =
    let up : count + 1 ≡ suc count = omega arith in
    ap (λ (n : ℕ). list_any p (range_with_len 0 n)) up
    ∙ ap (list_any p) (range_more 0 count)
    ∙ list_any-append p (range_with_len 0 count) ((0 + count) ∷ [])
    ∙ ap (λ (b : Bool). list_any p (range_with_len 0 count) || b) (or_nothing (p (0 + count)) ∙ ap p (zero-add count))
  where
    or_nothing : (a : Bool) → (a || false) ≡ a
    or_nothing true = refl
    or_nothing false = refl
