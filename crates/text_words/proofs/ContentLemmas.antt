-- Where a line has bytes that may not stand in it.
use Rattle.std.proofs.Common.{◌≡◌, ℕ, zero, suc, ◌-◌, Bool, true, false, not, ◌||◌, List, [], ◌∷◌, length, take, drop, refl, ◌∙◌, arith}
use Rattle.std.proofs.lemmas.Bool.Decides.{nat_tests}
use Rattle.std.proofs.lemmas.List.{take_rest}
use Rattle.std.specs.List.{list_any}
use Rattle.text_words.specs.Lines.{is_line_end, is_plain}

either : (a b c d x : Bool) → (a ≡ true → d ≡ true) → (b || x) ≡ (c || x) → ((a || b) || (d || x)) ≡ (c || (d || x))
either true b c d x h same = grind (arith)
either false b c true x h same = grind (arith)
either false b c false x h same = same

not_plain : (byte : ℕ) → is_line_end byte ≡ true → not (is_plain byte) ≡ true
not_plain byte h = grind (arith, nat_tests)

-- an LF among the first bytes is not plain, so it is enough to look for one behind them
pub line_end_behind : (n : ℕ) (body : List ℕ)
    → (list_any is_line_end body || list_any (λ byte. not (is_plain byte)) (take n body)) ≡ (list_any is_line_end (drop n body) || list_any (λ byte. not (is_plain byte)) (take n body))
line_end_behind zero body = refl
line_end_behind (suc n) [] = refl
line_end_behind (suc n) (byte ∷ rest) =
    either (is_line_end byte) (list_any is_line_end rest) (list_any is_line_end (drop n rest)) (not (is_plain byte)) (list_any (λ b. not (is_plain b)) (take n rest)) (not_plain byte) (line_end_behind n rest)

pub found_behind : (n : ℕ) (body reported content : List ℕ) → reported ≡ content → reported ≡ take n body
    → (list_any is_line_end body || list_any (λ byte. not (is_plain byte)) content) ≡ (list_any is_line_end (drop n body) || list_any (λ byte. not (is_plain byte)) reported)
found_behind n body reported content same front = rw (← same, front) (line_end_behind n body)

pub seen_behind : (n : ℕ) (text body : List ℕ) (found : Bool) → found ≡ list_any is_line_end (take (length text - n) (drop n text)) → text ≡ body
    → found ≡ list_any is_line_end (drop n body)
seen_behind n text body found h same = h ∙ rw (take_rest text n, same) refl
