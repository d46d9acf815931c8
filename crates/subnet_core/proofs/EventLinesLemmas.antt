-- Zero bytes at the end of a payload.
use Rattle.std.proofs.Common.{◌≡◌, ◌≢◌, ℕ, ◌+◌, ◌-◌, ◌<◌, ◌≤◌, false, ◌==◌, ◌&&◌, List, [], ◌∷◌, ◌++◌, length, take, get_or, refl, ◌∙◌, sym, ap, arith}
use Rattle.std.specs.List.{list_all}
use Rattle.std.proofs.lemmas.List.{take_more}
use Rattle.std.proofs.lemmas.Bool.{and_right, ne_eqb}
use Rattle.subnet_core.specs.EventLines.{trimmed}

zero_more : (bytes : List ℕ) → list_all (λ b. b == 0) (bytes ++ 0 ∷ []) ≡ list_all (λ b. b == 0) bytes
zero_more [] = refl
zero_more (byte ∷ bytes) = ap (λ t. (byte == 0) && t) (zero_more bytes)

trimmed_push_zero : (bytes : List ℕ) → trimmed (bytes ++ 0 ∷ []) ≡ trimmed bytes
trimmed_push_zero [] = refl
trimmed_push_zero (byte ∷ bytes) = rw (zero_more bytes, trimmed_push_zero bytes) refl

not_all_zero : (bytes : List ℕ) (last : ℕ) → (last == 0) ≡ false → list_all (λ b. b == 0) (bytes ++ last ∷ []) ≡ false
not_all_zero [] last h = rw h refl
not_all_zero (byte ∷ bytes) last h = and_right (byte == 0) (list_all (λ b. b == 0) (bytes ++ last ∷ [])) (not_all_zero bytes last h)

trimmed_kept : (bytes : List ℕ) (last : ℕ) → (last == 0) ≡ false → trimmed (bytes ++ last ∷ []) ≡ bytes ++ last ∷ []
trimmed_kept [] last h = rw h refl
trimmed_kept (byte ∷ bytes) last h = rw (not_all_zero (byte ∷ bytes) last h, trimmed_kept bytes last h) refl

-- a zero byte at the end is cut off
pub trimmed_less : (bytes : List ℕ) (n : ℕ) → 0 < n → n ≤ length bytes → get_or bytes (n - 1) 0 ≡ 0
    → trimmed (take (n - 1) bytes) ≡ trimmed (take n bytes)
trimmed_less bytes n some within zero =
    let more : n - 1 + 1 ≡ n = omega arith in
    let inside : n - 1 < length bytes = omega arith in
    sym (trimmed_push_zero (take (n - 1) bytes))
    ∙ (ap (λ b. trimmed (take (n - 1) bytes ++ b ∷ [])) (sym zero)
    ∙ (ap trimmed (sym (take_more bytes (n - 1) 0 inside)) ∙ ap (λ k. trimmed (take k bytes)) more))

-- what ends in another byte stays
pub trimmed_same : (bytes : List ℕ) (n : ℕ) → 0 < n → n ≤ length bytes → get_or bytes (n - 1) 0 ≢ 0 → trimmed (take n bytes) ≡ take n bytes
trimmed_same bytes n some within other =
    let more : n - 1 + 1 ≡ n = omega arith in
    let inside : n - 1 < length bytes = omega arith in
    let split : take n bytes ≡ take (n - 1) bytes ++ get_or bytes (n - 1) 0 ∷ [] = ap (λ k. take k bytes) (sym more) ∙ take_more bytes (n - 1) 0 inside in
    ap trimmed split ∙ (trimmed_kept (take (n - 1) bytes) (get_or bytes (n - 1) 0) (ne_eqb (get_or bytes (n - 1) 0) 0 other) ∙ sym split)
