-- Elements of a list and those behind them, counted by places and by recursion.
use Rattle.std.proofs.Common.{◌≡◌, ℕ, zero, suc, ◌+◌, length, Bool, true, false, ◌&&◌, if◌then◌else◌, List, [], ◌∷◌, Option, Some, count_by, map, slice_get, nat_lt, refl, sym, ap, ap₂, ◌∙◌, inl, inr, arith}
use Rattle.std.specs.List.{range_with_len, sum_by}
use Rattle.std.proofs.lemmas.Bool.{cases_Bool}
use Rattle.std.proofs.lemmas.Bool.Decides.{nat_tests}
use Rattle.std.proofs.lemmas.List.Sums.{sum_by-cons}
use Rattle.partition_reports.proofs.SumLemmas.{nothing_added, one_if}
use Rattle.partition_reports.specs.PairLaws.{are_related, count_of_two, related_behind}

-- ---- by recursion: each with each behind it
abbrev pub count_pairs : {X : Type 0} → (X → X → Bool) → List X → ℕ
count_pairs r [] = 0
count_pairs r (x ∷ xs) = count_by (r x) xs + count_pairs r xs

pub count_more : {X : Type 0} (p : X → Bool) (x : X) (xs : List X) → count_by p (x ∷ xs) ≡ one_if (p x) + count_by p xs
count_more p x xs = sum_by-cons (λ y. one_if (p y)) x xs

-- ---- numbers from the next one on
sum_shift : (f g : ℕ → ℕ) → ((n : ℕ) → f (suc n) ≡ g n) → (a n : ℕ) → sum_by f (range_with_len (a + 1) n) ≡ sum_by g (range_with_len a n)
sum_shift f g each a zero = refl
sum_shift f g each a (suc n) =
    let next : a + 1 ≡ suc a = omega arith in
    sum_by-cons f (a + 1) (range_with_len (a + 1 + 1) n)
    ∙ ap₂ (λ (m k : ℕ). m + k) (ap f next ∙ each a) (sum_shift f g each (a + 1) n)
    ∙ sym (sum_by-cons g a (range_with_len (a + 1) n))

count_shift : (f g : ℕ → Bool) → ((n : ℕ) → f (suc n) ≡ g n) → (n : ℕ) → count_by f (range_with_len (0 + 1) n) ≡ count_by g (range_with_len 0 n)
count_shift f g each n = sum_shift (λ k. one_if (f k)) (λ k. one_if (g k)) (λ k. ap one_if (each k)) 0 n

zero_less : (n : ℕ) → nat_lt 0 (suc n) ≡ true
zero_less n = grind (arith, nat_tests)

none_less : (n : ℕ) → nat_lt (suc n) 0 ≡ false
none_less n = grind (arith, nat_tests)

both_less : (m n : ℕ) → nat_lt (suc m) (suc n) ≡ nat_lt m n
both_less m n = elim (cases_Bool (nat_lt m n)) [
  | inl less ↦ let more : nat_lt (suc m) (suc n) ≡ true = grind (arith, nat_tests, less) in more ∙ sym less
  | inr apart ↦ let more : nat_lt (suc m) (suc n) ≡ false = grind (arith, nat_tests, apart) in more ∙ sym apart
]

-- ---- by places
module _ {X : Type 0} (r : X → X → Bool) where
  row : (x : X) (xs : List X) → count_by (λ behind. are_related r (Some x) (slice_get xs behind)) (range_with_len 0 (length xs)) ≡ count_by (r x) xs
  row x [] = refl
  row x (y ∷ xs) =
      sum_by-cons (λ behind. one_if (are_related r (Some x) (slice_get (y ∷ xs) behind))) 0 (range_with_len (0 + 1) (length xs))
      ∙ ap (λ (n : ℕ). one_if (r x y) + n)
      (count_shift (λ behind. are_related r (Some x) (slice_get (y ∷ xs) behind)) (λ behind. are_related r (Some x) (slice_get xs behind)) (λ n. refl) (length xs) ∙ row x xs)
      ∙ sym (count_more (r x) y xs)

  abbrev row_at : List X → ℕ → ℕ
  row_at xs place = count_by (related_behind r xs place) (range_with_len 0 (length xs))

  first_row : (x : X) (xs : List X) → row_at (x ∷ xs) 0 ≡ count_by (r x) xs
  first_row x xs =
      sum_by-cons (λ behind. one_if (related_behind r (x ∷ xs) 0 behind)) 0 (range_with_len (0 + 1) (length xs))
      ∙ nothing_added (count_by (related_behind r (x ∷ xs) 0) (range_with_len (0 + 1) (length xs)))
      ∙ count_shift (related_behind r (x ∷ xs) 0) (λ behind. are_related r (Some x) (slice_get xs behind)) (λ n. rw (zero_less n) refl) (length xs)
      ∙ row x xs

  later_row : (x : X) (xs : List X) (place : ℕ) → row_at (x ∷ xs) (suc place) ≡ row_at xs place
  later_row x xs place =
      let none : related_behind r (x ∷ xs) (suc place) 0 ≡ false = rw (none_less place) refl in
      let rest : ℕ = count_by (related_behind r (x ∷ xs) (suc place)) (range_with_len (0 + 1) (length xs)) in
      sum_by-cons (λ behind. one_if (related_behind r (x ∷ xs) (suc place) behind)) 0 (range_with_len (0 + 1) (length xs))
      ∙ ap (λ (b : Bool). one_if b + rest) none ∙ nothing_added rest
      ∙ count_shift (related_behind r (x ∷ xs) (suc place)) (related_behind r xs place) (λ n. rw (both_less place n) refl) (length xs)

  pub two_places : (xs : List X) → count_of_two r xs ≡ count_pairs r xs
  two_places [] = refl
  two_places (x ∷ xs) =
      sum_by-cons (row_at (x ∷ xs)) 0 (range_with_len (0 + 1) (length xs))
      ∙ ap₂ (λ (m n : ℕ). m + n) (first_row x xs) (sum_shift (row_at (x ∷ xs)) (row_at xs) (later_row x xs) 0 (length xs) ∙ two_places xs)

-- ---- of elements that are made of others
count_mapped : {X Y : Type 0} (f : X → Y) (p : Y → Bool) (q : X → Bool) → ((x : X) → p (f x) ≡ q x) → (xs : List X) → count_by p (map f xs) ≡ count_by q xs
count_mapped f p q each [] = refl
count_mapped f p q each (x ∷ xs) =
    count_more p (f x) (map f xs) ∙ ap₂ (λ (m n : ℕ). m + n) (ap one_if (each x)) (count_mapped f p q each xs) ∙ sym (count_more q x xs)

pub pairs_mapped : {X Y : Type 0} (f : X → Y) (r : Y → Y → Bool) (s : X → X → Bool) → ((x y : X) → r (f x) (f y) ≡ s x y)
    → (xs : List X) → count_pairs r (map f xs) ≡ count_pairs s xs
pairs_mapped f r s each [] = refl
pairs_mapped f r s each (x ∷ xs) = ap₂ (λ (m n : ℕ). m + n) (count_mapped f (r (f x)) (s x) (each x) xs) (pairs_mapped f r s each xs)
