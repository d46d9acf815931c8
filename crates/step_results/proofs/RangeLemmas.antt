-- Lists that are made from ranges and from the first elements of others: of any elements.
use Rattle.std.proofs.Common.{ℕ, zero, suc, ◌+◌, ◌<◌, ◌≤◌, ◌≡◌, ◌⊎◌, inl, inr, ◌∙◌, ap, refl, List, [], ◌∷◌, ◌++◌, flat_map, map, length, take, slice_get, Some, arith}
use Rattle.std.specs.List.{range_with_len}
use Rattle.std.proofs.lemmas.Grind.{flat_map-append}
use Rattle.std.proofs.lemmas.List.{append-nil}
use Rattle.std.proofs.lemmas.Option.{same_Some}

-- ---- ranges
pub range_more : (a n : ℕ) → range_with_len a (suc n) ≡ range_with_len a n ++ (a + n) ∷ []
range_more a zero = let same : a + 0 ≡ a = omega arith in rw same refl
range_more a (suc n) =
    let last : (a + 1) + n ≡ a + suc n = omega arith in
    ap (λ (rest : List ℕ). a ∷ rest) (range_more (a + 1) n ∙ ap (λ (k : ℕ). range_with_len (a + 1) n ++ k ∷ []) last)

-- what is made of one number more
pub flat_more : {X : Type 0} (f : ℕ → List X) (a n j : ℕ) → a + n ≡ j
    → flat_map f (range_with_len a (suc n)) ≡ flat_map f (range_with_len a n) ++ f j
flat_more f a n j is =
    ap (flat_map f) (range_more a n ∙ ap (λ (k : ℕ). range_with_len a n ++ k ∷ []) is)
    ∙ flat_map-append f (range_with_len a n) (j ∷ []) ∙ ap (λ (last : List _). flat_map f (range_with_len a n) ++ last) (append-nil (f j))

-- two functions that agree on a range
pub flat_same : {X : Type 0} (f g : ℕ → List X) (a n : ℕ) → ((k : ℕ) → a ≤ k → k < a + n → f k ≡ g k)
    → flat_map f (range_with_len a n) ≡ flat_map g (range_with_len a n)
flat_same f g a zero same = refl
flat_same f g a (suc n) same =
    rw (same a (omega arith) (omega arith), flat_same f g (a + 1) n (λ k from to. same k (omega (arith, from)) (omega (arith, to)))) refl

-- ---- first elements
-- two functions that agree on the first elements of a list
pub map_same : {X Y : Type 0} (f g : X → Y) (xs : List X) (i : ℕ) → ((k : ℕ) (x : X) → k < i → slice_get xs k ≡ Some x → f x ≡ g x)
    → map f (take i xs) ≡ map g (take i xs)
map_same f g xs zero same = refl
map_same f g [] (suc i) same = refl
map_same f g (x ∷ xs) (suc i) same =
    rw (same 0 x (omega arith) refl, map_same f g xs i (λ k y before there. same (suc k) y (omega (arith, before)) there)) refl

-- one more of these
pub map_more : {X Y : Type 0} (f : X → Y) (xs : List X) (i : ℕ) (x : X) → slice_get xs i ≡ Some x
    → map f (take (suc i) xs) ≡ map f (take i xs) ++ f x ∷ []
map_more f [] i x there = cc
map_more f (y ∷ xs) zero x there = ap (λ (z : _). f z ∷ []) (same_Some y x there)
map_more f (y ∷ xs) (suc i) x there = ap (λ (rest : List _). f y ∷ rest) (map_more f xs i x there)

-- ---- an element more at the end
pub get_kept : {X : Type 0} (xs ys : List X) (k : ℕ) (x : X) → slice_get xs k ≡ Some x → slice_get (xs ++ ys) k ≡ Some x
get_kept [] ys k x there = cc
get_kept (y ∷ xs) ys zero x there = there
get_kept (y ∷ xs) ys (suc k) x there = get_kept xs ys k x there

pub get_last : {X : Type 0} (xs : List X) (x : X) → slice_get (xs ++ x ∷ []) (length xs) ≡ Some x
get_last [] x = refl
get_last (y ∷ xs) x = get_last xs x

-- which stands there already, or is the new one
pub get_pushed : {X : Type 0} (xs : List X) (x y : X) (k : ℕ) → slice_get (xs ++ x ∷ []) k ≡ Some y
    → (slice_get xs k ≡ Some y) ⊎ ((k ≡ length xs) × (x ≡ y))
get_pushed [] x y zero there = inr (refl, same_Some x y there)
get_pushed [] x y (suc k) there = cc
get_pushed (z ∷ xs) x y zero there = inl there
get_pushed (z ∷ xs) x y (suc k) there = elim (get_pushed xs x y k there) [
  | inl before ↦ inl before
  | inr last ↦ inr (ap suc last.0, last.1)
]
