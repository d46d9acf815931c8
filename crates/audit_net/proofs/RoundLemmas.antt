-- Marks that only become more, each round of which follows from the one before, change no more after as many rounds as there
-- are marks.
use Rattle.std.proofs.Common.{◌≡◌, ◌∙◌, ◌⊎◌, inl, inr, ap, refl, subst, sym, ℕ, zero, suc, ◌<◌, ◌≤◌, Bool, true, false, not, ◌&&◌, ◌||◌, List, [], ◌∷◌, length, arith}
use Rattle.std.proofs.lemmas.Bool.{and_parts, cases_lt, false≢true}
use Rattle.topo_file.specs.Rounds.{is_marked}

-- each mark of the one list stands in the other too, and both are equally long
abbrev pub are_below : List Bool → List Bool → Bool
are_below [] [] = true
are_below (x ∷ xs) (y ∷ ys) = (not x || y) && are_below xs ys
are_below [] (y ∷ ys) = false
are_below (x ∷ xs) [] = false

abbrev pub trues : List Bool → ℕ
trues [] = 0
trues (true ∷ xs) = suc (trues xs)
trues (false ∷ xs) = trues xs

trues_most : (xs : List Bool) → trues xs ≤ length xs
trues_most [] = omega arith
trues_most (true ∷ xs) = let rest = trues_most xs in omega (arith, rest)
trues_most (false ∷ xs) = let rest = trues_most xs in omega (arith, rest)

trues_below : (xs ys : List Bool) → are_below xs ys ≡ true → trues xs ≤ trues ys
trues_below [] [] below = omega arith
trues_below [] (y ∷ ys) below = absurd (false≢true below)
trues_below (x ∷ xs) [] below = absurd (false≢true below)
trues_below (true ∷ xs) (true ∷ ys) below = let rest = trues_below xs ys below in omega (arith, rest)
trues_below (true ∷ xs) (false ∷ ys) below = absurd (false≢true below)
trues_below (false ∷ xs) (true ∷ ys) below = let rest = trues_below xs ys below in omega (arith, rest)
trues_below (false ∷ xs) (false ∷ ys) below = trues_below xs ys below

same_or_more : (xs ys : List Bool) → are_below xs ys ≡ true → (xs ≡ ys) ⊎ (trues xs < trues ys)
same_or_more [] [] below = inl refl
same_or_more [] (y ∷ ys) below = absurd (false≢true below)
same_or_more (x ∷ xs) [] below = absurd (false≢true below)
same_or_more (true ∷ xs) (true ∷ ys) below = elim (same_or_more xs ys below) [
  | inl same ↦ inl (ap (λ (rest : List Bool). true ∷ rest) same)
  | inr more ↦ inr (omega (arith, more))
]
same_or_more (true ∷ xs) (false ∷ ys) below = absurd (false≢true below)
same_or_more (false ∷ xs) (true ∷ ys) below = let rest = trues_below xs ys below in inr (omega (arith, rest))
same_or_more (false ∷ xs) (false ∷ ys) below = elim (same_or_more xs ys below) [
  | inl same ↦ inl (ap (λ (rest : List Bool). false ∷ rest) same)
  | inr more ↦ inr more
]

below_self : (xs : List Bool) → are_below xs xs ≡ true
below_self [] = refl
below_self (true ∷ xs) = below_self xs
below_self (false ∷ xs) = below_self xs

below_on : (xs ys zs : List Bool) → are_below xs ys ≡ true → are_below ys zs ≡ true → are_below xs zs ≡ true
below_on [] [] zs one other = other
below_on [] (y ∷ ys) zs one other = absurd (false≢true one)
below_on (x ∷ xs) [] zs one other = absurd (false≢true one)
below_on (x ∷ xs) (y ∷ ys) [] one other = absurd (false≢true other)
below_on (false ∷ xs) (y ∷ ys) (z ∷ zs) one other =
    let first = and_parts (not false || y) _ one in
    let second = and_parts (not y || z) _ other in
    below_on xs ys zs first.1 second.1
below_on (true ∷ xs) (true ∷ ys) (true ∷ zs) one other = below_on xs ys zs one other
below_on (true ∷ xs) (true ∷ ys) (false ∷ zs) one other = absurd (false≢true other)
below_on (true ∷ xs) (false ∷ ys) (z ∷ zs) one other = absurd (false≢true one)

pub marked_below : (xs ys : List Bool) (i : ℕ) → are_below xs ys ≡ true → is_marked xs i ≡ true → is_marked ys i ≡ true
marked_below [] ys i below marked = absurd (false≢true marked)
marked_below (x ∷ xs) [] i below marked = absurd (false≢true below)
marked_below (true ∷ xs) (true ∷ ys) zero below marked = refl
marked_below (true ∷ xs) (false ∷ ys) zero below marked = absurd (false≢true below)
marked_below (false ∷ xs) (y ∷ ys) zero below marked = absurd (false≢true marked)
marked_below (x ∷ xs) (y ∷ ys) (suc i) below marked = let parts = and_parts (not x || y) _ below in marked_below xs ys i parts.1 marked

-- ---- a sequence of marks
pub record AreGrowing (marks : ℕ → List Bool) (many : ℕ) : Type 0 where
  pub grows : (n : ℕ) → are_below (marks n) (marks (suc n)) ≡ true
  pub long : (n : ℕ) → length (marks n) ≤ many
  pub follows : (n m : ℕ) → marks n ≡ marks m → marks (suc n) ≡ marks (suc m)

stable_or_more : (marks : ℕ → List Bool) (many : ℕ) → AreGrowing marks many → (n : ℕ) → ((k : ℕ) × (k ≤ n) × (marks (suc k) ≡ marks k)) ⊎ (n < trues (marks (suc n)))
stable_or_more marks many growing zero = elim (same_or_more (marks 0) (marks 1) (growing.grows 0)) [
  | inl same ↦ inl (0, omega arith, sym same)
  | inr more ↦ inr (omega (arith, more))
]
stable_or_more marks many growing (suc n) = elim (stable_or_more marks many growing n) [
  | inl before ↦ inl (before.0, omega (arith, before.1), before.2)
  | inr so_many ↦ elim (same_or_more (marks (suc n)) (marks (suc (suc n))) (growing.grows (suc n))) [
    | inl same ↦ inl (suc n, omega arith, sym same)
    | inr more ↦ inr (omega (arith, so_many, more))
  ]
]

stable_at : (marks : ℕ → List Bool) (many : ℕ) → AreGrowing marks many → (k : ℕ) × (k ≤ many) × (marks (suc k) ≡ marks k)
stable_at marks many growing = elim (stable_or_more marks many growing many) [
  | inl found ↦ found
  | inr more ↦ absurd (let most = trues_most (marks (suc many)) in let long = growing.long (suc many) in omega (arith, more, most, long))
]

pub same_on : (marks : ℕ → List Bool) (many k : ℕ) → AreGrowing marks many → marks (suc k) ≡ marks k → (n : ℕ) → k ≤ n → marks n ≡ marks k
same_on marks many k growing stable zero least = let same : k ≡ 0 = omega (arith, least) in rw same refl
same_on marks many k growing stable (suc n) least = elim (cases_lt k (suc n)) [
  | inl less ↦ growing.follows n k (same_on marks many k growing stable n (omega (arith, less))) ∙ stable
  | inr more ↦ let same : k ≡ suc n = omega (arith, least, more) in rw same refl
]

below_later : (marks : ℕ → List Bool) (many n : ℕ) → AreGrowing marks many → (m : ℕ) → n ≤ m → are_below (marks n) (marks m) ≡ true
below_later marks many n growing zero least = let same : n ≡ 0 = omega (arith, least) in rw same (below_self (marks 0))
below_later marks many n growing (suc m) least = elim (cases_lt n (suc m)) [
  | inl less ↦ below_on (marks n) (marks m) (marks (suc m)) (below_later marks many n growing m (omega (arith, less))) (growing.grows m)
  | inr more ↦ let same : n ≡ suc m = omega (arith, least, more) in rw same (below_self (marks (suc m)))
]

-- whatever round marks it, the round of this number does
pub settled : (marks : ℕ → List Bool) (many : ℕ) → AreGrowing marks many → (n : ℕ) → are_below (marks n) (marks many) ≡ true
settled marks many growing n =
    let found = stable_at marks many growing in
    elim (cases_lt many n) [
      | inl past ↦ subst (λ (xs : List Bool). are_below xs (marks many) ≡ true) (sym (same_on marks many found.0 growing found.2 n (omega (arith, past, found.1))))
          (below_later marks many found.0 growing many found.1)
      | inr within ↦ below_later marks many n growing many within
    ]
