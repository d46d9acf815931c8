-- Numbers that rise: the place of one of them is how many are less.
use Rattle.std.proofs.Common.{◌≡◌, ℕ, suc, inl, inr, ◌+◌, ◌<◌, ◌≤◌, Bool, true, false, cond, ◌==◌, ◌||◌, nat_lt, List, [], ◌∷◌, length, get_or}
use Rattle.std.proofs.Common.{count_by, Some, None, option_map, refl, sym, ap, subst, ◌∙◌, arith}
use Rattle.std.specs.List.{AllByRecursion, list_any, position, position_or_len, slice_index}
use Rattle.std.specs.List.Sorted.{IsStrictlyIncreasing}
use Rattle.std.proofs.lemmas.Bool.{cases_lt, eq-eqb, eqb-true, false≢true}
use Rattle.std.proofs.lemmas.Bool.Decides.{nat_tests}
use Rattle.std.proofs.lemmas.Grind.{get_or_default_zero}
use Rattle.std.proofs.lemmas.List.Folds.{list_any_none}
use Rattle.std.proofs.lemmas.List.Kept.{AllPairs-from_increasing}
use Rattle.std.proofs.lemmas.List.Sums.{position_or_len_is, sum_by-cons}
use Rattle.step_results.proofs.PlaceLemmas.{list_any_place}
use Rattle.step_results.proofs.ListLemmas.{all_above}

abbrev pub Rises : List ℕ → Type 0
Rises [] = Unit {0}
Rises (x ∷ xs) = AllByRecursion (λ y. x < y) xs × Rises xs

tail_rises : (x : ℕ) (xs : List ℕ) → IsStrictlyIncreasing (x ∷ xs) → IsStrictlyIncreasing xs
tail_rises x xs s = λ k h.
    let next : suc k + 1 ≡ suc (k + 1) = omega arith in
    subst (λ (j : ℕ). slice_index (x ∷ xs) (suc k) < slice_index (x ∷ xs) j) next (s (suc k) (omega (arith, h)))

pub rises : (xs : List ℕ) → IsStrictlyIncreasing xs → Rises xs
rises [] s = tt
rises (x ∷ []) s = (tt, tt)
rises (x ∷ y ∷ ys) s =
    let first : x < y = s 0 (omega arith) in
    let rest = rises (y ∷ ys) (tail_rises x (y ∷ ys) s) in
    ((first, all_above x y ys first rest.0), rest)

-- ---- counts
pub counted : {X : Type 0} (p : X → Bool) (x : X) (xs : List X) → count_by p (x ∷ xs) ≡ cond (p x) 1 0 + count_by p xs
counted p x xs = sum_by-cons (λ y. cond (p y) 1 0) x xs

none_less : (g : ℕ) (xs : List ℕ) → AllByRecursion (λ y. g < y) xs → count_by (λ o. nat_lt o g) xs ≡ 0
none_less g [] h = refl
none_less g (x ∷ xs) h =
    let more : nat_lt x g ≡ false = grind (arith, nat_tests) in
    counted (λ o. nat_lt o g) x xs ∙ (rw (more, none_less g xs h.1) refl)

-- ---- places
pub place_here : {X : Type 0} (p : X → Bool) (x : X) (xs : List X) → p x ≡ true → position p (x ∷ xs) ≡ Some 0
place_here p x xs h = let some : nat_lt 0 (length (x ∷ xs)) ≡ true = grind (arith, nat_tests) in rw (h, some) refl

pub place_later : {X : Type 0} (p : X → Bool) (x : X) (xs : List X) → p x ≡ false → position p (x ∷ xs) ≡ option_map (λ k. k + 1) (position p xs)
place_later p x xs h =
    let n = position_or_len p xs in
    let same : nat_lt (1 + n) (length (x ∷ xs)) ≡ nat_lt n (length xs) = grind (arith, nat_tests) in
    rw (h, same) (by (nat_lt n (length xs)))
  where
    by : (b : Bool) → cond b (Some (1 + position_or_len p xs)) None ≡ option_map (λ k. k + 1) (cond b (Some (position_or_len p xs)) None)
    by true = ap (λ (k : ℕ). Some k) (omega arith)
    by false = refl

pub place_nowhere : {X : Type 0} (p : X → Bool) (xs : List X) → list_any p xs ≡ false → position p xs ≡ None
place_nowhere p xs h = rw (sym (list_any_place p xs) ∙ h) refl

-- one that is there is above what is below all
above_one : (x g : ℕ) (xs : List ℕ) → AllByRecursion (λ y. x < y) xs → list_any (λ o. o == g) xs ≡ true → x < g
above_one x g [] h there = absurd cc
above_one x g (y ∷ ys) h there = by (y == g) refl there (λ later. above_one x g ys h.1 later)
  where
    by : (b : Bool) → (y == g) ≡ b → (b || list_any (λ o. o == g) ys) ≡ true → (list_any (λ o. o == g) ys ≡ true → x < g) → x < g
    by true e k later = (let same : y ≡ g = grind (arith, nat_tests) in subst (λ (z : ℕ). x < z) same h.0)
    by false e k later = later k

pub place_is_count : (xs : List ℕ) (g : ℕ) → Rises xs → list_any (λ o. o == g) xs ≡ true → position (λ o. o == g) xs ≡ Some (count_by (λ o. nat_lt o g) xs)
place_is_count [] g r there = absurd cc
place_is_count (x ∷ xs) g r there = by (x == g) refl there (λ later. place_is_count xs g r.1 later)
  where
    by : (b : Bool) → (x == g) ≡ b → (b || list_any (λ o. o == g) xs) ≡ true
        → (list_any (λ o. o == g) xs ≡ true → position (λ o. o == g) xs ≡ Some (count_by (λ o. nat_lt o g) xs))
        → position (λ o. o == g) (x ∷ xs) ≡ Some (count_by (λ o. nat_lt o g) (x ∷ xs))
    by true e k later =
        let same : x ≡ g = grind (arith, nat_tests) in
        let here : nat_lt x g ≡ false = grind (arith, nat_tests) in
        let none : count_by (λ o. nat_lt o g) xs ≡ 0 = none_less g xs (subst (λ (z : ℕ). AllByRecursion (λ y. z < y) xs) same r.0) in
        place_here (λ (o : ℕ). o == g) x xs e ∙ ap (λ (n : ℕ). Some n) (sym (counted (λ o. nat_lt o g) x xs ∙ (rw (here, none) refl)))
    by false e k later =
        let less : x < g = above_one x g xs r.0 k in
        let counts : nat_lt x g ≡ true = grind (arith, nat_tests) in
        let n = count_by (λ o. nat_lt o g) xs in
        let turned : n + 1 ≡ 1 + n = omega arith in
        place_later (λ (o : ℕ). o == g) x xs e ∙ ap (option_map (λ n. n + 1)) (later k)
        ∙ ap (λ (n : ℕ). Some n) (turned ∙ sym (counted (λ o. nat_lt o g) x xs ∙ (rw counts refl)))

-- ---- by places
strictly : (xs : List ℕ) → IsStrictlyIncreasing xs → (i j : ℕ) → i < j → j < length xs → get_or xs i 0 < get_or xs j 0
strictly xs rising i j h k = AllPairs-from_increasing xs rising i j 0 h k

pub rise : (xs : List ℕ) → IsStrictlyIncreasing xs → (i j : ℕ) → i ≤ j → j < length xs → get_or xs i 0 ≤ get_or xs j 0
rise xs rising i j h k = elim (cases_lt i j) [
  | inl less ↦ let below = strictly xs rising i j less k in omega (arith, below)
  | inr more ↦ let same : i ≡ j = omega (arith, h, more) in rw same (omega arith)
]

pub place_at : (xs : List ℕ) (g i : ℕ) → IsStrictlyIncreasing xs → i < length xs → get_or xs i 0 ≡ g → position (λ o. o == g) xs ≡ Some i
place_at xs g i rising inside here =
    let first : position_or_len (λ o. o == g) xs ≡ i =
    position_or_len_is (λ o. o == g) xs i 0 (omega (arith, inside))
    (λ k less. let below = strictly xs rising k i less inside in let other : (get_or xs k 0 == g) ≡ false = grind (arith, nat_tests) in other)
    (λ within. let same : (get_or xs i 0 == g) ≡ true = grind (arith, nat_tests) in same) in
    let there : nat_lt i (length xs) ≡ true = grind (arith, nat_tests) in
    rw (first, there) refl

pub nowhere : (xs : List ℕ) (g i : ℕ) → ((k : ℕ) → k < i → get_or xs k 0 < g) → ((k : ℕ) → i ≤ k → k < length xs → g < get_or xs k 0) → list_any (λ o. o == g) xs ≡ false
nowhere xs g i below above = list_any_none (λ o. o == g) xs (λ k d h. each k d h)
  where
    each : (k d : ℕ) → k < length xs → (get_or xs k d == g) ≡ false
    each k d h =
        let same : get_or xs k d ≡ get_or xs k 0 = get_or_default_zero xs k d h in
        elim (cases_lt k i) [
          | inl less ↦ let under = below k less in grind (arith, nat_tests)
          | inr more ↦ let over = above k more h in grind (arith, nat_tests)
        ]

-- ---- lists that rise and have the same elements are the same
least : (x y : ℕ) (ys : List ℕ) → AllByRecursion (λ z. y < z) ys → list_any (λ o. o == x) (y ∷ ys) ≡ true → y ≤ x
least x y ys above there = by (y == x) refl there
  where
    by : (b : Bool) → (y == x) ≡ b → (b || list_any (λ o. o == x) ys) ≡ true → y ≤ x
    by true e k = (let same : y ≡ x = grind (arith, nat_tests) in omega (arith, same))
    by false e k = (let under = above_one y x ys above k in omega (arith, under))

none_at : (x : ℕ) (xs : List ℕ) → AllByRecursion (λ y. x < y) xs → list_any (λ o. o == x) xs ≡ false
none_at x [] above = refl
none_at x (y ∷ ys) above = let apart : (y == x) ≡ false = grind (arith, nat_tests, above.0) in rw (apart, none_at x ys above.1) refl

pub same_rising : (xs ys : List ℕ) → Rises xs → Rises ys → ((g : ℕ) → list_any (λ o. o == g) xs ≡ list_any (λ o. o == g) ys) → xs ≡ ys
same_rising [] [] one other same = refl
same_rising [] (y ∷ ys) one other same = absurd (false≢true (same y ∙ (rw (eq-eqb y y refl) refl)))
same_rising (x ∷ xs) [] one other same = absurd (false≢true (sym (same x) ∙ (rw (eq-eqb x x refl) refl)))
same_rising (x ∷ xs) (y ∷ ys) one other same =
    let here : list_any (λ o. o == x) (x ∷ xs) ≡ true = rw (eq-eqb x x refl) refl in
    let there : list_any (λ o. o == y) (y ∷ ys) ≡ true = rw (eq-eqb y y refl) refl in
    let low = least x y ys other.0 (sym (same x) ∙ here) in
    let high = least y x xs one.0 (same y ∙ there) in
    let first : x ≡ y = omega (arith, low, high) in
    rw (first, same_rising xs ys one.1 other.1 (λ g. by first g (y == g) refl)) refl
  where
    by : x ≡ y → (g : ℕ) (b : Bool) → (y == g) ≡ b → list_any (λ o. o == g) xs ≡ list_any (λ o. o == g) ys
    by first g true e =
        let at : y ≡ g = eqb-true y g e in
        none_at g xs (subst (λ (n : ℕ). AllByRecursion (λ z. n < z) xs) (first ∙ at) one.0)
        ∙ sym (none_at g ys (subst (λ (n : ℕ). AllByRecursion (λ z. n < z) ys) at other.0))
    by first g false e =
        let apart : (x == g) ≡ false = ap (λ (n : ℕ). n == g) first ∙ e in
        ap (λ (b : Bool). b || list_any (λ o. o == g) xs) (sym apart) ∙ same g ∙ ap (λ (b : Bool). b || list_any (λ o. o == g) ys) e
