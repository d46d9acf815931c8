-- The rule of ties that takes one after the other.
use Rattle.std.proofs.Common.{ℕ, ◌≡◌, ◌+◌, ◌-◌, ◌*◌, ◌/◌, ◌%◌, ◌<◌, ◌≤◌, ◌==◌, ◌∙◌, ap, refl, sym, true, inl, inr, mod-lt, arith}
use Rattle.std.specs.List.{range_with_len}
use Rattle.std.proofs.Math.Nat.{add-mod_right, add-mul, add-mul-mod_self_left, div-add-mod, div-eq_of_lt, div-lt_iff_lt-mul, div-mul-le_self, lt-div-mul-add, mod-add-mod, mod-eq_of_lt, mod_self, mul-div-le, mul-le-mul_right}
use Rattle.std.proofs.lemmas.Bool.{cases_lt, eqb-true}
use Rattle.std.proofs.lemmas.List.FromFn.{length-range_with_len}
use Rattle.updn_routes.specs.TieLaws.{NextPlaceGoesOn, NextRankGoesOn, SharesTies, TakesEachTie}
use Rattle.updn_routes.specs.Ties.{tie_of, turn}
use Rattle.updn_routes.specs.declared.tie_rule.TieRule.TheVariants.{Balanced}
use Rattle.updn_routes.proofs.PlaceLemmas.{all_stay, no_more_by}

-- a step is at most the number of ties, so the steps of all rounds are no more than the number
pub steps_few : (number rank ties : ℕ) → 0 < ties → (rank % ties + 1) * (number / ties) ≤ number
steps_few number rank ties some =
    let low = mod-lt rank some in
    let step : rank % ties + 1 ≤ ties = omega (arith, low) in
    let most = mul-le-mul_right (number / ties) step in
    let all = mul-div-le number ties in
    omega (arith, most, all)

-- ---- each tie
-- the number that takes a tie
abbrev number_for : (place ties tie : ℕ) → ℕ
number_for place ties tie = (tie + (ties - place % ties)) % ties

pub each_taken : TakesEachTie (tie_of Balanced)
each_taken rank place ties tie less = (number_for place ties tie, low, takes)
  where
    some : 0 < ties
    some = omega (arith, less)

    low : number_for place ties tie < ties
    low = mod-lt (tie + (ties - place % ties)) some

    round : number_for place ties tie / ties ≡ 0
    round = div-eq_of_lt low

    plain : number_for place ties tie + (rank % ties + 1) * (number_for place ties tie / ties) + place ≡ number_for place ties tie + place
    plain = ap (λ (n : ℕ). number_for place ties tie + (rank % ties + 1) * n + place) round ∙ omega arith

    whole : tie + (ties - place % ties) + place ≡ tie + ties + ties * (place / ties)
    whole =
        let parts = div-add-mod place ties in
        let rest = mod-lt place some in
        omega (arith, parts, rest)

    takes : turn (number_for place ties tie) rank place ties ≡ tie
    takes =
        ap (λ (n : ℕ). n % ties) plain ∙ mod-add-mod (tie + (ties - place % ties)) ties place
        ∙ ap (λ (n : ℕ). n % ties) whole ∙ add-mul-mod_self_left (tie + ties) ties (place / ties)
        ∙ add-mod_right tie ties ∙ mod-eq_of_lt less

-- ---- no tie too often
-- numbers less than a round apart that leave the same are the same
same_left : (x d ties : ℕ) → 0 < ties → d < ties → (x + d) % ties ≡ x % ties → d ≡ 0
same_left x d ties some less same =
    elim (cases_lt (x % ties + d) ties) [
      | inl low ↦
          (let is : x % ties + d ≡ x % ties = sym (mod-eq_of_lt low) ∙ mod-add-mod x ties d ∙ same in omega (arith, is))
      | inr high ↦
          (let left = mod-lt x some in
          let back : x % ties + d ≡ (x % ties + d - ties) + ties = omega (arith, high) in
          let small : x % ties + d - ties < ties = omega (arith, high, left, less) in
          let is : x % ties + d - ties ≡ x % ties =
          sym (mod-eq_of_lt small) ∙ sym (add-mod_right (x % ties + d - ties) ties) ∙ ap (λ (n : ℕ). n % ties) (sym back) ∙ mod-add-mod x ties d ∙ same in
          omega (arith, is, high, less))
    ]

-- numbers of one round differ by less than a round
near : (x y ties : ℕ) → 0 < ties → x / ties ≡ y / ties → x ≤ y → y - x < ties
near x y ties some same less =
    let low = div-mul-le_self x ties in
    let high = lt-div-mul-add {a = y} {b = ties} some in
    let even : x / ties * ties ≡ y / ties * ties = ap (λ (n : ℕ). n * ties) same in
    omega (arith, low, high, even, less)

one_by_one : (x y rank place ties : ℕ) → 0 < ties → x / ties ≡ y / ties → x ≤ y → turn x rank place ties ≡ turn y rank place ties → x ≡ y
one_by_one x y rank place ties some same less taken =
    let steps = (rank % ties + 1) * (x / ties) in
    let even : (rank % ties + 1) * (y / ties) ≡ (rank % ties + 1) * (x / ties) = ap (λ (n : ℕ). (rank % ties + 1) * n) (sym same) in
    let apart : y + (rank % ties + 1) * (y / ties) + place ≡ (x + (rank % ties + 1) * (x / ties) + place) + (y - x) = omega (arith, even, less) in
    let none = same_left (x + (rank % ties + 1) * (x / ties) + place) (y - x) ties some (near x y ties some same less)
    (ap (λ (n : ℕ). n % ties) (sym apart) ∙ sym taken) in
    omega (arith, none, less)

-- so of each round one takes the tie
pub ties_shared : SharesTies (tie_of Balanced)
ties_shared rank place ties tie first many some =
    let all = no_more_by (λ x. x / ties - first / ties) (λ x. turn x rank place ties == tie) (λ _. true) first many ((many + ties - 2) / ties + 1)
    (λ u low high passes. (below u low high, refl)) own in
    let stay = all_stay (range_with_len 0 ((many + ties - 2) / ties + 1)) in
    let long = length-range_with_len 0 ((many + ties - 2) / ties + 1) in
    omega (arith, all, stay, long)
  where
    rounds : (u : ℕ) → first ≤ u → first / ties ≤ u / ties
    rounds u low =
        elim (cases_lt (u / ties) (first / ties)) [
          | inl less ↦ absurd
              (let high = lt-div-mul-add {a = u} {b = ties} some in
              let start = div-mul-le_self first ties in
              let more : (u / ties + 1) * ties ≤ first / ties * ties = mul-le-mul_right ties (omega (arith, less)) in
              let split = add-mul (u / ties) 1 ties in
              let no_room : ⊥ = omega (arith, high, start, more, split, low) in no_room)
          | inr more ↦ more
        ]

    below : (u : ℕ) → first ≤ u → u < first + many → u / ties - first / ties < (many + ties - 2) / ties + 1
    below u low high =
        let start = lt-div-mul-add {a = first} {b = ties} some in
        let row = lt-div-mul-add {a = many + ties - 2} {b = ties} some in
        let one = add-mul (first / ties) ((many + ties - 2) / ties + 1) ties in
        let two = add-mul ((many + ties - 2) / ties) 1 ties in
        let fits : u < (first / ties + ((many + ties - 2) / ties + 1)) * ties = omega (arith, start, row, one, two, low, high, some) in
        let less = (div-lt_iff_lt-mul {k = ties} {x = u} {y = first / ties + ((many + ties - 2) / ties + 1)} some).1 fits in
        omega (arith, less)

    own : (u v : ℕ) → first ≤ u → u < first + many → first ≤ v → v < first + many → (turn u rank place ties == tie) ≡ true
        → (turn v rank place ties == tie) ≡ true → u / ties - first / ties ≡ v / ties - first / ties → u ≡ v
    own u v ul uh vl vh passes passes_too same =
        let from = rounds u ul in
        let from_too = rounds v vl in
        let one : u / ties ≡ v / ties = omega (arith, same, from, from_too) in
        let taken : turn u rank place ties ≡ turn v rank place ties = eqb-true (turn u rank place ties) tie passes ∙ sym (eqb-true (turn v rank place ties) tie passes_too) in
        elim (cases_lt v u) [
          | inl less ↦ sym (one_by_one v u rank place ties some (sym one) (omega (arith, less)) (sym taken))
          | inr more ↦ one_by_one u v rank place ties some one more taken
        ]

-- ---- places and ranks
pub next_place : NextPlaceGoesOn (tie_of Balanced)
next_place number rank place ties some =
    let sum = number + (rank % ties + 1) * (number / ties) + place in
    let on : number + (rank % ties + 1) * (number / ties) + (place + 1) ≡ sum + 1 = omega arith in
    ap (λ (n : ℕ). n % ties) on ∙ sym (mod-add-mod sum ties 1)

-- a step further goes on by a round
step_on : (rank ties rounds rest : ℕ) → 0 < ties
    → (rest + ((rank + 1) % ties + 1) * rounds) % ties ≡ (rest + (rank % ties + 1) * rounds + rounds) % ties
step_on rank ties rounds rest some =
    elim (cases_lt (rank % ties + 1) ties) [
      | inl low ↦
          (let next : (rank + 1) % ties ≡ rank % ties + 1 = sym (mod-add-mod rank ties 1) ∙ mod-eq_of_lt low in
          ap (λ (s : ℕ). (rest + (s + 1) * rounds) % ties) next
          ∙ ap (λ (n : ℕ). n % ties) (let split = add-mul (rank % ties + 1) 1 rounds in omega (arith, split)))
      | inr high ↦
          (let left = mod-lt rank some in
          let all : rank % ties + 1 ≡ ties = omega (arith, high, left) in
          let next : (rank + 1) % ties ≡ 0 = sym (mod-add-mod rank ties 1) ∙ ap (λ (n : ℕ). n % ties) all ∙ mod_self ties in
          ap (λ (s : ℕ). (rest + (s + 1) * rounds) % ties) next
          ∙ ap (λ (n : ℕ). n % ties) (omega arith)
          ∙ sym (add-mul-mod_self_left (rest + rounds) ties rounds)
          ∙ ap (λ (n : ℕ). n % ties) (let same : (rank % ties + 1) * rounds ≡ ties * rounds = ap (λ (n : ℕ). n * rounds) all in omega (arith, same)))
    ]

pub next_rank : NextRankGoesOn (tie_of Balanced)
next_rank number rank place ties some =
    let sum = number + (rank % ties + 1) * (number / ties) + place in
    ap (λ (n : ℕ). n % ties) (plus number (((rank + 1) % ties + 1) * (number / ties)) place)
    ∙ step_on rank ties (number / ties) (number + place) some
    ∙ ap (λ (n : ℕ). n % ties) (plus_too number ((rank % ties + 1) * (number / ties)) place (number / ties))
    ∙ sym (mod-add-mod sum ties (number / ties))
  where
    plus : (a b c : ℕ) → a + b + c ≡ a + c + b
    plus a b c = omega arith

    plus_too : (a b c d : ℕ) → a + c + b + d ≡ a + b + c + d
    plus_too a b c d = omega arith

-- ---- of wrong rules
pub by_one : (n : ℕ) → n % 1 ≡ 0
by_one n = let low = mod-lt n {m = 1} (omega arith) in omega (arith, low)

pub row_first : (n ties : ℕ) → n < ties → n / ties % ties ≡ 0
row_first n ties less = ap (λ (q : ℕ). q % ties) (div-eq_of_lt less) ∙ mod-eq_of_lt (omega (arith, less))
