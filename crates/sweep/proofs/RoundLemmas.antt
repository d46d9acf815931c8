-- Rounds find how far the switches of a graph are from one of them, and as many rounds as there are switches are enough.
use Rattle.std.proofs.Common.{◌≡◌, ℕ, zero, suc, ◌+◌, ◌-◌, ◌<◌, ◌≤◌, ◌≢◌, ◌⊎◌, Bool, true, false, ◌==◌, ◌&&◌, ◌||◌, List, [], ◌∷◌, ◌++◌, length, filter, map, replicate, slice_set}
use Rattle.std.proofs.Common.{Option, Some, None, refl, sym, ap, subst, ◌∙◌, inl, inr, arith, get_or-set_other, get_or-set_same, length-append, eqb}
use Rattle.std.specs.List.{list_any, range_with_len}
use Rattle.std.specs.Option.{is_some, option_eq}
use Rattle.std.proofs.lemmas.Bool.{and_from, and_parts, cases_lt, eq-eqb, eqb-true, false≢true, or_cases, or_left, or_parts, or_right}
use Rattle.std.proofs.lemmas.Bool.Decides.{nat_tests}
use Rattle.std.proofs.lemmas.Option.{same_Some}
use Rattle.std.proofs.lemmas.List.{length-map}
use Rattle.std.proofs.lemmas.List.FromFn.{get_or-map-range_with_len, length-range_with_len}
use Rattle.sweep.specs.Joined.{is_next_to, is_walk_by}
use Rattle.sweep.specs.Rounds.{AreDistances, AreFound, AreInside, IsAway, IsFoundBy, found_at, further, is_behind, is_exactly, or_further}
use Rattle.sweep.specs.declared.graph.GraphLink.{GraphLink}
use Rattle.sweep.proofs.JoinedLemmas.{walk_on}

-- ---- within a round
twice : (o : Option ℕ) (one other : Bool) (distance : ℕ) → or_further o (one || other) distance ≡ or_further (or_further o one distance) other distance
twice None true other distance = refl
twice None false other distance = refl
twice (Some j) one other distance = refl

-- what is found in a round is not as far away as those that it is found from
pub same_behind : (o : Option ℕ) (come : Bool) (k : ℕ) → is_exactly (or_further o come (k + 1)) k ≡ is_exactly o k
same_behind None true k = let past : (k + 1 == k) ≡ false = grind (arith, nat_tests) in past
same_behind None false k = refl
same_behind (Some j) come k = refl

behind_first : (rows : List (List GraphLink)) (found : List (Option ℕ)) (k place n t : ℕ) → place < n
    → is_behind rows found k (range_with_len place (n - place)) t
    ≡ ((is_exactly (found_at found place) k && is_next_to rows place t) || is_behind rows found k (range_with_len (place + 1) (n - (place + 1))) t)
behind_first rows found k place n t within =
    let one_less : n - place ≡ suc (n - (place + 1)) = omega (arith, within) in
    ap (λ (count : ℕ). is_behind rows found k (range_with_len place count) t) one_less

pub place_spread : (rows : List (List GraphLink)) (first now next : List (Option ℕ)) (k place n t : ℕ) (whole : Option ℕ) → place < n
    → is_exactly (found_at first place) k ≡ true → found_at next t ≡ or_further (found_at now t) (is_next_to rows place t) (k + 1)
    → whole ≡ or_further (found_at now t) (is_behind rows first k (range_with_len place (n - place)) t) (k + 1)
    → whole ≡ or_further (found_at next t) (is_behind rows first k (range_with_len (place + 1) (n - (place + 1))) t) (k + 1)
place_spread rows first now next k place n t whole within is reached so_far =
    let rest = is_behind rows first k (range_with_len (place + 1) (n - (place + 1))) t in
    so_far
    ∙ ap (λ (b : Bool). or_further (found_at now t) b (k + 1)) (behind_first rows first k place n t within)
    ∙ ap (λ (b : Bool). or_further (found_at now t) ((b && is_next_to rows place t) || rest) (k + 1)) is
    ∙ twice (found_at now t) (is_next_to rows place t) rest (k + 1)
    ∙ ap (λ (o : Option ℕ). or_further o rest (k + 1)) (sym reached)

pub place_passed : (rows : List (List GraphLink)) (first now : List (Option ℕ)) (k place n t : ℕ) (whole : Option ℕ) → place < n
    → is_exactly (found_at first place) k ≡ false
    → whole ≡ or_further (found_at now t) (is_behind rows first k (range_with_len place (n - place)) t) (k + 1)
    → whole ≡ or_further (found_at now t) (is_behind rows first k (range_with_len (place + 1) (n - (place + 1))) t) (k + 1)
place_passed rows first now k place n t whole within is so_far =
    let rest = is_behind rows first k (range_with_len (place + 1) (n - (place + 1))) t in
    so_far
    ∙ ap (λ (b : Bool). or_further (found_at now t) b (k + 1)) (behind_first rows first k place n t within)
    ∙ ap (λ (b : Bool). or_further (found_at now t) ((b && is_next_to rows place t) || rest) (k + 1)) is

pub same_test : (o : Option ℕ) (k : ℕ) → is_exactly o k ≡ option_eq eqb o (Some k)
same_test None k = refl
same_test (Some j) k = refl

-- ---- lists
pub exactly : (o : Option ℕ) (k : ℕ) → is_exactly o k ≡ true → o ≡ Some k
exactly None k h = absurd (false≢true h)
exactly (Some j) k h = ap Some (eqb-true j k h)

pub not_both : {j : ℕ} {o : Option ℕ} → o ≡ None → o ≡ Some j → ⊥
not_both none some = let clash = sym none ∙ some in absurd (cc)

pub found_within : (found : List (Option ℕ)) (t j : ℕ) → found_at found t ≡ Some j → t < length found
found_within [] t j is = absurd (cc)
found_within (o ∷ found) zero j is = omega arith
found_within (o ∷ found) (suc t) j is = let less = found_within found t j is in omega (arith, less)

past_end : (found : List (Option ℕ)) (t k : ℕ) → length found ≤ t → is_exactly (found_at found t) k ≡ false
past_end [] t k past = refl
past_end (o ∷ found) zero k past = absurd (omega (arith, past))
past_end (o ∷ found) (suc t) k past = past_end found t k (omega (arith, past))

pub some_of : (p : ℕ → Bool) (xs : List ℕ) → list_any p xs ≡ true → (x : ℕ) × (p x ≡ true)
some_of p [] h = absurd (false≢true h)
some_of p (x ∷ xs) h = elim (or_cases (p x) (list_any p xs) h) [ inl here ↦ (x, here) | inr later ↦ some_of p xs later ]

pub in_range : (p : ℕ → Bool) (first count x : ℕ) → first ≤ x → x < first + count → p x ≡ true → list_any p (range_with_len first count) ≡ true
in_range p first zero x low high is = absurd (omega (arith, low, high))
in_range p first (suc count) x low high is = by (first == x) refl (λ more. in_range p (first + 1) count x more (omega (arith, high)) is)
  where
    by : (b : Bool) → (first == x) ≡ b → (first + 1 ≤ x → list_any p (range_with_len (first + 1) count) ≡ true)
        → list_any p (range_with_len first (suc count)) ≡ true
    by true e later = or_left (p first) _ (ap p (eqb-true first x e) ∙ is)
    by false e later =
        let other : first ≢ x = λ same. false≢true (sym e ∙ eq-eqb first x same) in
        or_right (p first) _ (later (omega (arith, low, other)))

none_in_range : (p : ℕ → Bool) (first count x : ℕ) → first ≤ x → x < first + count → list_any p (range_with_len first count) ≡ false → p x ≡ false
none_in_range p first count x low high none = by (p x) refl
  where
    by : (b : Bool) → p x ≡ b → b ≡ false
    by false is = refl
    by true is = sym (in_range p first count x low high is) ∙ none

-- ---- how many are found
abbrev how_many : List (Option ℕ) → ℕ
how_many found = length (filter is_some found)

pub at_most : (found : List (Option ℕ)) → how_many found ≤ length found
at_most [] = omega arith
at_most (None ∷ found) = let rest = at_most found in omega (arith, rest)
at_most (Some j ∷ found) = let rest = at_most found in omega (arith, rest)

one_at_least : (found : List (Option ℕ)) (t j : ℕ) → found_at found t ≡ Some j → 0 < how_many found
one_at_least [] t j is = absurd (cc)
one_at_least (Some i ∷ found) t j is = omega arith
one_at_least (None ∷ found) zero j is = absurd (cc)
one_at_least (None ∷ found) (suc t) j is = one_at_least found t j is

no_fewer : (xs ys : List (Option ℕ)) → length ys ≡ length xs → ((t : ℕ) → is_some (found_at xs t) ≡ true → is_some (found_at ys t) ≡ true)
    → how_many xs ≤ how_many ys
no_fewer [] ys count kept = omega arith
no_fewer (x ∷ xs) [] count kept = absurd (omega (arith, count))
no_fewer (None ∷ xs) (None ∷ ys) count kept = no_fewer xs ys (omega (arith, count)) (λ t. kept (suc t))
no_fewer (None ∷ xs) (Some j ∷ ys) count kept = let rest = no_fewer xs ys (omega (arith, count)) (λ t. kept (suc t)) in omega (arith, rest)
no_fewer (Some i ∷ xs) (None ∷ ys) count kept = absurd (false≢true (kept 0 refl))
no_fewer (Some i ∷ xs) (Some j ∷ ys) count kept = let rest = no_fewer xs ys (omega (arith, count)) (λ t. kept (suc t)) in omega (arith, rest)

one_more : (xs ys : List (Option ℕ)) → length ys ≡ length xs → ((t : ℕ) → is_some (found_at xs t) ≡ true → is_some (found_at ys t) ≡ true)
    → (t : ℕ) → found_at xs t ≡ None → is_some (found_at ys t) ≡ true → how_many xs < how_many ys
one_more [] [] count kept t none some = absurd (false≢true some)
one_more [] (y ∷ ys) count kept t none some = absurd (omega (arith, count))
one_more (x ∷ xs) [] count kept t none some = absurd (omega (arith, count))
one_more (None ∷ xs) (None ∷ ys) count kept zero none some = absurd (false≢true some)
one_more (None ∷ xs) (Some j ∷ ys) count kept zero none some =
    let rest = no_fewer xs ys (omega (arith, count)) (λ t. kept (suc t)) in omega (arith, rest)
one_more (Some i ∷ xs) (y ∷ ys) count kept zero none some = absurd (cc)
one_more (None ∷ xs) (None ∷ ys) count kept (suc t) none some = one_more xs ys (omega (arith, count)) (λ u. kept (suc u)) t none some
one_more (None ∷ xs) (Some j ∷ ys) count kept (suc t) none some =
    let rest = one_more xs ys (omega (arith, count)) (λ u. kept (suc u)) t none some in omega (arith, rest)
one_more (Some i ∷ xs) (None ∷ ys) count kept (suc t) none some = absurd (false≢true (kept 0 refl))
one_more (Some i ∷ xs) (Some j ∷ ys) count kept (suc t) none some =
    let rest = one_more xs ys (omega (arith, count)) (λ u. kept (suc u)) t none some in omega (arith, rest)

-- ---- the first round
abbrev blank : ℕ → List (Option ℕ)
blank n = replicate n None

nothing : (n t : ℕ) → found_at (blank n) t ≡ None
nothing zero t = refl
nothing (suc n) zero = refl
nothing (suc n) (suc t) = nothing n t

set_long : (found : List (Option ℕ)) (t : ℕ) (o : Option ℕ) → length (slice_set found t o) ≡ length found
set_long [] t o = refl
set_long (x ∷ found) zero o = refl
set_long (x ∷ found) (suc t) o = ap suc (set_long found t o)

long : (n : ℕ) → length (blank n) ≡ n
long zero = refl
long (suc n) = ap suc (long n)

pub found_first : (rows : List (List GraphLink)) (from : ℕ) → from < length rows
    → AreFound rows from 0 (slice_set (replicate (length rows) None) from (Some 0))
found_first rows from within = record {
  count = set_long none from (Some 0) ∙ long (length rows);
  start = start;
  right = λ t j is. right t j is;
  step = λ s t j is less next. absurd (omega (arith, less));
  many = inl (one_at_least (slice_set none from (Some 0)) from 0 start);
}
  where
    none : List (Option ℕ)
    none = blank (length rows)

    start : found_at (slice_set none from (Some 0)) from ≡ Some 0
    start = get_or-set_same none from (Some 0) None (let all = long (length rows) in omega (arith, within, all))

    right : (t j : ℕ) → found_at (slice_set none from (Some 0)) t ≡ Some j → IsAway rows from t j × (j ≤ 0)
    right t j is = by (from == t) refl
      where
        by : (b : Bool) → (from == t) ≡ b → IsAway rows from t j × (j ≤ 0)
        by true same =
            let zero_is : 0 ≡ j = same_Some 0 j (sym start ∙ ap (found_at (slice_set none from (Some 0))) (eqb-true from t same) ∙ is) in
            (([], same, zero_is), omega (arith, zero_is))
        by false other =
            let apart : t ≢ from = λ e. false≢true (sym other ∙ eq-eqb from t (sym e)) in
            absurd (not_both (nothing (length rows) t) (sym (get_or-set_other none from t (Some 0) None apart) ∙ is))

-- ---- one more round
module _ (rows : List (List GraphLink)) (from k : ℕ) (found next : List (Option ℕ)) (inside : AreInside rows) (so_far : AreFound rows from k found) (same_long : length next ≡ length found) (spread : (t : ℕ) → t < length found → found_at next t ≡ further rows found k t) where
  abbrev behind : ℕ → Bool
  behind t = is_behind rows found k (range_with_len 0 (length rows)) t

  kept : (t j : ℕ) → found_at found t ≡ Some j → found_at next t ≡ Some j
  kept t j is = spread t (found_within found t j is) ∙ ap (λ (o : Option ℕ). or_further o (behind t) (k + 1)) is

  new : (t : ℕ) → t < length found → found_at found t ≡ None → behind t ≡ true → found_at next t ≡ Some (k + 1)
  new t within none is =
      spread t within ∙ ap (λ (o : Option ℕ). or_further o (behind t) (k + 1)) none ∙ ap (λ (b : Bool). or_further None b (k + 1)) is

  none_still : (t : ℕ) → t < length found → found_at found t ≡ None → behind t ≡ false → found_at next t ≡ None
  none_still t within none is =
      spread t within ∙ ap (λ (o : Option ℕ). or_further o (behind t) (k + 1)) none ∙ ap (λ (b : Bool). or_further None b (k + 1)) is

  -- a switch that is found now was found before, or is new
  record Was (t j : ℕ) : Type 0 where
    is : (found_at found t ≡ Some j) ⊎ ((found_at found t ≡ None) × (behind t ≡ true) × (j ≡ k + 1))

  was : (t j : ℕ) → found_at next t ≡ Some j → Was t j
  was t j is = by (found_at found t) (behind t) refl refl
    where
      within : t < length found
      within = let less = found_within next t j is in omega (arith, less, same_long)

      by : (o : Option ℕ) (b : Bool) → found_at found t ≡ o → behind t ≡ b → Was t j
      by (Some i) b o_is b_is = record { is = inl (o_is ∙ sym (kept t i o_is) ∙ is) }
      by None true o_is b_is = record { is = inr (o_is, b_is, sym (same_Some (k + 1) j (sym (new t within o_is b_is) ∙ is))) }
      by None false o_is b_is = absurd (not_both (none_still t within o_is b_is) is)

  come_from : (t : ℕ) → behind t ≡ true → IsAway rows from t (k + 1)
  come_from t is =
      let s = some_of (λ s. is_exactly (found_at found s) k && is_next_to rows s t) (range_with_len 0 (length rows)) is in
      let parts = and_parts (is_exactly (found_at found s.0) k) _ s.1 in
      let away = (so_far.right s.0 k (exactly (found_at found s.0) k parts.0)).0 in (
        away.0 ++ t ∷ [],
        walk_on (is_next_to rows) from s.0 t away.0 (t ∷ []) away.1 (and_from (is_next_to rows s.0 t) _ parts.1 (eq-eqb t t refl)),
        (let sum = length-append away.0 (t ∷ []) in let steps = away.2 in omega (arith, sum, steps)),
      )

  right : (t j : ℕ) → found_at next t ≡ Some j → IsAway rows from t j × (j ≤ k + 1)
  right t j is = by (was t j is).is
    where
      by : ((found_at found t ≡ Some j) ⊎ ((found_at found t ≡ None) × (behind t ≡ true) × (j ≡ k + 1))) → IsAway rows from t j × (j ≤ k + 1)
      by (inl before) = let old = so_far.right t j before in let most = old.1 in (old.0, omega (arith, most))
      by (inr now) = let far = now.2 in (subst (λ (i : ℕ). IsAway rows from t i) (sym far) (come_from t now.1), omega (arith, far))

  step : (s t j : ℕ) → found_at next s ≡ Some j → j < k + 1 → is_next_to rows s t ≡ true → IsFoundBy next t (j + 1)
  step s t j is less next_to = by (was s j is).is
    where
      there : t < length found
      there = let in_rows = inside s t next_to in let count = so_far.count in omega (arith, in_rows, count)

      last : found_at found s ≡ Some j → j ≡ k → (o : Option ℕ) → found_at found t ≡ o → IsFoundBy next t (j + 1)
      last s_is same (Some i) o_is = let most = (so_far.right t i o_is).1 in (i, kept t i o_is, omega (arith, most, same))
      last s_is same None o_is =
          let far : is_exactly (found_at found s) k ≡ true = ap (λ (o : Option ℕ). is_exactly o k) s_is ∙ eq-eqb j k same in
          let in_rows = found_within found s j s_is in
          let count = so_far.count in (
            k + 1,
            new t there o_is (in_range (λ s. is_exactly (found_at found s) k && is_next_to rows s t) 0 (length rows) s (omega arith) (omega (arith, in_rows, count)) (and_from _ _ far next_to)),
            omega (arith, same),
          )

      before : found_at found s ≡ Some j → (j < k) ⊎ (k ≤ j) → IsFoundBy next t (j + 1)
      before s_is (inl low) = let by = so_far.step s t j s_is low next_to in (by.0, kept t by.0 by.1, by.2)
      before s_is (inr high) = last s_is (omega (arith, high, less)) (found_at found t) refl

      by : ((found_at found s ≡ Some j) ⊎ ((found_at found s ≡ None) × (behind s ≡ true) × (j ≡ k + 1))) → IsFoundBy next t (j + 1)
      by (inl s_is) = before s_is (cases_lt j k)
      by (inr now) = let far = now.2 in absurd (omega (arith, far, less))

  is_there : (o : Option ℕ) → is_some o ≡ true → (j : ℕ) × (o ≡ Some j)
  is_there None h = absurd (false≢true h)
  is_there (Some j) h = (j, refl)

  some_kept : (t : ℕ) → is_some (found_at found t) ≡ true → is_some (found_at next t) ≡ true
  some_kept t some = let at = is_there (found_at found t) some in ap is_some (kept t at.0 at.1)

  none_new : ((t : ℕ) → behind t ≡ false) → (t : ℕ) → is_exactly (found_at next t) (k + 1) ≡ false
  none_new none t = by (is_exactly (found_at next t) (k + 1)) refl
    where
      old : ((found_at found t ≡ Some (k + 1)) ⊎ ((found_at found t ≡ None) × (behind t ≡ true) × (k + 1 ≡ k + 1))) → ⊥
      old (inl before) = let most = (so_far.right t (k + 1) before).1 in omega (arith, most)
      old (inr now) = false≢true (sym (none t) ∙ now.1)

      by : (b : Bool) → is_exactly (found_at next t) (k + 1) ≡ b → b ≡ false
      by false is = refl
      by true is = absurd (old (was t (k + 1) (exactly (found_at next t) (k + 1) is)).is)

  abbrev is_new : ℕ → Bool
  is_new t = is_exactly (found_at next t) (k + 1)

  many : (k < how_many found) ⊎ ((t : ℕ) → is_exactly (found_at found t) k ≡ false) → (k + 1 < how_many next) ⊎ ((t : ℕ) → is_exactly (found_at next t) (k + 1) ≡ false)
  many (inr none) = inr (none_new (λ t. no_one t (range_with_len 0 (length rows))))
    where
      no_one : (t : ℕ) (places : List ℕ) → is_behind rows found k places t ≡ false
      no_one t [] = refl
      no_one t (s ∷ places) = ap (λ (b : Bool). (b && is_next_to rows s t) || is_behind rows found k places t) (none s) ∙ no_one t places
  many (inl more) = by (list_any is_new (range_with_len 0 (length next))) refl
    where
      grown : (t : ℕ) → found_at next t ≡ Some (k + 1) → Was t (k + 1) → k + 1 < how_many next
      grown t is w = at w.is
        where
          at : ((found_at found t ≡ Some (k + 1)) ⊎ ((found_at found t ≡ None) × (behind t ≡ true) × (k + 1 ≡ k + 1))) → k + 1 < how_many next
          at (inl before) = let most = (so_far.right t (k + 1) before).1 in absurd (omega (arith, most))
          at (inr now) = let less = one_more found next same_long some_kept t now.0 (ap is_some is) in omega (arith, less, more)

      none_at : list_any is_new (range_with_len 0 (length next)) ≡ false → (t : ℕ) → (t < length next) ⊎ (length next ≤ t) → is_new t ≡ false
      none_at none t (inl within) = none_in_range is_new 0 (length next) t (omega arith) (omega (arith, within)) none
      none_at none t (inr past) = past_end next t (k + 1) past

      by : (b : Bool) → list_any is_new (range_with_len 0 (length next)) ≡ b → (k + 1 < how_many next) ⊎ ((t : ℕ) → is_exactly (found_at next t) (k + 1) ≡ false)
      by true some =
          let t = some_of is_new (range_with_len 0 (length next)) some in
          let is = exactly (found_at next t.0) (k + 1) t.1 in
          inl (grown t.0 is (was t.0 (k + 1) is))
      by false none = inr (λ t. none_at none t (cases_lt t (length next)))

  pub found_more : AreFound rows from (k + 1) next
  found_more = record {
    count = same_long ∙ so_far.count;
    start = kept from 0 so_far.start;
    right = right;
    step = step;
    many = many so_far.many;
  }

-- ---- all of them, once no switch is as far away as the round
any_exactly : (k : ℕ) (found : List (Option ℕ)) → list_any (λ one. is_exactly one k) found ≡ false → (t : ℕ) → is_exactly (found_at found t) k ≡ false
any_exactly k [] none t = refl
any_exactly k (one ∷ found) none zero = (or_parts (is_exactly one k) _ none).0
any_exactly k (one ∷ found) none (suc t) = any_exactly k found (or_parts (is_exactly one k) _ none).1 t

module _ (rows : List (List GraphLink)) (from k : ℕ) (found : List (Option ℕ)) (last : AreFound rows from k found) (none : (t : ℕ) → is_exactly (found_at found t) k ≡ false) where
  nearer : (t j : ℕ) → found_at found t ≡ Some j → j < k
  nearer t j is =
      let most = (last.right t j is).1 in
      let other : j ≢ k = λ same. false≢true (sym (none t) ∙ ap (λ (o : Option ℕ). is_exactly o k) is ∙ eq-eqb j k same) in
      omega (arith, most, other)

  along : (s i : ℕ) → found_at found s ≡ Some i → (t : ℕ) (steps : List ℕ) → is_walk_by (is_next_to rows) s steps t ≡ true → IsFoundBy found t (i + length steps)
  along s i is t [] walk = (i, ap (found_at found) (sym (eqb-true s t walk)) ∙ is, omega arith)
  along s i is t (v ∷ steps) walk =
      let parts = and_parts (is_next_to rows s v) (is_walk_by (is_next_to rows) v steps t) walk in
      let one = last.step s v i is (nearer s i is) parts.0 in
      let rest = along v one.0 one.1 t steps parts.1 in
      let near = one.2 in
      let far = rest.2 in
      (rest.0, rest.1, omega (arith, near, far))

  found_enough : AreDistances rows from found
  found_enough = record {
    count = last.count;
    right = λ t j is. (last.right t j is).0;
    least = λ t steps walk. (let by = along from 0 last.start t steps walk in let most = by.2 in (by.0, by.1, omega (arith, most)));
  }

pub found_early : (rows : List (List GraphLink)) (from k : ℕ) (found : List (Option ℕ)) → AreFound rows from k found
    → list_any (λ one. is_exactly one k) found ≡ false → AreDistances rows from found
found_early rows from k found last none = found_enough rows from k found last (any_exactly k found none)

pub found_all : (rows : List (List GraphLink)) (from : ℕ) (found : List (Option ℕ)) → AreFound rows from (length rows) found → AreDistances rows from found
found_all rows from found last = by last.many
  where
    by : (length rows < how_many found) ⊎ ((t : ℕ) → is_exactly (found_at found t) (length rows) ≡ false) → AreDistances rows from found
    by (inl more) = absurd (let all = at_most found in let count = last.count in omega (arith, more, all, count))
    by (inr none) = found_enough rows from (length rows) found last none

-- there are such distances
rounds : (rows : List (List GraphLink)) (from : ℕ) → AreInside rows → from < length rows → (k : ℕ) → (found : List (Option ℕ)) × AreFound rows from k found
rounds rows from inside within zero = (slice_set (blank (length rows)) from (Some 0), found_first rows from within)
rounds rows from inside within (suc k) =
    let so_far = rounds rows from inside within k in
    let next = map (further rows so_far.0 k) (range_with_len 0 (length rows)) in
    let size : length next ≡ length rows =
    length-map (range_with_len 0 (length rows)) (further rows so_far.0 k) ∙ length-range_with_len 0 (length rows) in
    let count = so_far.1.count in
    let more : AreFound rows from (k + 1) next = found_more rows from k so_far.0 next inside so_far.1 (size ∙ sym count)
    (λ t less. let same : 0 + t ≡ t = omega arith in
    let in_rows : t < length rows = omega (arith, less, count) in
    get_or-map-range_with_len (further rows so_far.0 k) 0 (length rows) t t None in_rows same) in
    let same : k + 1 ≡ suc k = omega arith in
    (next, subst (λ (n : ℕ). AreFound rows from n next) same more)

pub distances_exist : (rows : List (List GraphLink)) (from : ℕ) → AreInside rows → from < length rows → (found : List (Option ℕ)) × AreDistances rows from found
distances_exist rows from inside within =
    let last = rounds rows from inside within (length rows) in (last.0, found_all rows from last.0 last.1)
