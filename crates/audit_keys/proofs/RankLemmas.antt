-- Partitions ranked by how many pairs may talk in them.
use Rattle.std.proofs.Common.{◌≡◌, ◌∙◌, inl, inr, ap, refl, sym, ℕ, suc, ◌+◌, ◌≤◌, ◌<◌, Bool, true, false, not, if◌then◌else◌, List, [], ◌∷◌, ◌++◌, drop, flat_map, fold, length, nat_lt, position, take, Some, None, arith}
use Rattle.std.specs.List.{AllByRecursion, count_by, position_or_len}
use Rattle.std.proofs.lemmas.Bool.{cases_Bool}
use Rattle.std.proofs.lemmas.Bool.Decides.{nat_tests}
use Rattle.std.proofs.lemmas.List.Sums.{fold-append, prefix_len-le-length, sum_by-cons}
use Rattle.audit_keys.specs.declared.apart.Wide.{Wide}
use Rattle.audit_ports.specs.declared.port.AuditedPort.{AuditedPort}
use Rattle.audit_keys.specs.Apart.{place_behind, ranked_with, wide_at, wide_with}
use Rattle.audit_keys.specs.Laws.{Fall, TheWidestComeFirst}

abbrev AreUpTo : ℕ → List Wide → Type 0
AreUpTo most all = AllByRecursion (λ one. one.count ≤ most) all

-- ---- if fewer pairs may talk in none of them, the place is behind all
pub no_place : {X : Type 0} (p : X → Bool) (xs : List X) → position p xs ≡ None → length xs ≡ position_or_len p xs
no_place p xs none = elim (cases_Bool (nat_lt (position_or_len p xs) (length xs))) [
  | inl less ↦ let e : Some (position_or_len p xs) ≡ None = rw less at none in cc
  | inr more ↦
      let high : length xs ≤ position_or_len p xs = grind (arith, nat_tests, more) in
      let low : position_or_len p xs ≤ length xs = prefix_len-le-length (λ x. not (p x)) xs in
      omega (arith, high, low)
]

-- ---- base by base
pub all_ranked : (ports : List AuditedPort) (so_far : List Wide) (bases : List ℕ)
    → fold (wide_with ports) so_far bases ≡ fold ranked_with so_far (flat_map (wide_at ports) bases)
all_ranked ports so_far [] = refl
all_ranked ports so_far (base ∷ bases) =
    all_ranked ports (wide_with ports so_far base) bases ∙ sym (fold-append ranked_with so_far (wide_at ports base) (flat_map (wide_at ports) bases))

-- ---- one more goes before the first, if fewer pairs may talk in that, and else behind it
before_first : (first one : Wide) (rest : List Wide) → nat_lt first.count one.count ≡ true → ranked_with (first ∷ rest) one ≡ one ∷ first ∷ rest
before_first first one rest less = rw less refl

behind_first : (first one : Wide) (rest : List Wide) → nat_lt first.count one.count ≡ false → ranked_with (first ∷ rest) one ≡ first ∷ ranked_with rest one
behind_first first one rest more =
    let next : 1 + place_behind one.count rest ≡ suc (place_behind one.count rest) = omega arith in
    rw more (ap (λ (n : ℕ). take n (first ∷ rest) ++ one ∷ drop n (first ∷ rest)) next)

-- ---- the greatest first
up_to_more : (less most : ℕ) (all : List Wide) → less ≤ most → AreUpTo less all → AreUpTo most all
up_to_more less most [] under up = tt
up_to_more less most (one ∷ all) under up =
    let own = up.0 in
    (omega (arith, own, under), up_to_more less most all under up.1)

up_to_with : (most : ℕ) (all : List Wide) (one : Wide) → AreUpTo most all → one.count ≤ most → AreUpTo most (ranked_with all one)
up_to_with most [] one up under = (under, tt)
up_to_with most (first ∷ rest) one up under = elim (cases_Bool (nat_lt first.count one.count)) [
  | inl less ↦ rw (before_first first one rest less) (under, up)
  | inr more ↦ rw (behind_first first one rest more) (up.0, up_to_with most rest one up.1 under)
]

falls_with : (all : List Wide) (one : Wide) → Fall all → Fall (ranked_with all one)
falls_with [] one fall = (tt, tt)
falls_with (first ∷ rest) one fall = elim (cases_Bool (nat_lt first.count one.count)) [
  | inl less ↦
      let under : first.count ≤ one.count = grind (arith, nat_tests, less) in
      rw (before_first first one rest less) ((under, up_to_more first.count one.count rest under fall.0), fall)
  | inr more ↦
      let under : one.count ≤ first.count = grind (arith, nat_tests, more) in
      rw (behind_first first one rest more) (up_to_with first.count rest one fall.0 under, falls_with rest one fall.1)
]

all_fall : (so_far all : List Wide) → Fall so_far → Fall (fold ranked_with so_far all)
all_fall so_far [] fall = fall
all_fall so_far (one ∷ all) fall = all_fall (ranked_with so_far one) all (falls_with so_far one fall)

-- ---- each as often as before
abbrev one_if : Bool → ℕ
one_if b = if b then 1 else 0

swapped : (a b c : ℕ) → a + (b + c) ≡ b + (a + c)
swapped a b c = omega arith

count_with : (test : Wide → Bool) (all : List Wide) (one : Wide) → count_by test (ranked_with all one) ≡ one_if (test one) + count_by test all
count_with test [] one = sum_by-cons (λ x. one_if (test x)) one []
count_with test (first ∷ rest) one = elim (cases_Bool (nat_lt first.count one.count)) [
  | inl less ↦ rw (before_first first one rest less) (sum_by-cons (λ x. one_if (test x)) one (first ∷ rest))
  | inr more ↦ rw (behind_first first one rest more)
      (sum_by-cons (λ x. one_if (test x)) first (ranked_with rest one)
      ∙ ap (λ (n : ℕ). one_if (test first) + n) (count_with test rest one)
      ∙ swapped (one_if (test first)) (one_if (test one)) (count_by test rest)
      ∙ ap (λ (n : ℕ). one_if (test one) + n) (sym (sum_by-cons (λ x. one_if (test x)) first rest)))
]

moved : (a b c : ℕ) → (a + b) + c ≡ b + (a + c)
moved a b c = omega arith

all_count : (test : Wide → Bool) (so_far all : List Wide) → count_by test (fold ranked_with so_far all) ≡ count_by test so_far + count_by test all
all_count test so_far [] = omega arith
all_count test so_far (one ∷ all) =
    all_count test (ranked_with so_far one) all
    ∙ ap (λ (n : ℕ). n + count_by test all) (count_with test so_far one)
    ∙ moved (one_if (test one)) (count_by test so_far) (count_by test all)
    ∙ ap (λ (n : ℕ). count_by test so_far + n) (sym (sum_by-cons (λ x. one_if (test x)) one all))

pub the_widest_come_first : TheWidestComeFirst
the_widest_come_first = record {
  falls = λ all. all_fall [] all tt;
  same = λ all test. let gone : 0 + count_by test all ≡ count_by test all = omega arith in all_count test [] all ∙ gone;
}
