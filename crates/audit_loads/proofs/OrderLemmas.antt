-- A list that is sorted by its loads, the greatest first, those of one load in their order.
use Rattle.std.proofs.Common.{◌≡◌, ◌∙◌, inl, inr, ap, refl, sym, ℕ, zero, suc, ◌<◌, ◌≤◌, Bool, true, false, ◌==◌, List, [], ◌∷◌, filter, length, get_or, nat_lt, arith}
use Rattle.std.specs.List.{AllByRecursion, fold}
use Rattle.std.specs.List.Sorted.{IsPermutation, IsSortedBy, IsStableBy, ties}
use Rattle.std.specs.Ordering.{is_lt, nat_cmp}
use denote.Param.Members.{Mut}
use Rattle.std.specs.Fn.{Called, ComparesAs}
use Rattle.std.specs.Borrow.{Bor}
use Rattle.std.specs.declared.cmp.Ordering.{Ordering}
use Rattle.std.proofs.lemmas.Fn.{always_returns_same}
use Rattle.std.specs.Cmp.{IsStrictWeakOrder}
use Rattle.std.proofs.lemmas.Bool.{cases_Bool, cases_lt}
use Rattle.std.proofs.lemmas.Bool.Decides.{nat_tests}
use Rattle.std.proofs.lemmas.Cmp.{nat_cmp_total}
use Rattle.std.proofs.lemmas.List.Elements.{All-from_recursion, filter_agree, recursion_from_All}
use Rattle.std.proofs.lemmas.Map.Keys.{ge_from_not_lt}
use Rattle.std.proofs.lemmas.List.Sorted.{All-permutation, IsStrictWeakOrder-flip, ranks_by, sorted_far}
use Rattle.fabric_parts.specs.Cable.{port}
use Rattle.audit_loads.specs.declared.loaded.Loaded.{Loaded}
use Rattle.audit_loads.specs.Loads.{greater, most_of}
use Rattle.audit_loads.specs.Order.{from_load, has_load, ordered}

-- ---- loads up to a number
abbrev pub AreUpTo : ℕ → List Loaded → Type 0
AreUpTo most all = AllByRecursion (λ one. one.load ≤ most) all

-- ---- the greatest
greater_both : (most : ℕ) (one : Loaded) → (most ≤ greater most one) × (one.load ≤ greater most one)
greater_both most one = elim (cases_Bool (nat_lt most one.load)) [
  | inl more ↦ let less : most < one.load = grind (arith, nat_tests, more) in rw more (omega (arith, less), omega arith)
  | inr off ↦ let less : one.load ≤ most = grind (arith, nat_tests, off) in rw off (omega arith, less)
]

grows : (all : List Loaded) (most : ℕ) → most ≤ fold greater most all
grows [] most = omega arith
grows (one ∷ all) most =
    let here = (greater_both most one).0 in
    let rest : greater most one ≤ fold greater most (one ∷ all) = grows all (greater most one) in
    omega (arith, here, rest)

up_to_fold : (all : List Loaded) (most : ℕ) → AreUpTo (fold greater most all) all
up_to_fold [] most = tt
up_to_fold (one ∷ all) most =
    let here = (greater_both most one).1 in
    let rest : greater most one ≤ fold greater most (one ∷ all) = grows all (greater most one) in
    (omega (arith, here, rest), up_to_fold all (greater most one))

pub up_to_most : (all : List Loaded) → AreUpTo (most_of all) all
up_to_most all = up_to_fold all 0

-- ---- falling loads
abbrev pub Fall : List Loaded → Type 0
Fall [] = Unit {0}
Fall (one ∷ rest) = AreUpTo one.load rest × Fall rest

none_above : (all : List Loaded) (most load : ℕ) → AreUpTo most all → most < load → filter (has_load load) all ≡ []
none_above [] most load up above = refl
none_above (one ∷ all) most load up above =
    let less = up.0 in
    let other : (one.load == load) ≡ false = grind (arith, nat_tests, less, above) in
    rw other (none_above all most load up.1 above)

above_out : (one : Loaded) (rest : List Loaded) (load : ℕ) → load < one.load → from_load (one ∷ rest) load ≡ from_load rest load
above_out one rest zero above = let other : (one.load == 0) ≡ false = grind (arith, nat_tests, above) in rw other refl
above_out one rest (suc load) above =
    let other : (one.load == suc load) ≡ false = grind (arith, nat_tests, above) in
    rw (other, above_out one rest load (omega (arith, above))) refl

first_first : (one : Loaded) (rest : List Loaded) (most : ℕ) → one.load ≤ most → AreUpTo one.load rest → from_load (one ∷ rest) most ≡ one ∷ from_load rest one.load
first_first one rest zero up rests =
    let none : one.load ≡ 0 = omega (arith, up) in
    let is : (one.load == 0) ≡ true = grind (arith, nat_tests, none) in
    rw (is, none) refl
first_first one rest (suc most) up rests = elim (cases_Bool (one.load == suc most)) [
  | inl is ↦ let same : one.load ≡ suc most = grind (arith, nat_tests, is) in
      rw (is, above_out one rest most (omega (arith, same))) (ap (λ (n : ℕ). one ∷ from_load rest n) (sym same))
  | inr other ↦ let less : one.load ≤ most = grind (arith, nat_tests, up, other) in
      rw (other, none_above rest one.load (suc most) rests (omega (arith, less))) (first_first one rest most less rests)
]

nothing_from : (most : ℕ) → from_load [] most ≡ []
nothing_from zero = refl
nothing_from (suc most) = nothing_from most

falling_is : (all : List Loaded) (most : ℕ) → AreUpTo most all → Fall all → from_load all most ≡ all
falling_is [] most up fall = nothing_from most
falling_is (one ∷ rest) most up fall =
    first_first one rest most up.0 fall.0 ∙ ap (λ (all : List Loaded). one ∷ all) (falling_is rest one.load fall.0 fall.1)

-- ---- two lists in which those of each load are the same
from_same : (xs ys : List Loaded) (most : ℕ) → ((load : ℕ) → filter (has_load load) xs ≡ filter (has_load load) ys) → from_load xs most ≡ from_load ys most
from_same xs ys zero same = same 0
from_same xs ys (suc most) same = rw (same (suc most), from_same xs ys most same) refl

-- ---- what a sort gives
abbrev pub is_before : Loaded → Loaded → Bool
is_before one other = is_lt (nat_cmp other.load one.load)

pub before_is_order : IsStrictWeakOrder is_before
before_is_order = IsStrictWeakOrder-flip (λ one other. is_lt (nat_cmp one.load other.load)) (ranks_by nat_cmp_total (λ one. one.load))

up_to_each : (most : ℕ) (all : List Loaded) → ((k : ℕ) (none : Loaded) → k < length all → (get_or all k none).load ≤ most) → AreUpTo most all
up_to_each most [] each = tt
up_to_each most (one ∷ all) each = (each 0 one (omega arith), up_to_each most all (λ k none less. each (suc k) none (omega (arith, less))))

falls : (all : List Loaded) → ((i j : ℕ) (none : Loaded) → i ≤ j → j < length all → (get_or all j none).load ≤ (get_or all i none).load) → Fall all
falls [] up = tt
falls (one ∷ all) up = (
  up_to_each one.load all (λ k none less. up 0 (suc k) none (omega arith) (omega (arith, less))),
  falls all (λ i j none behind less. up (suc i) (suc j) none (omega (arith, behind)) (omega (arith, less))),
)

ties_are : (load : ℕ) (one : Loaded) → ties is_before (record { load = load; at = port 0 0 }) one ≡ has_load load one
ties_are load one = elim (cases_lt load one.load) [
  | inl less ↦
      let a : nat_lt load one.load ≡ true = grind (arith, nat_tests, less) in
      let b : nat_lt one.load load ≡ false = grind (arith, nat_tests, less) in
      let c : (one.load == load) ≡ false = grind (arith, nat_tests, less) in
      rw (b, c, a) refl
  | inr more ↦ elim (cases_lt one.load load) [
    | inl less ↦
        let a : nat_lt one.load load ≡ true = grind (arith, nat_tests, less) in
        let c : (one.load == load) ≡ false = grind (arith, nat_tests, less) in
        rw (a, c) refl
    | inr other ↦
        let same : one.load ≡ load = omega (arith, more, other) in
        let a : nat_lt load load ≡ false = grind (arith, nat_tests) in
        let c : (load == load) ≡ true = grind (arith, nat_tests) in
        rw (same, a, c) refl
  ]
]

pub sorted_is : (loads all : List Loaded) → IsPermutation loads all → IsSortedBy is_before all → IsStableBy is_before loads all → all ≡ ordered loads
sorted_is loads all moved sorted stable =
    let fall : Fall all = falls all (λ i j none behind less. ge_from_not_lt _ _ (sorted_far is_before before_is_order all sorted i j none behind less)) in
    let up : AreUpTo (most_of loads) all =
    recursion_from_All (λ one. one.load ≤ most_of loads) all
    (All-permutation (λ one. one.load ≤ most_of loads) loads all moved (All-from_recursion (λ one. one.load ≤ most_of loads) loads (up_to_most loads))) in
    sym (falling_is all (most_of loads) up fall)
    ∙ from_same all loads (most_of loads)
    (λ load.
    sym (filter_agree (ties is_before (record { load = load; at = port 0 0 })) (has_load load) (ties_are load) all)
    ∙ stable (record { load = load; at = port 0 0 })
    ∙ filter_agree (ties is_before (record { load = load; at = port 0 0 })) (has_load load) (ties_are load) loads)

pub compares : {F : Type 0} {g : Mut F (Bor Loaded × (Bor Loaded × Unit {0})) Ordering} {f : F}
    → ((a : Bor Loaded × (Bor Loaded × Unit {0})) (r : Ordering) (f' : F) → Called g f a r f' → (r ≡ nat_cmp a.1.0.now.load a.0.now.load) × (f' ≡ f)) → ComparesAs g is_before f
compares {g = g} {f = f} calls =
    always_returns_same g (λ a r. is_lt r ≡ is_before a.0.now a.1.0.now) f (λ a r f' called. (ap is_lt (calls a r f' called).0, (calls a r f' called).1))
