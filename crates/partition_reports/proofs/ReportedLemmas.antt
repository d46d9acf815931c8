-- Changes say what one file has and the other has not.
use Rattle.std.proofs.Common.{◌≡◌, ℕ, ◌+◌, ◌<◌, Bool, true, false, not, ◌==◌, ◌&&◌, ◌||◌, if◌then◌else◌, List, [], ◌∷◌, ◌++◌, Option, Some, None, refl, sym, ap, ◌∙◌, inl, inr, subst, arith}
use Rattle.std.specs.List.{AllByRecursion, count_by, flat_map, list_any, sum_by}
use Rattle.std.proofs.lemmas.Bool.{cases_Bool, eqb-true, false≢true}
use Rattle.std.proofs.lemmas.Bool.Decides.{nat_tests}
use Rattle.step_results.proofs.RisingLemmas.{Rises}
use Rattle.partition_reports.specs.Changes.{changes_of, coming, going}
use Rattle.partition_reports.specs.ChangeLaws.{ReportWhatChanges, comings, goings, one_if, says}
use Rattle.std.proofs.lemmas.List.Sums.{sum_by-append, sum_by-cons}

-- ---- counts
pub count_flat : {X Y : Type 0} (p : Y → Bool) (f : X → List Y) (xs : List X) → count_by p (flat_map f xs) ≡ sum_by (λ x. count_by p (f x)) xs
count_flat p f [] = refl
count_flat p f (x ∷ xs) =
    sum_by-append (λ y. one_if (p y)) (f x) (flat_map f xs) ∙ ap (λ n. count_by p (f x) + n) (count_flat p f xs) ∙ sym (sum_by-cons (λ x. count_by p (f x)) x xs)

pub same_sum : {X : Type 0} (f g : X → ℕ) → ((x : X) → f x ≡ g x) → (xs : List X) → sum_by f xs ≡ sum_by g xs
same_sum f g same [] = refl
same_sum f g same (x ∷ xs) =
    sum_by-cons f x xs ∙ ap (λ n. n + sum_by f xs) (same x) ∙ ap (λ n. g x + n) (same_sum f g same xs) ∙ sym (sum_by-cons g x xs)

-- ---- one thing
-- both are it, or neither
none_reported : (a b : Bool) → a ≡ b → 0 ≡ one_if (a && not b)
none_reported true true e = refl
none_reported false false e = refl
none_reported true false e = absurd (false≢true (sym e))
none_reported false true e = absurd (false≢true e)

-- what goes of one thing
pub one_goes : {X : Type 0} (same : X → X → Bool) → ((v w x : X) → same v w ≡ true → same x v ≡ same x w) → ((v w x : X) → same x v ≡ true → same x w ≡ true → same v w ≡ true)
    → (x : X) (before after : Option X) → goings same x (changes_of same before after) ≡ one_if (says same x before && not (says same x after))
one_goes same alike joined x None None = refl
one_goes same alike joined x None (Some w) = refl
one_goes same alike joined x (Some v) None = by (same x v)
  where
    by : (b : Bool) → 0 + one_if b ≡ one_if (b && true)
    by true = refl
    by false = refl
one_goes same alike joined x (Some v) (Some w) = by (same v w) refl
  where
    some : (a b : Bool) → (a ≡ true → b ≡ true → false ≡ true) → (0 + one_if a) + one_if false ≡ one_if (a && not b)
    some true true never = absurd (false≢true (never refl refl))
    some true false never = refl
    some false b never = refl

    by : (kept : Bool) → same v w ≡ kept → goings same x (if kept then [] else going (Some v) ++ coming (Some w)) ≡ one_if (same x v && not (same x w))
    by true e = none_reported (same x v) (same x w) (alike v w x e)
    by false e = some (same x v) (same x w) (λ a b. sym e ∙ joined v w x a b)

pub one_comes : {X : Type 0} (same : X → X → Bool) → ((v w x : X) → same v w ≡ true → same x v ≡ same x w) → ((v w x : X) → same x v ≡ true → same x w ≡ true → same v w ≡ true)
    → (x : X) (before after : Option X) → comings same x (changes_of same before after) ≡ one_if (says same x after && not (says same x before))
one_comes same alike joined x None None = refl
one_comes same alike joined x (Some v) None = refl
one_comes same alike joined x None (Some w) = by (same x w)
  where
    by : (b : Bool) → 0 + one_if b ≡ one_if (b && true)
    by true = refl
    by false = refl
one_comes same alike joined x (Some v) (Some w) = by (same v w) refl
  where
    some : (a b : Bool) → (a ≡ true → b ≡ true → false ≡ true) → (0 + one_if false) + one_if b ≡ one_if (b && not a)
    some true true never = absurd (false≢true (never refl refl))
    some false true never = refl
    some true false never = refl
    some false false never = refl

    by : (kept : Bool) → same v w ≡ kept → comings same x (if kept then [] else going (Some v) ++ coming (Some w)) ≡ one_if (same x w && not (same x v))
    by true e = none_reported (same x w) (same x v) (sym (alike v w x e))
    by false e = some (same x v) (same x w) (λ a b. sym e ∙ joined v w x a b)

-- ---- many things, of which what is said is of one
unfoldable pub Apart : {Z : Type 0} → (Z → Bool) → (Z → Bool) → (Z → Bool) → List Z → Type 0
Apart own P Q [] = Unit {0}
Apart own P Q (z ∷ zs) =
    ((own z ≡ true → list_any own zs ≡ false) × ((P z ≡ true → own z ≡ true) × (Q z ≡ true → own z ≡ true))) × Apart own P Q zs

pub weaker_none : (a b : Bool) → (a ≡ true → b ≡ true) → b ≡ false → a ≡ false
weaker_none true b f none = absurd (false≢true (sym none ∙ f refl))
weaker_none false b f none = refl

or_none : (a b : Bool) → (a || b) ≡ false → (a ≡ false) × (b ≡ false)
or_none true b e = absurd (cc)
or_none false b e = (refl, e)

none_of : {Z : Type 0} (own P Q : Z → Bool) (zs : List Z) → Apart own P Q zs → list_any own zs ≡ false
    → (list_any P zs ≡ false) × (list_any Q zs ≡ false)
unfolding Apart
none_of own P Q [] are none = (refl, refl)
none_of own P Q (z ∷ zs) are none =
    let parts = or_none (own z) (list_any own zs) none in
    let rest = none_of own P Q zs are.1 parts.1 in
    let first : P z ≡ false = weaker_none (P z) (own z) are.0.1.0 parts.0 in
    let second : Q z ≡ false = weaker_none (Q z) (own z) are.0.1.1 parts.0 in
    (rw (first, rest.0) refl, rw (second, rest.1) refl)

pub alone : (a b : Bool) → one_if (a && not b) + one_if (false && not false) ≡ one_if ((a || false) && not (b || false))
alone true true = refl
alone true false = refl
alone false b = refl

pub none_more : (n : ℕ) → one_if (false && not false) + n ≡ n
none_more n = omega arith

one_apart : {Z : Type 0} (own P Q : Z → Bool) (z : Z) (zs : List Z) → Apart own P Q (z ∷ zs)
    → one_if (P z && not (Q z)) + one_if (list_any P zs && not (list_any Q zs)) ≡ one_if ((P z || list_any P zs) && not (Q z || list_any Q zs))
unfolding Apart
one_apart own P Q z zs are = elim (cases_Bool (own z)) [
  | inl here ↦
      let rest = none_of own P Q zs are.1 (are.0.0 here) in
      rw (rest.0, rest.1) (alone (P z) (Q z))
  | inr other ↦
      let first : P z ≡ false = weaker_none (P z) (own z) are.0.1.0 other in
      let second : Q z ≡ false = weaker_none (Q z) (own z) are.0.1.1 other in
      rw (first, second) (none_more (one_if (list_any P zs && not (list_any Q zs))))
]

pub kept_apart : {Z : Type 0} (own P Q : Z → Bool) (zs : List Z) → Apart own P Q zs
    → sum_by (λ z. one_if (P z && not (Q z))) zs ≡ one_if (list_any P zs && not (list_any Q zs))
unfolding Apart
kept_apart own P Q [] are = refl
kept_apart own P Q (z ∷ zs) are =
    sum_by-cons (λ z. one_if (P z && not (Q z))) z zs ∙ ap (λ n. one_if (P z && not (Q z)) + n) (kept_apart own P Q zs are.1) ∙ one_apart own P Q z zs are

-- ---- by bases
none_above : (n : ℕ) (bases : List ℕ) → AllByRecursion (λ y. n < y) bases → list_any (λ base. base == n) bases ≡ false
none_above n [] above = refl
none_above n (base ∷ bases) above =
    let differ : (base == n) ≡ false = grind (arith, nat_tests, above.0) in rw (differ, none_above n bases above.1) refl

pub apart_by_base : (P Q : ℕ → Bool) (n : ℕ) (bases : List ℕ) → Rises bases → ((k : ℕ) → P k ≡ true → (k == n) ≡ true) → ((k : ℕ) → Q k ≡ true → (k == n) ≡ true)
    → Apart (λ base. base == n) P Q bases
unfolding Apart
apart_by_base P Q n [] rising p q = tt
apart_by_base P Q n (base ∷ bases) rising p q =
    ((λ e. let same : base ≡ n = eqb-true base n e in none_above n bases (subst (λ (m : ℕ). AllByRecursion (λ y. m < y) bases) same rising.0), (p base, q base)), apart_by_base P Q n bases rising.1 p q)

pub only_one : (P : ℕ → Bool) (n : ℕ) (bases : List ℕ) → ((k : ℕ) → P k ≡ true → (k == n) ≡ true)
    → list_any P bases ≡ (list_any (λ base. base == n) bases && P n)
only_one P n [] p = refl
only_one P n (base ∷ bases) p = elim (cases_Bool (base == n)) [
  | inl here ↦
      let same : base ≡ n = eqb-true base n here in
      rw here (rw same (rw (only_one P n bases p) (absorbed (P n) (list_any (λ base. base == n) bases))))
  | inr other ↦
      let never : P base ≡ false = weaker_none (P base) (base == n) (p base) other in
      rw (other, never) (only_one P n bases p)
]
  where
    absorbed : (a b : Bool) → (a || (b && a)) ≡ a
    absorbed true b = refl
    absorbed false true = refl
    absorbed false false = refl

implied : (a b : Bool) → (b ≡ true → a ≡ true) → (a && b) ≡ b
implied true b f = refl
implied false true f = f refl
implied false false f = refl

-- what is said by bases, where each thing is said of its own base
pub by_bases : {X : Type 0} (same : X → X → Bool) → ((v w x : X) → same v w ≡ true → same x v ≡ same x w) → ((v w x : X) → same x v ≡ true → same x w ≡ true → same v w ≡ true)
    → (base_in : X → ℕ) (was becomes : ℕ → Option X) (bases : List ℕ) → Rises bases
    → ((k : ℕ) (x : X) → says same x (was k) ≡ true → (k == base_in x) ≡ true) → ((k : ℕ) (x : X) → says same x (becomes k) ≡ true → (k == base_in x) ≡ true)
    → ((x : X) → says same x (was (base_in x)) ≡ true → list_any (λ base. base == base_in x) bases ≡ true)
    → ((x : X) → says same x (becomes (base_in x)) ≡ true → list_any (λ base. base == base_in x) bases ≡ true)
    → ReportWhatChanges same (λ x. says same x (was (base_in x))) (λ x. says same x (becomes (base_in x))) (flat_map (λ base. changes_of same (was base) (becomes base)) bases)
by_bases same alike joined base_in was becomes bases rising p q there here = record {
  gone = λ x.
      count_flat (λ change. not change.comes && same x change.what) (λ base. changes_of same (was base) (becomes base)) bases
      ∙ same_sum (λ base. goings same x (changes_of same (was base) (becomes base))) (λ base. one_if (says same x (was base) && not (says same x (becomes base)))) (λ base. one_goes same alike joined x (was base) (becomes base)) bases
      ∙ kept_apart (λ base. base == base_in x) (λ base. says same x (was base)) (λ base. says same x (becomes base)) bases
      (apart_by_base (λ base. says same x (was base)) (λ base. says same x (becomes base)) (base_in x) bases rising (λ k. p k x) (λ k. q k x))
      ∙ rw (only_one (λ base. says same x (was base)) (base_in x) bases (λ k. p k x), only_one (λ base. says same x (becomes base)) (base_in x) bases (λ k. q k x), implied (list_any (λ base. base == base_in x) bases) (says same x (was (base_in x))) (there x), implied (list_any (λ base. base == base_in x) bases) (says same x (becomes (base_in x))) (here x)) refl;
  come = λ x.
      count_flat (λ change. change.comes && same x change.what) (λ base. changes_of same (was base) (becomes base)) bases
      ∙ same_sum (λ base. comings same x (changes_of same (was base) (becomes base))) (λ base. one_if (says same x (becomes base) && not (says same x (was base)))) (λ base. one_comes same alike joined x (was base) (becomes base)) bases
      ∙ kept_apart (λ base. base == base_in x) (λ base. says same x (becomes base)) (λ base. says same x (was base)) bases
      (apart_by_base (λ base. says same x (becomes base)) (λ base. says same x (was base)) (base_in x) bases rising (λ k. q k x) (λ k. p k x))
      ∙ rw (only_one (λ base. says same x (was base)) (base_in x) bases (λ k. p k x), only_one (λ base. says same x (becomes base)) (base_in x) bases (λ k. q k x), implied (list_any (λ base. base == base_in x) bases) (says same x (was (base_in x))) (there x), implied (list_any (λ base. base == base_in x) bases) (says same x (becomes (base_in x))) (here x)) refl;
}
