-- Lists whose elements change by their numbers.
use Rattle.std.proofs.Common.{ℕ, zero, suc, ◌≡◌, ◌+◌, ◌-◌, ◌==◌, ◌∙◌, ap, refl, sym, Bool, true, false, if◌then◌else◌, List, [], ◌∷◌, length, slice_get, slice_set, Some, None, ◌<◌, option_map, arith}
use Rattle.std.proofs.lemmas.Bool.{eq-eqb, ne_eqb}
use Rattle.std.proofs.lemmas.Option.{same_Some}
use Rattle.std.proofs.Math.Nat.{add-zero}
use Rattle.table_push.specs.Nodes.{numbered}

pub numbered_alike : {X : Type 0} (f g : ℕ → X → X) (first : ℕ) (xs : List X) → ((n : ℕ) (x : X) → f n x ≡ g n x) → numbered f first xs ≡ numbered g first xs
numbered_alike f g first [] each = refl
numbered_alike f g first (x ∷ xs) each =
    let head = each first x in
    let tail = numbered_alike f g (first + 1) xs each in
    λ place. head place ∷ tail place

pub numbered_same : {X : Type 0} (f : ℕ → X → X) (first : ℕ) (xs : List X) → ((n : ℕ) (x : X) → f n x ≡ x) → numbered f first xs ≡ xs
numbered_same f first [] each = refl
numbered_same f first (x ∷ xs) each =
    let head = each first x in
    let tail = numbered_same f (first + 1) xs each in
    λ place. head place ∷ tail place

pub numbered_twice : {X : Type 0} (f g h : ℕ → X → X) (first : ℕ) (xs : List X) → ((n : ℕ) (x : X) → f n (g n x) ≡ h n x)
    → numbered f first (numbered g first xs) ≡ numbered h first xs
numbered_twice f g h first [] each = refl
numbered_twice f g h first (x ∷ xs) each =
    let head = each first x in
    let tail = numbered_twice f g h (first + 1) xs each in
    λ place. head place ∷ tail place

-- no element from there on has that number
past : {X : Type 0} (change : X → X) (number first : ℕ) (xs : List X) → number < first
    → numbered (λ n x. if number == n then change x else x) first xs ≡ xs
past change number first [] below = refl
past change number first (x ∷ xs) below =
    let apart : (number == first) ≡ false = ne_eqb number first (λ same. omega (arith, same, below)) in
    let head : (if number == first then change x else x) ≡ x = rw apart refl in
    let tail = past change number (first + 1) xs (omega (arith, below)) in
    λ place. head place ∷ tail place

-- the one of that number changes
pub numbered_at : {X : Type 0} (change : X → X) (number first k : ℕ) (xs : List X) (x : X) → number ≡ first + k → slice_get xs k ≡ Some x
    → numbered (λ n y. if number == n then change y else y) first xs ≡ slice_set xs k (change x)
numbered_at change number first k [] x is there = absurd (cc)
numbered_at change number first zero (y ∷ xs) x is there =
    let same : number ≡ first = is ∙ add-zero first in
    let here : (number == first) ≡ true = eq-eqb number first same in
    let head : (if number == first then change y else y) ≡ change x = rw here (ap change (same_Some y x there)) in
    let tail = past change number (first + 1) xs (omega (arith, same)) in
    λ place. head place ∷ tail place
numbered_at change number first (suc k) (y ∷ xs) x is there =
    let apart : (number == first) ≡ false = ne_eqb number first (λ same. omega (arith, same, is)) in
    let head : (if number == first then change y else y) ≡ y = rw apart refl in
    let tail = numbered_at change number (first + 1) k xs x (omega (arith, is)) there in
    λ place. head place ∷ tail place

pub long_numbered : {X : Type 0} (f : ℕ → X → X) (first : ℕ) (xs : List X) → length (numbered f first xs) ≡ length xs
long_numbered f first [] = refl
long_numbered f first (x ∷ xs) = ap suc (long_numbered f (first + 1) xs)

-- an element then
pub got_numbered : {X : Type 0} (f : ℕ → X → X) (first : ℕ) (xs : List X) (k : ℕ) → slice_get (numbered f first xs) k ≡ option_map (f (first + k)) (slice_get xs k)
got_numbered f first [] k = refl
got_numbered {X = X} f first (x ∷ xs) zero = ap (λ (n : ℕ). Some (f n x)) (sym (add-zero first))
got_numbered {X = X} f first (x ∷ xs) (suc k) =
    got_numbered f (first + 1) xs k ∙ ap (λ (n : ℕ). option_map (f n) (slice_get xs k)) next
  where
    next : first + 1 + k ≡ first + suc k
    next = omega arith

-- each element keeps what a function of it reports
pub kept_at : {X Y : Type 0} (f : ℕ → X → X) (g : X → Y) (first : ℕ) (xs : List X) (k : ℕ) → ((n : ℕ) (x : X) → g (f n x) ≡ g x)
    → option_map g (slice_get (numbered f first xs) k) ≡ option_map g (slice_get xs k)
kept_at f g first [] k keeps = refl
kept_at {Y = Y} f g first (x ∷ xs) zero keeps = ap (λ (y : Y). Some y) (keeps first x)
kept_at f g first (x ∷ xs) (suc k) keeps = kept_at f g (first + 1) xs k keeps

-- the same where elements count from 1, and 0 is none
pub kept_from_1 : {X Y : Type 0} (f : ℕ → X → X) (g : X → Y) (number : ℕ) (xs : List X) (b : Bool) → ((n : ℕ) (x : X) → g (f n x) ≡ g x)
    → option_map g (if b then None else slice_get (numbered f 1 xs) (number - 1)) ≡ option_map g (if b then None else slice_get xs (number - 1))
kept_from_1 f g number xs true keeps = refl
kept_from_1 f g number xs false keeps = kept_at f g 1 xs (number - 1) keeps
