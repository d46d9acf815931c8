-- Lists, and what is read of them at one place: of any elements.
use Rattle.std.proofs.Common.{ℕ, zero, suc, ◌≡◌, ◌≢◌, ◌<◌, ◌≤◌, ◌⊎◌, inl, inr, ◌∙◌, ap, refl, sym, Bool, true, false, if◌then◌else◌, List, [], ◌∷◌, ◌++◌}
use Rattle.std.proofs.Common.{length, map, find, get_or, slice_get, slice_set, Option, Some, None, option_map, unwrap_or}
use Rattle.std.specs.List.{AllByRecursion, list_all}
use Rattle.std.specs.Option.{option_map_or}
use Rattle.std.proofs.lemmas.Bool.{and_parts}
use Rattle.std.proofs.lemmas.List.{set-get_or}
use Rattle.std.proofs.lemmas.List.Folds.{list_all-map}
use Rattle.std.proofs.lemmas.Option.{get_or_from_slice_get, same_Some, slice_get_cases, slice_get_past, slice_get-get_or, slice_get-map}
use Rattle.std.proofs.Math.Seq.{map-set_same}

-- ---- lists of which each element passes a test
pick : {X : Type 0} (p : X → Bool) (b : Bool) (y x : X) (rest : Option X) → (if b then Some y else rest) ≡ Some x
    → p y ≡ true → (rest ≡ Some x → p x ≡ true) → p x ≡ true
pick p true y x rest found here later = ap p (sym (same_Some y x found)) ∙ here
pick p false y x rest found here later = later found

pub find_all : {X : Type 0} (p q : X → Bool) (xs : List X) (x : X) → list_all p xs ≡ true → find q xs ≡ Some x → p x ≡ true
find_all p q [] x all found = cc
find_all p q (y ∷ ys) x all found =
    let parts = and_parts (p y) (list_all p ys) all in
    pick p (q y) y x (find q ys) found parts.0 (λ h. find_all p q ys x parts.1 h)

all_by : {X : Type 0} (p : X → Bool) (xs : List X) → list_all p xs ≡ list_all (λ b. b) (map p xs)
all_by p xs = sym (list_all-map (λ b. b) p xs)

pub all_same : {X : Type 0} (p : X → Bool) (xs ys : List X) → map p ys ≡ map p xs → list_all p ys ≡ list_all p xs
all_same p xs ys same = all_by p ys ∙ ap (list_all (λ b. b)) same ∙ sym (all_by p xs)

-- ---- lists with one element written
pub get_other : {X : Type 0} (xs : List X) (i k : ℕ) (x : X) → k ≢ i → slice_get (slice_set xs i x) k ≡ slice_get xs k
get_other [] i k x other = refl
get_other (y ∷ ys) zero zero x other = absurd (other refl)
get_other (y ∷ ys) zero (suc k) x other = refl
get_other (y ∷ ys) (suc i) zero x other = refl
get_other (y ∷ ys) (suc i) (suc k) x other = get_other ys i k x (λ same. other (ap suc same))

pub get_written : {X : Type 0} (xs : List X) (i : ℕ) (x was : X) → slice_get xs i ≡ Some was → slice_get (slice_set xs i x) i ≡ Some x
get_written [] i x was there = cc
get_written (y ∷ ys) zero x was there = refl
get_written (y ∷ ys) (suc i) x was there = get_written ys i x was there

-- what stands there is written there again
pub set_back : {X : Type 0} (xs : List X) (place : ℕ) (x next : X) → slice_get xs place ≡ Some x → next ≡ x → slice_set xs place next ≡ xs
set_back xs place x next there same = ap (slice_set xs place) (same ∙ sym (get_or_from_slice_get xs place x x there)) ∙ set-get_or xs place x

-- an element that f cannot report from the one before it
pub read_same : {X Y : Type 0} (f : X → Y) (xs : List X) (i : ℕ) (x y : X) → slice_get xs i ≡ Some x → f y ≡ f x → map f (slice_set xs i y) ≡ map f xs
read_same f xs i x y there same = map-set_same f xs i y x (same ∙ ap f (sym (get_or_from_slice_get xs i x x there)))

-- ---- what is read at one place, of lists that are alike
pub flat : {X Y Z : Type 0} (f : X → Y) (g : Y → Z) (o : Option X) → option_map g (option_map f o) ≡ option_map (λ x. g (f x)) o
flat f g None = refl
flat f g (Some x) = refl

pub get_same : {X Y : Type 0} (f : X → Y) (xs ys : List X) (k : ℕ) → map f ys ≡ map f xs
    → option_map f (slice_get ys k) ≡ option_map f (slice_get xs k)
get_same f xs ys k same = sym (slice_get-map f ys k) ∙ ap (λ (zs : List _). slice_get zs k) same ∙ slice_get-map f xs k

or_by : {X Y : Type 0} (f : X → Y) (d : Y) (o : Option X) → option_map_or f o d ≡ unwrap_or (option_map f o) d
or_by f d None = refl
or_by f d (Some x) = refl

pub or_same : {X Y : Type 0} (f : X → Y) (d : Y) (xs ys : List X) (k : ℕ) → map f ys ≡ map f xs
    → option_map_or f (slice_get ys k) d ≡ option_map_or f (slice_get xs k) d
or_same f d xs ys k same = or_by f d (slice_get ys k) ∙ ap (λ (o : Option _). unwrap_or o d) (get_same f xs ys k same) ∙ sym (or_by f d (slice_get xs k))

pub alike_at : (X : Type 0) (f : X → Bool) (xs ys : List X) (i : ℕ) → length ys ≡ length xs → ((d : X) → f (get_or ys i d) ≡ f (get_or xs i d))
    → option_map f (slice_get ys i) ≡ option_map f (slice_get xs i)
alike_at X f xs ys i same each = by_place (slice_get_cases xs i).1
  where
    by_place : ((x : X) × (i < length xs) × (slice_get xs i ≡ Some x) × (get_or xs i x ≡ x)) ⊎ ((length xs ≤ i) × (slice_get xs i ≡ None))
        → option_map f (slice_get ys i) ≡ option_map f (slice_get xs i)
    by_place (inl there) = rw (there.2, slice_get-get_or ys i there.0 (rw same there.1)) (ap (λ (b : Bool). Some b) (each there.0 ∙ ap f there.3))
    by_place (inr past) = rw (past.1, slice_get_past ys i (rw same past.0)) refl

-- ---- of each element
pub each_always : {X : Type 0} (P : X → Type 0) → ((x : X) → P x) → (xs : List X) → AllByRecursion P xs
each_always P so [] = tt
each_always P so (x ∷ xs) = (so x, each_always P so xs)

pub each_weaker : {X : Type 0} (P Q : X → Type 0) → ((x : X) → P x → Q x) → (xs : List X) → AllByRecursion P xs → AllByRecursion Q xs
each_weaker P Q more [] all = tt
each_weaker P Q more (x ∷ xs) all = (more x all.0, each_weaker P Q more xs all.1)

pub each_joined : {X : Type 0} (P : X → Type 0) (xs ys : List X) → AllByRecursion P xs → AllByRecursion P ys → AllByRecursion P (xs ++ ys)
each_joined P [] ys first second = second
each_joined P (x ∷ xs) ys first second = (first.0, each_joined P xs ys first.1 second)
