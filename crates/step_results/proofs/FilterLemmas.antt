-- How filters and maps of one list pass one another.
use Rattle.std.proofs.Common.{Bool, true, false, ◌||◌, List, [], ◌∷◌, map, filter, find, ◌≡◌, ap, refl, inl, inr}
use Rattle.std.specs.List.{list_all, list_any}
use Rattle.std.proofs.lemmas.Bool.{cases_Bool, both_ways, and_parts, false_from_ne_true}

pub filter_commutes : {X : Type 0} (a b : X → Bool) (xs : List X) → filter a (filter b xs) ≡ filter b (filter a xs)
filter_commutes a b [] = refl
filter_commutes a b (x ∷ xs) = elim (cases_Bool (a x)) [
  | inl in_a ↦ elim (cases_Bool (b x)) [
    | inl in_b ↦ rw (in_a, in_b, in_a) (ap (λ rest. x ∷ rest) (filter_commutes a b xs))
    | inr out_b ↦ rw (in_a, out_b) (filter_commutes a b xs)
  ]
  | inr out_a ↦ elim (cases_Bool (b x)) [
    | inl in_b ↦ rw (out_a, in_b, out_a) (filter_commutes a b xs)
    | inr out_b ↦ rw (out_a, out_b) (filter_commutes a b xs)
  ]
]

-- all that is looked for is kept
pub any_within : {X : Type 0} (test keep : X → Bool) → ((x : X) → test x ≡ true → keep x ≡ true) → (xs : List X) → list_any test (filter keep xs) ≡ list_any test xs
any_within test keep within [] = refl
any_within test keep within (x ∷ xs) = elim (cases_Bool (keep x)) [
  | inl in_it ↦ rw in_it (ap (λ rest. test x || rest) (any_within test keep within xs))
  | inr out ↦
      let fails : test x ≡ false = false_from_ne_true (test x) (λ passes. both_ways (keep x) out (within x passes)) in
      rw (out, fails) (any_within test keep within xs)
]

pub any_map_same : {X Y : Type 0} (test : X → Bool) (other : Y → Bool) (f : X → Y) → ((x : X) → other (f x) ≡ test x) → (xs : List X) → list_any other (map f xs) ≡ list_any test xs
any_map_same test other f same [] = refl
any_map_same test other f same (x ∷ xs) = rw (same x, any_map_same test other f same xs) refl

pub find_same : {X : Type 0} (a b : X → Bool) → ((x : X) → a x ≡ b x) → (xs : List X) → find a xs ≡ find b xs
find_same a b same [] = refl
find_same a b same (x ∷ xs) = rw (same x, find_same a b same xs) refl

-- a filter that a map does not change
pub filter_map_same : {X : Type 0} (keep : X → Bool) (f : X → X) → ((x : X) → keep (f x) ≡ keep x) → (xs : List X) → filter keep (map f xs) ≡ map f (filter keep xs)
filter_map_same keep f same [] = refl
filter_map_same keep f same (x ∷ xs) = elim (cases_Bool (keep x)) [
  | inl in_it ↦ rw (same x, in_it) (ap (λ rest. f x ∷ rest) (filter_map_same keep f same xs))
  | inr out ↦ rw (same x, out) (filter_map_same keep f same xs)
]

-- a map that changes only what is not kept
pub filter_map_absorbs : {X : Type 0} (keep : X → Bool) (f : X → X) → ((x : X) → keep (f x) ≡ keep x) → ((x : X) → keep x ≡ true → f x ≡ x) → (xs : List X)
    → filter keep (map f xs) ≡ filter keep xs
filter_map_absorbs keep f same idle [] = refl
filter_map_absorbs keep f same idle (x ∷ xs) = elim (cases_Bool (keep x)) [
  | inl in_it ↦ rw (same x, in_it, idle x in_it) (ap (λ rest. x ∷ rest) (filter_map_absorbs keep f same idle xs))
  | inr out ↦ rw (same x, out) (filter_map_absorbs keep f same idle xs)
]

pub map_swap : {X : Type 0} (f g : X → X) → ((x : X) → f (g x) ≡ g (f x)) → (xs : List X) → map f (map g xs) ≡ map g (map f xs)
map_swap f g same [] = refl
map_swap f g same (x ∷ xs) = rw (same x, map_swap f g same xs) refl

-- what neither a map nor a filter changes
pub filter_map_idle : {X : Type 0} (p keep : X → Bool) (f : X → X) → ((x : X) → p x ≡ true → f x ≡ x) → ((x : X) → p x ≡ true → keep x ≡ true) → (xs : List X)
    → list_all p xs ≡ true → filter keep (map f xs) ≡ xs
filter_map_idle p keep f idle kept [] all = refl
filter_map_idle p keep f idle kept (x ∷ xs) all =
    let parts = and_parts (p x) (list_all p xs) all in
    rw (idle x parts.0, kept x parts.0) (ap (λ rest. x ∷ rest) (filter_map_idle p keep f idle kept xs parts.1))

pub filter_map_idle_of : {X Y : Type 0} (p : X → Bool) (keep : Y → Bool) (f : Y → Y) (g : X → Y) → ((x : X) → p x ≡ true → f (g x) ≡ g x)
    → ((x : X) → p x ≡ true → keep (g x) ≡ true) → (xs : List X) → list_all p xs ≡ true → filter keep (map f (map g xs)) ≡ map g xs
filter_map_idle_of p keep f g idle kept [] all = refl
filter_map_idle_of p keep f g idle kept (x ∷ xs) all =
    let parts = and_parts (p x) (list_all p xs) all in
    rw (idle x parts.0, kept x parts.0) (ap (λ rest. g x ∷ rest) (filter_map_idle_of p keep f g idle kept xs parts.1))
