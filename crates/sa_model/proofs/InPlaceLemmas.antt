-- A new membership in its place: what stood before stays, in order.
use Rattle.std.proofs.Common.{Bool, true, false, not, ◌||◌, List, [], ◌∷◌, ◌++◌, filter, arith}
use Rattle.std.proofs.Common.{◌≡◌, ◌∙◌, ap, refl, inl, inr}
use Rattle.std.specs.List.{list_all, list_any}
use Rattle.std.proofs.lemmas.Bool.{cases_Bool, and_from, and_parts, or_cases, or_parts, not_from_false}
use Rattle.std.proofs.lemmas.Bool.Decides.{nat_tests}
use Rattle.std.proofs.lemmas.List.Folds.{list_all-append, list_any-append}
use Rattle.step_results.proofs.ListLemmas.{list_all_weaker}
use Rattle.sa_model.specs.Groups.{Membership, lower_port}
use Rattle.sa_model.specs.Joining.{is_of, in_place}
use Rattle.sa_model.specs.Sound.{pairwise}
use Rattle.sa_model.proofs.ListLemmas.{all_filter, all_of_filter, filter_of_none, pairwise_filter, pairwise_append}

abbrev pub lower_ones : Membership → List Membership → List Membership
lower_ones new memberships = filter (λ m. lower_port m new) memberships

abbrev pub higher_ones : Membership → List Membership → List Membership
higher_ones new memberships = filter (λ m. lower_port new m) memberships

pub all_in_place : (p : Membership → Bool) (new : Membership) (memberships : List Membership) → p new ≡ true → list_all p memberships ≡ true
    → list_all p (in_place new memberships) ≡ true
all_in_place p new memberships one all =
    list_all-append p (lower_ones new memberships) (new ∷ higher_ones new memberships)
    ∙ and_from (list_all p (lower_ones new memberships)) (list_all p (new ∷ higher_ones new memberships))
    (all_filter p (λ m. lower_port m new) p (λ m e lower. e) memberships all)
    (and_from (p new) (list_all p (higher_ones new memberships)) one
    (all_filter p (λ m. lower_port new m) p (λ m e higher. e) memberships all))

more_to_left : (a b c : Bool) → (b || c) ≡ true → ((a || b) || c) ≡ true
more_to_left true b c h = refl
more_to_left false b c h = h

more_to_right : (a b c : Bool) → (b || c) ≡ true → (b || (a || c)) ≡ true
more_to_right a true c h = refl
more_to_right true false c h = refl
more_to_right false false c h = h

first_of_right : (a b : Bool) → (b || (true || a)) ≡ true
first_of_right a true = refl
first_of_right a false = refl

lower_is_not_higher : (new x : Membership) → lower_port x new ≡ true → lower_port new x ≡ false
lower_is_not_higher new x e = grind (arith, nat_tests)

other_is_higher : (new x : Membership) → is_of new.port x ≡ false → lower_port x new ≡ false → lower_port new x ≡ true
other_is_higher new x other e = grind (arith, nat_tests)

-- each membership of another port stands below or above
either_side : (p : Membership → Bool) (new : Membership) (memberships : List Membership) → list_any (is_of new.port) memberships ≡ false
    → list_any p memberships ≡ true → (list_any p (lower_ones new memberships) || list_any p (higher_ones new memberships)) ≡ true
either_side p new [] none some = absurd (cc)
either_side p new (x ∷ xs) none some =
    let others = or_parts (is_of new.port x) (list_any (is_of new.port) xs) none in
    let low = list_any p (lower_ones new xs) in
    let high = list_any p (higher_ones new xs) in
    elim (cases_Bool (lower_port x new)) [
      | inl lower ↦ elim (or_cases (p x) (list_any p xs) some) [
        | inl here ↦ rw (lower, lower_is_not_higher new x lower, here) refl
        | inr later ↦ rw (lower, lower_is_not_higher new x lower) (more_to_left (p x) low high (either_side p new xs others.1 later))
      ]
      | inr not_lower ↦ elim (or_cases (p x) (list_any p xs) some) [
        | inl here ↦ rw (not_lower, other_is_higher new x others.0 not_lower, here) (first_of_right high low)
        | inr later ↦ rw (not_lower, other_is_higher new x others.0 not_lower) (more_to_right (p x) low high (either_side p new xs others.1 later))
      ]
    ]

pub some_in_place : (p : Membership → Bool) (new : Membership) (memberships : List Membership) → list_any (is_of new.port) memberships ≡ false
    → list_any p memberships ≡ true → list_any p (in_place new memberships) ≡ true
some_in_place p new memberships none some =
    list_any-append p (lower_ones new memberships) (new ∷ higher_ones new memberships)
    ∙ more_to_right (p new) (list_any p (lower_ones new memberships)) (list_any p (higher_ones new memberships)) (either_side p new memberships none some)

lower_than_lower : (a b c : Membership) → lower_port a b ≡ true → lower_port b c ≡ true → lower_port a c ≡ true
lower_than_lower a b c x y = grind (arith, nat_tests)

lower_than_rest : (new x : Membership) (memberships : List Membership) → lower_port x new ≡ true
    → list_all (lower_port x) (new ∷ higher_ones new memberships) ≡ true
lower_than_rest new x memberships lower =
    and_from (lower_port x new) (list_all (lower_port x) (higher_ones new memberships)) lower
    (all_of_filter (λ m. lower_port new m) (lower_port x) (λ y e. lower_than_lower x new y lower e) memberships)

pub in_place_in_order : (new : Membership) (memberships : List Membership) → pairwise lower_port memberships ≡ true
    → pairwise lower_port (in_place new memberships) ≡ true
in_place_in_order new memberships order =
    pairwise_append lower_port (lower_ones new memberships) (new ∷ higher_ones new memberships)
    (pairwise_filter lower_port (λ m. lower_port m new) memberships order)
    (and_from (list_all (lower_port new) (higher_ones new memberships)) (pairwise lower_port (higher_ones new memberships))
    (all_of_filter (λ m. lower_port new m) (lower_port new) (λ y e. e) memberships)
    (pairwise_filter lower_port (λ m. lower_port new m) memberships order))
    (all_of_filter (λ m. lower_port m new) (λ x. list_all (lower_port x) (new ∷ higher_ones new memberships))
    (λ x e. lower_than_rest new x memberships e) memberships)

-- where they stand by port, a place of another port parts them without loss
all_above : (new x : Membership) (xs : List Membership) → lower_port new x ≡ true → list_all (lower_port x) xs ≡ true → lower_ones new xs ≡ []
all_above new x xs higher above =
    filter_of_none (λ m. lower_port m new) xs
    (list_all_weaker (lower_port x) (λ m. not (lower_port m new))
    (λ m e. not_from_false (lower_port m new) (lower_is_not_higher m new (lower_than_lower new x m higher e))) xs above)

pub nothing_lost : (new : Membership) (memberships : List Membership) → list_any (is_of new.port) memberships ≡ false
    → pairwise lower_port memberships ≡ true → lower_ones new memberships ++ higher_ones new memberships ≡ memberships
nothing_lost new [] none order = refl
nothing_lost new (x ∷ xs) none order =
    let others = or_parts (is_of new.port x) (list_any (is_of new.port) xs) none in
    let parts = and_parts (list_all (lower_port x) xs) (pairwise lower_port xs) order in
    let rest = nothing_lost new xs others.1 parts.1 in
    elim (cases_Bool (lower_port x new)) [
      | inl lower ↦ rw (lower, lower_is_not_higher new x lower) (ap (λ ms. x ∷ ms) rest)
      | inr not_lower ↦
          let higher = other_is_higher new x others.0 not_lower in
          let empty : lower_ones new xs ≡ [] = all_above new x xs higher parts.0 in
          let kept : higher_ones new xs ≡ xs = rw empty at rest in
          rw (not_lower, higher, empty) (ap (λ ms. x ∷ ms) kept)
    ]

lower_is_other : (new x : Membership) → lower_port x new ≡ true → is_of new.port x ≡ false
lower_is_other new x lower = grind (arith, nat_tests)

-- none of those below is of its port
pub none_lower : (new : Membership) (memberships : List Membership) → list_any (is_of new.port) (lower_ones new memberships) ≡ false
none_lower new [] = refl
none_lower new (x ∷ xs) = elim (cases_Bool (lower_port x new)) [
  | inl lower ↦ rw (lower, lower_is_other new x lower) (none_lower new xs)
  | inr not_lower ↦ rw not_lower (none_lower new xs)
]
