-- Every fabric has a first root, and so ranks, depths and choices.
use Rattle.std.proofs.Common.{◌≡◌, ℕ, suc, ◌<◌, Bool, true, ◌==◌, ◌&&◌, nat_le, List, [], ◌∷◌, ◌++◌, length, get_or, refl, sym, subst, inl, inr, arith}
use Rattle.std.specs.List.{list_all, list_any, range_with_len}
use Rattle.std.proofs.lemmas.Bool.{and_parts, and_from, cases_lt, or_cases, or_left, eqb-true, eq-eqb, le-leb, leb-true, false≢true}
use Rattle.step_results.proofs.ListLemmas.{list_all_weaker}
use Rattle.updn_routes.specs.declared.link.Link.{Link}
use Rattle.updn_routes.specs.Cabling.{AllJoined, is_next_to, is_walk}
use Rattle.updn_routes.specs.Fabric.{HasRoutes, IsFabric}
use Rattle.updn_routes.specs.Order.{IsOrder, is_first_root, is_root, precedes}
use Rattle.sweep.proofs.JoinedLemmas.{at_each}
use Rattle.updn_routes.proofs.DistanceLemmas.{joined_distances}
use Rattle.updn_routes.proofs.ExistLemmas.{there_are}
use Rattle.updn_routes.proofs.OrderLemmas.{ranks_order}

-- ---- a first root
abbrev At : List ℕ → (ℕ → Bool) → Type 0
At xs p = (i : ℕ) × (i < length xs) × (p (get_or xs i 0) ≡ true)

place_of_some : (p : ℕ → Bool) (xs : List ℕ) → list_any p xs ≡ true → At xs p
place_of_some p [] h = absurd (false≢true h)
place_of_some p (x ∷ xs) h =
    elim (or_cases (p x) (list_any p xs) h) [
      | inl here ↦ (0, omega arith, here)
      | inr later ↦ let more : At xs p = place_of_some p xs later in let less = more.1 in (suc more.0, omega (arith, less), more.2)
    ]

abbrev Least : List ℕ → Type 0
Least xs = (i : ℕ) × (i < length xs) × (list_all (λ y. nat_le (get_or xs i 0) y) xs ≡ true)

least_there : (x : ℕ) (xs : List ℕ) → Least (x ∷ xs)
least_there x [] = (0, omega arith, and_from (nat_le x x) true (le-leb x x (omega arith)) refl)
least_there x (y ∷ ys) = with (least_there y ys)
  where
    with : Least (y ∷ ys) → Least (x ∷ y ∷ ys)
    with more =
        let m = get_or (y ∷ ys) more.0 0 in
        let less = more.1 in
        elim (cases_lt m x) [
          | inl lower ↦ (suc more.0, omega (arith, less), and_from (nat_le m x) _ (le-leb m x (omega (arith, lower))) more.2)
          | inr above ↦ (
            0,
            omega arith,
            and_from (nat_le x x) _ (le-leb x x (omega arith))
                (list_all_weaker (λ z. nat_le m z) (λ z. nat_le x z) (λ z h. le-leb x z (let far = leb-true m z h in omega (arith, far, above))) (y ∷ ys) more.2),
          )
        ]

pub record FirstRoot (guids roots : List ℕ) : Type 0 where
  pub place : ℕ
  pub there : place < length guids
  pub first : is_first_root guids roots place ≡ true
  pub root : is_root guids roots place ≡ true

pub first_root : (guids roots : List ℕ) → 0 < length guids
    → list_all (λ root. list_any (λ guid. guid == root) guids) roots ≡ true → FirstRoot guids roots
first_root [] roots some named = absurd (let no_room : ⊥ = omega (arith, some) in no_room)
first_root (guid ∷ guids) [] some named = let least = least_there guid guids in record { place = least.0; there = least.1; first = least.2; root = least.2 }
first_root (guid ∷ guids) (first ∷ others) some named =
    let at = place_of_some (λ g. g == first) (guid ∷ guids) (and_parts (list_any (λ g. g == first) (guid ∷ guids)) _ named).0 in
    let same = eq-eqb first (get_or (guid ∷ guids) at.0 0) (sym (eqb-true (get_or (guid ∷ guids) at.0 0) first at.2)) in
    record { place = at.0; there = at.1; first = same; root = or_left (first == get_or (guid ∷ guids) at.0 0) _ same }

pub has_routes : (rows : List (List Link)) (guids roots : List ℕ) → IsFabric rows guids roots
    → HasRoutes rows guids roots
has_routes rows guids roots fabric =
    let some = fabric.some in
    let count = fabric.count in
    let first = first_root guids roots (omega (arith, some, count)) fabric.named in
    let less = first.there in
    let there : first.place < length rows = omega (arith, less, count) in
    let ranks = joined_distances rows (is_root guids roots) first.place fabric.joined there first.root in
    let depths = joined_distances rows (is_first_root guids roots) first.place fabric.joined there first.first in
    let order = subst (λ (n : ℕ). IsOrder n (precedes ranks.0 guids)) count (ranks_order ranks.0 guids fabric.own) in
    record {
      ranks = ranks.0;
      ranks_are = ranks.1;
      order = order;
      depths = depths.0;
      depths_are = depths.1;
      choices = λ pick d rule dl. there_are rows (precedes ranks.0 guids) d fabric.cabling order pick rule dl;
    }

-- ---- joined by way of the first switch
pub walk_on : (rows : List (List Link)) (s m d : ℕ) (steps more : List ℕ) → is_walk rows s steps m ≡ true
    → is_walk rows m more d ≡ true → is_walk rows s (steps ++ more) d ≡ true
walk_on rows s m d [] more walk on = subst (λ (k : ℕ). is_walk rows k more d ≡ true) (sym (eqb-true s m walk)) on
walk_on rows s m d (t ∷ steps) more walk on =
    let parts = and_parts (is_next_to rows s t) (is_walk rows t steps m) walk in
    and_from (is_next_to rows s t) _ parts.0 (walk_on rows t m d steps more parts.1 on)

abbrev steps_of : List (List ℕ) → ℕ → List ℕ
steps_of walks s = get_or walks s []

-- walks from each switch to the first, and back
abbrev pub is_joined_by : List (List Link) → List (List ℕ) → List (List ℕ) → Bool
is_joined_by rows there back =
    list_all (λ s. is_walk rows s (steps_of there s) 0 && is_walk rows 0 (steps_of back s) s) (range_with_len 0 (length rows))

pub joined_by : (rows : List (List Link)) (there back : List (List ℕ)) → is_joined_by rows there back ≡ true
    → AllJoined rows
joined_by rows there back tested s d sl dl =
    let test : ℕ → Bool = λ s. is_walk rows s (steps_of there s) 0 && is_walk rows 0 (steps_of back s) s in
    let from = and_parts (is_walk rows s (steps_of there s) 0) (is_walk rows 0 (steps_of back s) s) (at_each test 0 (length rows) s tested (omega arith) (omega (arith, sl))) in
    let to = and_parts (is_walk rows d (steps_of there d) 0) (is_walk rows 0 (steps_of back d) d) (at_each test 0 (length rows) d tested (omega arith) (omega (arith, dl))) in
    (steps_of there s ++ steps_of back d, walk_on rows s 0 d (steps_of there s) (steps_of back d) from.0 to.1)
