-- What is set and deleted among services that stand by ServiceID, as code finds its place.
use Rattle.std.proofs.Common.{◌≡◌, ℕ, suc, ◌+◌, ◌<◌, ◌≤◌, nat_lt, Bool, true, false, List, [], ◌∷◌, filter, set, slice_get, insert, remove}
use Rattle.std.proofs.Common.{refl, sym, ap, inl, inr, arith}
use Rattle.std.specs.List.{AllByRecursion, list_all, list_any, prefix_len}
use Rattle.std.proofs.Common.{length}
use Rattle.std.specs.Option.{option_map_or}
use Rattle.std.proofs.lemmas.Bool.{and_parts, cases_Bool, eqb-true, false≢true, ltb-true, ne_eqb, or_right}
use Rattle.sa_model.specs.Sound.{pairwise}
use Rattle.sa_model.specs.Services.{Service}
use Rattle.sa_model.specs.ServiceChange.{has_id, has_room, lower_id, most_services, with_service, without_service}

-- ---- tests of numbers
not_less : (a b : ℕ) → b ≤ a → nat_lt a b ≡ false
not_less a b h = elim (cases_Bool (nat_lt a b)) [
  | inl less ↦ absurd (omega (arith, ltb-true a b less, h))
  | inr other ↦ other
]

is_less : (a b : ℕ) → a < b → nat_lt a b ≡ true
is_less a b h = elim (cases_Bool (nat_lt a b)) [
  | inl less ↦ less
  | inr other ↦ absurd (omega (arith, at_least a b other, h))
]
  where
    at_least : (a b : ℕ) → nat_lt a b ≡ false → b ≤ a
    at_least a b h = grind (arith, Rattle.std.proofs.lemmas.Bool.Decides.nat_tests, h)

-- ---- services of higher ServiceIDs
abbrev Above : ℕ → List Service → Type 0
Above id services = AllByRecursion (λ service. id < service.service_id) services

above_first : (id : ℕ) (first : Service) (rest : List Service) → list_all (lower_id first) rest ≡ true → id ≤ first.service_id → Above id rest
above_first id first [] all low = tt
above_first id first (service ∷ rest) all low =
    let parts = and_parts (lower_id first service) _ all in
    (omega (arith, ltb-true first.service_id service.service_id parts.0, low), above_first id first rest parts.1 low)

none_lower : (new : Service) (services : List Service) → Above new.service_id services → filter (λ service. lower_id service new) services ≡ []
none_lower new [] above = refl
none_lower new (service ∷ services) above =
    rw (not_less service.service_id new.service_id (omega (arith, above.0))) (none_lower new services above.1)

all_higher : (new : Service) (services : List Service) → Above new.service_id services → filter (λ service. lower_id new service) services ≡ services
all_higher new [] above = refl
all_higher new (service ∷ services) above =
    rw (is_less new.service_id service.service_id above.0) (ap (λ (rest : List Service). service ∷ rest) (all_higher new services above.1))

other_id : (id : ℕ) (service : Service) → id < service.service_id → has_id id service ≡ false
other_id id service above = ne_eqb service.service_id id (λ same. omega (arith, same, above))

none_of_id : (id : ℕ) (services : List Service) → Above id services → list_any (has_id id) services ≡ false
none_of_id id [] above = refl
none_of_id id (service ∷ services) above = rw (other_id id service above.0) (none_of_id id services above.1)

all_others : (id : ℕ) (services : List Service) → Above id services → without_service id services ≡ services
all_others id [] above = refl
all_others id (service ∷ services) above =
    rw (other_id id service above.0) (ap (λ (rest : List Service). service ∷ rest) (all_others id services above.1))

-- ---- the place of a ServiceID
abbrev pub place_for : ℕ → List Service → ℕ
place_for id services = prefix_len (λ service. nat_lt service.service_id id) services

abbrev pub is_at : ℕ → List Service → Bool
is_at id services = option_map_or (has_id id) (slice_get services (place_for id services)) false

one_more : (n : ℕ) → 1 + n ≡ suc n
one_more n = omega arith

lower_is_other : (id : ℕ) (service : Service) → nat_lt service.service_id id ≡ true → has_id id service ≡ false
lower_is_other id service lower = ne_eqb service.service_id id (λ same. omega (arith, ltb-true service.service_id id lower, same))

-- another takes its place
pub set_there : (new : Service) (services : List Service) → pairwise lower_id services ≡ true → is_at new.service_id services ≡ true
    → set services (place_for new.service_id services) new ≡ with_service new services
set_there new [] order there = absurd (false≢true there)
set_there new (first ∷ rest) order there = elim (cases_Bool (nat_lt first.service_id new.service_id)) [
  | inl lower ↦
      let parts = and_parts (list_all (lower_id first) rest) (pairwise lower_id rest) order in
      let n = place_for new.service_id rest in
      let e = one_more n in
      let later : is_at new.service_id rest ≡ true = rw (lower, e) at there in
      let higher = not_less new.service_id first.service_id (omega (arith, ltb-true first.service_id new.service_id lower)) in
      rw (lower, e, higher) (ap (λ (services : List Service). first ∷ services) (set_there new rest parts.1 later))
  | inr other ↦
      let parts = and_parts (list_all (lower_id first) rest) (pairwise lower_id rest) order in
      let same : first.service_id ≡ new.service_id = eqb-true first.service_id new.service_id (rw other at there) in
      let above = above_first new.service_id first rest parts.0 (omega (arith, same)) in
      let higher = not_less new.service_id first.service_id (omega (arith, same)) in
      let lowers = none_lower new rest above in
      let highers = all_higher new rest above in
      rw (other, higher, lowers, highers) refl
]

pub room_of_its_own : (id : ℕ) (services : List Service) → list_any (has_id id) services ≡ true → has_room id services ≡ true
room_of_its_own id services there = rw there refl

pub room_behind : (id : ℕ) (services : List Service) → length services < most_services → has_room id services ≡ true
room_behind id services few = or_right (list_any (has_id id) services) _ (is_less (length services) most_services few)

pub no_room : (id : ℕ) (services : List Service) → list_any (has_id id) services ≡ false → most_services ≤ length services → has_room id services ≡ false
no_room id services none full = rw none (not_less (length services) most_services full)

pub found_there : (id : ℕ) (services : List Service) → is_at id services ≡ true → list_any (has_id id) services ≡ true
found_there id [] there = absurd (false≢true there)
found_there id (first ∷ rest) there = elim (cases_Bool (nat_lt first.service_id id)) [
  | inl lower ↦
      let e = one_more (place_for id rest) in
      let other = lower_is_other id first lower in
      rw other (found_there id rest (rw (lower, e) at there))
  | inr here ↦ let same : has_id id first ≡ true = rw here at there in rw same refl
]

-- or it goes
pub removed_there : (id : ℕ) (services : List Service) → pairwise lower_id services ≡ true → is_at id services ≡ true
    → remove services (place_for id services) ≡ without_service id services
removed_there id [] order there = absurd (false≢true there)
removed_there id (first ∷ rest) order there = elim (cases_Bool (nat_lt first.service_id id)) [
  | inl lower ↦
      let parts = and_parts (list_all (lower_id first) rest) (pairwise lower_id rest) order in
      let e = one_more (place_for id rest) in
      let other = lower_is_other id first lower in
      rw (lower, e, other) (ap (λ (services : List Service). first ∷ services) (removed_there id rest parts.1 (rw (lower, e) at there)))
  | inr here ↦
      let parts = and_parts (list_all (lower_id first) rest) (pairwise lower_id rest) order in
      let same : has_id id first ≡ true = rw here at there in
      let equal : first.service_id ≡ id = eqb-true first.service_id id same in
      let others = all_others id rest (above_first id first rest parts.0 (omega (arith, equal))) in
      rw (here, same, others) refl
]

-- ---- where there is none
higher_than : (id : ℕ) (first : Service) → nat_lt first.service_id id ≡ false → has_id id first ≡ false → id < first.service_id
higher_than id first low other = grind (arith, Rattle.std.proofs.lemmas.Bool.Decides.nat_tests, low, other)

pub inserted_there : (new : Service) (services : List Service) → pairwise lower_id services ≡ true → is_at new.service_id services ≡ false
    → insert services (place_for new.service_id services) new ≡ with_service new services
inserted_there new [] order none = refl
inserted_there new (first ∷ rest) order none = elim (cases_Bool (nat_lt first.service_id new.service_id)) [
  | inl lower ↦
      let parts = and_parts (list_all (lower_id first) rest) (pairwise lower_id rest) order in
      let e = one_more (place_for new.service_id rest) in
      let higher = not_less new.service_id first.service_id (omega (arith, ltb-true first.service_id new.service_id lower)) in
      rw (lower, e, higher) (ap (λ (services : List Service). first ∷ services) (inserted_there new rest parts.1 (rw (lower, e) at none)))
  | inr here ↦
      let parts = and_parts (list_all (lower_id first) rest) (pairwise lower_id rest) order in
      let different : has_id new.service_id first ≡ false = rw here at none in
      let over = higher_than new.service_id first here different in
      let above = above_first new.service_id first rest parts.0 (omega (arith, over)) in
      let higher = is_less new.service_id first.service_id over in
      let lowers = none_lower new rest above in
      let highers = all_higher new rest above in
      rw (here, higher, lowers, highers) refl
]

pub none_there : (id : ℕ) (services : List Service) → pairwise lower_id services ≡ true → is_at id services ≡ false
    → list_any (has_id id) services ≡ false
none_there id [] order none = refl
none_there id (first ∷ rest) order none = elim (cases_Bool (nat_lt first.service_id id)) [
  | inl lower ↦
      let parts = and_parts (list_all (lower_id first) rest) (pairwise lower_id rest) order in
      let e = one_more (place_for id rest) in
      let other = lower_is_other id first lower in
      rw other (none_there id rest parts.1 (rw (lower, e) at none))
  | inr here ↦
      let parts = and_parts (list_all (lower_id first) rest) (pairwise lower_id rest) order in
      let different : has_id id first ≡ false = rw here at none in
      let over = higher_than id first here different in
      rw different (none_of_id id rest (above_first id first rest parts.0 (omega (arith, over))))
]

pub within_there : (id : ℕ) (services : List Service) → is_at id services ≡ true → place_for id services < length services
within_there id [] there = absurd (false≢true there)
within_there id (first ∷ rest) there = elim (cases_Bool (nat_lt first.service_id id)) [
  | inl lower ↦
      let e = one_more (place_for id rest) in
      let later = within_there id rest (rw (lower, e) at there) in
      rw (lower, e) (omega (arith, later))
  | inr here ↦ rw here (omega arith)
]

pub nothing_deleted : (id : ℕ) (services : List Service) → list_any (has_id id) services ≡ false → without_service id services ≡ services
nothing_deleted id [] none = refl
nothing_deleted id (first ∷ rest) none = elim (cases_Bool (has_id id first)) [
  | inl here ↦ absurd (false≢true (sym (rw here at none)))
  | inr other ↦ rw other (ap (λ (services : List Service). first ∷ services) (nothing_deleted id rest (rw other at none)))
]
