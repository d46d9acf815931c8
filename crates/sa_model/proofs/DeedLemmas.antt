-- After a Set the service is there, after a Delete none of its ID, and all others are as before.
use Rattle.std.proofs.Common.{ℕ, Bool, true, false, not, nat_lt, ◌==◌, List, [], ◌∷◌, ◌++◌, map, filter}
use Rattle.std.proofs.Common.{◌≡◌, ◌∙◌, ap, refl, sym, inl, inr, arith}
use Rattle.std.specs.List.{list_all, flat_map}
use Rattle.std.proofs.lemmas.Bool.{cases_Bool, both_ways, and_from, and_parts, false_from_ne_true, eqb-true, eq-eqb}
use Rattle.std.proofs.lemmas.Bool.Decides.{nat_tests}
use Rattle.std.proofs.lemmas.List.{append-nil}
use Rattle.std.proofs.lemmas.List.Elements.{filter-append}
use Rattle.step_results.proofs.FilterLemmas.{filter_map_same}
use Rattle.sa_model.specs.Services.{Service, PortServices}
use Rattle.sa_model.specs.ServiceChange.{Deed, ServiceChange, is_place, has_id, has_room, lower_id, with_service, without_service, after_deed, changed_in, services_changed}
use Rattle.sa_model.specs.ServiceLaws.{is_of, offered, is_same, AreAsBeforeBut, SetServicesAreThere, DeletedServicesAreGone}

-- ---- filters one after the other: of what the first keeps all that is looked for, or nothing of it
pub filter_within : {X : Type 0} (test keep : X → Bool) → ((x : X) → test x ≡ true → keep x ≡ true) → (xs : List X) → filter test (filter keep xs) ≡ filter test xs
filter_within test keep within [] = refl
filter_within test keep within (x ∷ xs) = elim (cases_Bool (keep x)) [
  | inl here ↦ elim (cases_Bool (test x)) [
    | inl found ↦ rw (here, found) (ap (λ rest. x ∷ rest) (filter_within test keep within xs))
    | inr other ↦ rw (here, other) (filter_within test keep within xs)
  ]
  | inr out ↦
      let other : test x ≡ false = false_from_ne_true (test x) (λ found. both_ways (keep x) out (within x found)) in
      rw (out, other) (filter_within test keep within xs)
]

filter_none : {X : Type 0} (test keep : X → Bool) → ((x : X) → keep x ≡ true → test x ≡ false) → (xs : List X) → filter test (filter keep xs) ≡ []
filter_none test keep none [] = refl
filter_none test keep none (x ∷ xs) = elim (cases_Bool (keep x)) [
  | inl here ↦ rw (here, none x here) (filter_none test keep none xs)
  | inr out ↦ rw out (filter_none test keep none xs)
]

filtered_pass : {X : Type 0} (keep : X → Bool) (xs : List X) → list_all keep (filter keep xs) ≡ true
filtered_pass keep [] = refl
filtered_pass keep (x ∷ xs) = elim (cases_Bool (keep x)) [
  | inl here ↦ rw here (and_from (keep x) (list_all keep (filter keep xs)) here (filtered_pass keep xs))
  | inr out ↦ rw out (filtered_pass keep xs)
]

-- ---- in one place: the services of an ID after a Set
-- IDs that are not equal stand one below the other
lower_is_other : (id : ℕ) (new x : Service) → (id == new.service_id) ≡ true → lower_id x new ≡ true → has_id id x ≡ false
lower_is_other id new x same lower = grind (arith, nat_tests)

higher_is_other : (id : ℕ) (new x : Service) → (id == new.service_id) ≡ true → lower_id new x ≡ true → has_id id x ≡ false
higher_is_other id new x same higher = grind (arith, nat_tests)

itself : (new : Service) → has_id new.service_id new ≡ true
itself new = eq-eqb new.service_id new.service_id refl

set_is_there : (new : Service) (services : List Service) → filter (has_id new.service_id) (with_service new services) ≡ new ∷ []
set_is_there new services =
    let test = has_id new.service_id in
    let lower = filter (λ service. lower_id service new) services in
    let higher = filter (λ service. lower_id new service) services in
    let none : filter test lower ≡ [] = filter_none test (λ service. lower_id service new) (λ x e. lower_is_other new.service_id new x (itself new) e) services in
    let no_more : filter test higher ≡ [] = filter_none test (λ service. lower_id new service) (λ x e. higher_is_other new.service_id new x (itself new) e) services in
    filter-append test lower (new ∷ higher) ∙ rw (none, itself new, no_more) refl

-- the services of another ID
module _ (id : ℕ) (new : Service) (other : (id == new.service_id) ≡ false) where
  not_itself : has_id id new ≡ false
  not_itself = grind (arith, nat_tests, other)

  below : nat_lt id new.service_id ≡ true → (x : Service) → has_id id x ≡ true → lower_id x new ≡ true
  below low x e = rw (eqb-true x.service_id id e) low

  not_above : nat_lt id new.service_id ≡ true → (x : Service) → lower_id new x ≡ true → has_id id x ≡ false
  not_above low x e = grind (arith, nat_tests, other)

  above : nat_lt id new.service_id ≡ false → (x : Service) → has_id id x ≡ true → lower_id new x ≡ true
  above high x e = rw (eqb-true x.service_id id e) (next id new.service_id other high)
    where
      next : (a b : ℕ) → (a == b) ≡ false → nat_lt a b ≡ false → nat_lt b a ≡ true
      next a b x y = grind (arith, nat_tests)

  not_below : nat_lt id new.service_id ≡ false → (x : Service) → lower_id x new ≡ true → has_id id x ≡ false
  not_below high x e = grind (arith, nat_tests, other)

  others_stay : (services : List Service) → filter (has_id id) (with_service new services) ≡ filter (has_id id) services
  others_stay services =
      let test = has_id id in
      let lower = filter (λ service. lower_id service new) services in
      let higher = filter (λ service. lower_id new service) services in
      filter-append test lower (new ∷ higher) ∙ elim (cases_Bool (nat_lt id new.service_id)) [
        | inl low ↦
            let all : filter test lower ≡ filter test services = filter_within test (λ service. lower_id service new) (below low) services in
            let none : filter test higher ≡ [] = filter_none test (λ service. lower_id new service) (not_above low) services in
            rw (not_itself, all, none) (append-nil (filter test services))
        | inr high ↦
            let none : filter test lower ≡ [] = filter_none test (λ service. lower_id service new) (not_below high) services in
            let all : filter test higher ≡ filter test services = filter_within test (λ service. lower_id new service) (above high) services in
            rw (not_itself, none, all) refl
      ]

-- the ID of which a deed speaks
abbrev id_of : Deed → ℕ
id_of (Deed.sets new) = new.service_id
id_of (Deed.deletes id) = id

is_gone : (id : ℕ) (services : List Service) → filter (has_id id) (without_service id services) ≡ []
is_gone id services = filter_none (has_id id) (λ service. not (has_id id service)) (λ x e. was_not (has_id id x) e) services
  where
    was_not : (b : Bool) → not b ≡ true → b ≡ false
    was_not true e = sym e
    was_not false e = refl

deed_leaves : (deed : Deed) (id : ℕ) (services : List Service) → (id == id_of deed) ≡ false
    → filter (has_id id) (after_deed deed services) ≡ filter (has_id id) services
deed_leaves (Deed.sets new) id services other = elim (cases_Bool (has_room new.service_id services)) [
  | inl room ↦ rw room (others_stay id new other services)
  | inr full ↦ rw full refl
]
deed_leaves (Deed.deletes gone) id services other =
    filter_within (has_id id) (λ service. not (has_id gone service))
    (λ x e. rw (ap (λ n. n == gone) (eqb-true x.service_id id e) ∙ other) refl) services

-- ---- over all places
kept_place : (change : ServiceChange) (p b : ℕ) (place : PortServices) → is_of p b (changed_in change place) ≡ is_of p b place
kept_place change p b place = elim (cases_Bool (is_place change place)) [
  | inl this ↦ rw this refl
  | inr other ↦ rw other refl
]

-- a place of the same port and base has services of another ID
another_id : (change : ServiceChange) (p b i : ℕ) (place : PortServices) → is_same change.port change.base (id_of change.deed) p b i ≡ false
    → is_place change place ≡ true → is_of p b place ≡ true → (i == id_of change.deed) ≡ false
another_id change p b i place apart here of_it =
    let port = and_parts (place.port == change.port) (place.base == change.base) here in
    let its = and_parts (place.port == p) (place.base == b) of_it in
    let same_port : (p == change.port) ≡ true = eq-eqb p change.port (sym (eqb-true place.port p its.0) ∙ eqb-true place.port change.port port.0) in
    let same_base : (b == change.base) ≡ true = eq-eqb b change.base (sym (eqb-true place.base b its.1) ∙ eqb-true place.base change.base port.1) in
    false_from_ne_true (i == id_of change.deed) (λ same. both_ways (is_same change.port change.base (id_of change.deed) p b i) apart
    (and_from (p == change.port) _ same_port (and_from (b == change.base) (i == id_of change.deed) same_base same)))

place_leaves : (change : ServiceChange) (p b i : ℕ) (place : PortServices) → is_same change.port change.base (id_of change.deed) p b i ≡ false
    → is_of p b place ≡ true → filter (has_id i) (changed_in change place).services ≡ filter (has_id i) place.services
place_leaves change p b i place apart of_it = elim (cases_Bool (is_place change place)) [
  | inl this ↦ rw this (deed_leaves change.deed i place.services (another_id change p b i place apart this of_it))
  | inr other ↦ rw other refl
]

change_leaves : (change : ServiceChange) (services : List PortServices)
    → AreAsBeforeBut change.port change.base (id_of change.deed) services (services_changed services change)
change_leaves change [] p b i apart = refl
change_leaves change (x ∷ xs) p b i apart = elim (cases_Bool (is_of p b x)) [
  | inl here ↦ rw (kept_place change p b x, here, place_leaves change p b i x apart here)
      (ap (λ rest. filter (has_id i) x.services ++ rest) (change_leaves change xs p b i apart))
  | inr out ↦ rw (kept_place change p b x, out) (change_leaves change xs p b i apart)
]

none_left : (services : List PortServices) (port base id : ℕ)
    → offered port base id (services_changed services (record { port = port; base = base; deed = Deed.deletes id })) ≡ []
none_left [] port base id = refl
none_left (x ∷ xs) port base id = elim (cases_Bool (is_of port base x)) [
  | inl here ↦ rw (here, here, is_gone id x.services) (none_left xs port base id)
  | inr out ↦ rw (out, out) (none_left xs port base id)
]

pub deleted_services_are_gone : DeletedServicesAreGone
deleted_services_are_gone services port base id =
    record { gone = none_left services port base id; others = change_leaves (record { port = port; base = base; deed = Deed.deletes id }) services }

pub set_services_are_there : SetServicesAreThere
set_services_are_there services port base place new one room =
    let change : ServiceChange = record { port = port; base = base; deed = Deed.sets new } in
    let all : list_all (is_of port base) (place ∷ []) ≡ true = ap (list_all (is_of port base)) (sym one) ∙ filtered_pass (is_of port base) services in
    let here : is_of port base place ≡ true = (and_parts (is_of port base place) true all).0 in
    let after : filter (is_of port base) (services_changed services change) ≡ changed_in change place ∷ [] =
    filter_map_same (is_of port base) (changed_in change) (kept_place change port base) services ∙ ap (map (changed_in change)) one in
    let there : filter (has_id new.service_id) (changed_in change place).services ≡ new ∷ [] = rw (here, room) (set_is_there new place.services) in
    record {
      there = ap (flat_map (λ one. filter (has_id new.service_id) one.services)) after ∙ ap (λ (found : List Service). found ++ []) there;
      others = change_leaves change services;
    }
