-- What ports do to services keeps them sound.
use Rattle.std.proofs.Common.{ℕ, suc, ◌+◌, ◌≤◌, Bool, true, false, not, ◌==◌, ◌&&◌, nat_lt, nat_le, List, [], ◌∷◌, length, filter}
use Rattle.std.proofs.Common.{◌≡◌, ◌∙◌, refl, inl, inr, arith, length-append}
use Rattle.std.specs.List.{list_all, list_any, flat_map}
use Rattle.std.proofs.lemmas.Bool.{cases_Bool, and_from, and_parts, or_cases, or_left, or_right, eq-eqb}
use Rattle.std.proofs.lemmas.Bool.Decides.{nat_tests}
use Rattle.std.proofs.lemmas.List.Folds.{list_all-append}
use Rattle.step_results.proofs.ListLemmas.{list_all_weaker}
use Rattle.pkey_rules.specs.PKey.{base_of}
use Rattle.pkey_rules.specs.KeyTable.{has_base}
use Rattle.subnet_model.specs.declared.subnet_port.SubnetPort.{SubnetPort}
use Rattle.sa_model.specs.Sound.{pairwise}
use Rattle.sa_model.proofs.ListLemmas.{all_map, all_of_filter, pairwise_append, pairwise_filter}
use Rattle.sa_model.specs.KeyOrder.{by_base}
use Rattle.sa_model.specs.Services.{Service, PortServices, none_of_port, no_services}
use Rattle.sa_model.specs.ServiceChange.{Deed, ServiceChange, is_place, has_id, lower_id, most_services, has_room, with_service, without_service, after_deed, changed_in, services_changed}
use Rattle.sa_model.specs.ServiceSound.{holds_base, is_sound_place, are_sound_services}
use Rattle.sa_model.proofs.KeyOrderLemmas.{all_by_base}

-- ---- in the order of ServiceIDs
lower_lower : (a b c : Service) → lower_id a b ≡ true → lower_id b c ≡ true → lower_id a c ≡ true
lower_lower a b c x y = grind (arith, nat_tests)

lower_than_rest : (new x : Service) (services : List Service) → lower_id x new ≡ true
    → list_all (lower_id x) (new ∷ filter (λ service. lower_id new service) services) ≡ true
lower_than_rest new x services lower =
    and_from (lower_id x new) (list_all (lower_id x) (filter (λ service. lower_id new service) services)) lower
    (all_of_filter (λ service. lower_id new service) (lower_id x) (λ y e. lower_lower x new y lower e) services)

with_service_in_order : (new : Service) (services : List Service) → pairwise lower_id services ≡ true → pairwise lower_id (with_service new services) ≡ true
with_service_in_order new services order =
    pairwise_append lower_id (filter (λ service. lower_id service new) services) (new ∷ filter (λ service. lower_id new service) services)
    (pairwise_filter lower_id (λ service. lower_id service new) services order)
    (and_from (list_all (lower_id new) (filter (λ service. lower_id new service) services)) (pairwise lower_id (filter (λ service. lower_id new service) services))
    (all_of_filter (λ service. lower_id new service) (lower_id new) (λ y e. e) services)
    (pairwise_filter lower_id (λ service. lower_id new service) services order))
    (all_of_filter (λ service. lower_id service new) (λ x. list_all (lower_id x) (new ∷ filter (λ service. lower_id new service) services))
    (λ x e. lower_than_rest new x services e) services)

-- ---- how many there are
abbrev lower_ones : Service → List Service → List Service
lower_ones new services = filter (λ service. lower_id service new) services

abbrev higher_ones : Service → List Service → List Service
higher_ones new services = filter (λ service. lower_id new service) services

not_both : (new x : Service) → lower_id x new ≡ true → lower_id new x ≡ false
not_both new x e = grind (arith, nat_tests)

same_is_neither : (new x : Service) → has_id new.service_id x ≡ true → (lower_id x new ≡ false) × (lower_id new x ≡ false)
same_is_neither new x e = (first, second)
  where
    first : lower_id x new ≡ false
    first = grind (arith, nat_tests)

    second : lower_id new x ≡ false
    second = grind (arith, nat_tests)

others_fit : (new : Service) (services : List Service) → length (lower_ones new services) + length (higher_ones new services) ≤ length services
others_fit new [] = omega arith
others_fit new (x ∷ xs) = elim (cases_Bool (lower_id x new)) [
  | inl low ↦ rw (low, not_both new x low) (one_more (length (lower_ones new xs)) (length (higher_ones new xs)) (length xs) (others_fit new xs))
  | inr not_low ↦ elim (cases_Bool (lower_id new x)) [
    | inl high ↦ rw (not_low, high) (one_more_right (length (lower_ones new xs)) (length (higher_ones new xs)) (length xs) (others_fit new xs))
    | inr same ↦ rw (not_low, same) (one_less (length (lower_ones new xs) + length (higher_ones new xs)) (length xs) (others_fit new xs))
  ]
]
  where
    one_more : (a b n : ℕ) → a + b ≤ n → suc a + b ≤ suc n
    one_more a b n h = omega arith

    one_more_right : (a b n : ℕ) → a + b ≤ n → a + suc b ≤ suc n
    one_more_right a b n h = omega arith

    one_less : (a n : ℕ) → a ≤ n → a ≤ suc n
    one_less a n h = omega arith

others_and_it_fit : (new : Service) (services : List Service) → list_any (has_id new.service_id) services ≡ true
    → suc (length (lower_ones new services) + length (higher_ones new services)) ≤ length services
others_and_it_fit new [] there = absurd (cc)
others_and_it_fit new (x ∷ xs) there = elim (or_cases (has_id new.service_id x) (list_any (has_id new.service_id) xs) there) [
  | inl this ↦ let neither = same_is_neither new x this in
      rw (neither.0, neither.1) (under_suc (length (lower_ones new xs) + length (higher_ones new xs)) (length xs) (others_fit new xs))
  | inr later ↦ elim (cases_Bool (lower_id x new)) [
    | inl low ↦ rw (low, not_both new x low) (one_more (length (lower_ones new xs)) (length (higher_ones new xs)) (length xs) (others_and_it_fit new xs later))
    | inr not_low ↦ elim (cases_Bool (lower_id new x)) [
      | inl high ↦ rw (not_low, high) (one_more_right (length (lower_ones new xs)) (length (higher_ones new xs)) (length xs) (others_and_it_fit new xs later))
      | inr same ↦ rw (not_low, same) (one_less (length (lower_ones new xs) + length (higher_ones new xs)) (length xs) (others_and_it_fit new xs later))
    ]
  ]
]
  where
    under_suc : (a n : ℕ) → a ≤ n → suc a ≤ suc n
    under_suc a n h = omega arith

    one_more : (a b n : ℕ) → suc (a + b) ≤ n → suc (suc a + b) ≤ suc n
    one_more a b n h = omega arith

    one_more_right : (a b n : ℕ) → suc (a + b) ≤ n → suc (a + suc b) ≤ suc n
    one_more_right a b n h = omega arith

    one_less : (a n : ℕ) → suc a ≤ n → suc a ≤ suc n
    one_less a n h = omega arith

set_length : (new : Service) (services : List Service)
    → length (with_service new services) ≡ suc (length (lower_ones new services) + length (higher_ones new services))
set_length new services = length-append (lower_ones new services) (new ∷ higher_ones new services) ∙ move (length (lower_ones new services)) (length (higher_ones new services))
  where
    move : (a b : ℕ) → a + suc b ≡ suc (a + b)
    move a b = omega arith

le_test : (a b : ℕ) → a ≤ b → nat_le a b ≡ true
le_test a b h = grind (arith, nat_tests)

test_le : (a b : ℕ) → nat_le a b ≡ true → a ≤ b
test_le a b h = grind (arith, nat_tests)

below_most : (n : ℕ) → nat_lt n most_services ≡ true → suc n ≤ most_services
below_most n h = grind (arith, nat_tests)

through : (a b c : ℕ) → a ≤ b → b ≤ c → a ≤ c
through a b c x y = omega arith

within : (new : Service) (services : List Service) → nat_le (length services) most_services ≡ true → has_room new.service_id services ≡ true
    → length (with_service new services) ≤ most_services
within new services few room = rw (set_length new services) (elim (or_cases (list_any (has_id new.service_id) services) (nat_lt (length services) most_services) room) [
  | inl there ↦ through (suc (length (lower_ones new services) + length (higher_ones new services))) (length services) most_services
      (others_and_it_fit new services there) (test_le (length services) most_services few)
  | inr free ↦ through (suc (length (lower_ones new services) + length (higher_ones new services))) (suc (length services)) most_services
      (under_suc (length (lower_ones new services) + length (higher_ones new services)) (length services) (others_fit new services))
      (below_most (length services) free)
])
  where
    under_suc : (a n : ℕ) → a ≤ n → suc a ≤ suc n
    under_suc a n h = omega arith

filter_shorter : {X : Type 0} (keep : X → Bool) (xs : List X) → length (filter keep xs) ≤ length xs
filter_shorter keep [] = omega arith
filter_shorter keep (x ∷ xs) = elim (cases_Bool (keep x)) [
  | inl here ↦ rw here (under_suc (length (filter keep xs)) (length xs) (filter_shorter keep xs))
  | inr out ↦ rw out (one_less (length (filter keep xs)) (length xs) (filter_shorter keep xs))
]
  where
    under_suc : (a n : ℕ) → a ≤ n → suc a ≤ suc n
    under_suc a n h = omega arith

    one_less : (a n : ℕ) → a ≤ n → a ≤ suc n
    one_less a n h = omega arith

-- ---- what a port does
abbrev are_few_in_order : List Service → Bool
are_few_in_order services = pairwise lower_id services && nat_le (length services) most_services

deed_sound : (deed : Deed) (services : List Service) → are_few_in_order services ≡ true → are_few_in_order (after_deed deed services) ≡ true
deed_sound (Deed.sets new) services sound =
    let parts = and_parts (pairwise lower_id services) (nat_le (length services) most_services) sound in
    elim (cases_Bool (has_room new.service_id services)) [
      | inl room ↦ rw room (and_from (pairwise lower_id (with_service new services)) (nat_le (length (with_service new services)) most_services)
          (with_service_in_order new services parts.0)
          (le_test (length (with_service new services)) most_services (within new services parts.1 room)))
      | inr full ↦ rw full sound
    ]
deed_sound (Deed.deletes id) services sound =
    let parts = and_parts (pairwise lower_id services) (nat_le (length services) most_services) sound in
    and_from (pairwise lower_id (without_service id services)) (nat_le (length (without_service id services)) most_services)
    (pairwise_filter lower_id (λ service. not (has_id id service)) services parts.0)
    (le_test (length (without_service id services)) most_services
    (through (length (without_service id services)) (length services) most_services
    (filter_shorter (λ service. not (has_id id service)) services) (test_le (length services) most_services parts.1)))

place_sound : (ports : List SubnetPort) (change : ServiceChange) (place : PortServices) → is_sound_place ports place ≡ true
    → is_sound_place ports (changed_in change place) ≡ true
place_sound ports change place sound =
    let parts = and_parts (holds_base ports place.base place.port) (are_few_in_order place.services) sound in
    elim (cases_Bool (is_place change place)) [
      | inl this ↦ rw this (and_from (holds_base ports place.base place.port) (are_few_in_order (after_deed change.deed place.services))
          parts.0 (deed_sound change.deed place.services parts.1))
      | inr other ↦ rw other sound
    ]

pub services_stay_sound : (ports : List SubnetPort) (services : List PortServices) (change : ServiceChange) → are_sound_services ports services ≡ true
    → are_sound_services ports (services_changed services change) ≡ true
services_stay_sound ports services change sound =
    all_map (is_sound_place ports) (is_sound_place ports) (changed_in change) (λ place e. place_sound ports change place e) services sound

-- ---- the start
keys_are_held : (keys : List ℕ) → list_all (λ key. has_base (base_of key) keys) keys ≡ true
keys_are_held [] = refl
keys_are_held (key ∷ keys) =
    and_from (has_base (base_of key) (key ∷ keys)) (list_all (λ k. has_base (base_of k) (key ∷ keys)) keys)
    (or_left (base_of key == base_of key) (has_base (base_of key) keys) (eq-eqb (base_of key) (base_of key) refl))
    (list_all_weaker (λ k. has_base (base_of k) keys) (λ k. has_base (base_of k) (key ∷ keys))
    (λ k e. or_right (base_of key == base_of k) (has_base (base_of k) keys) e) keys (keys_are_held keys))

-- the port is in its partitions, by a list of ports
abbrev is_in_its_partitions : List SubnetPort → SubnetPort → Bool
is_in_its_partitions ports port = list_all (λ key. holds_base ports (base_of key) port.guid) port.keys

first_is_in : (port : SubnetPort) (ports : List SubnetPort) → is_in_its_partitions (port ∷ ports) port ≡ true
first_is_in port ports =
    list_all_weaker (λ key. has_base (base_of key) port.keys) (λ key. holds_base (port ∷ ports) (base_of key) port.guid)
    (λ key e. or_left ((port.guid == port.guid) && has_base (base_of key) port.keys) (holds_base ports (base_of key) port.guid)
    (and_from (port.guid == port.guid) (has_base (base_of key) port.keys) (eq-eqb port.guid port.guid refl) e)) port.keys (keys_are_held port.keys)

all_are_in : (ports : List SubnetPort) → list_all (is_in_its_partitions ports) ports ≡ true
all_are_in [] = refl
all_are_in (port ∷ ports) =
    and_from (is_in_its_partitions (port ∷ ports) port) (list_all (is_in_its_partitions (port ∷ ports)) ports) (first_is_in port ports)
    (list_all_weaker (is_in_its_partitions ports) (is_in_its_partitions (port ∷ ports))
    (λ other e. list_all_weaker (λ key. holds_base ports (base_of key) other.guid) (λ key. holds_base (port ∷ ports) (base_of key) other.guid)
    (λ key h. or_right ((port.guid == other.guid) && has_base (base_of key) port.keys) (holds_base ports (base_of key) other.guid) h) other.keys e)
    ports (all_are_in ports))

none_sound : (ports : List SubnetPort) (port : SubnetPort) → is_in_its_partitions ports port ≡ true → list_all (is_sound_place ports) (none_of_port port) ≡ true
none_sound ports port within =
    all_map (λ key. holds_base ports (base_of key) port.guid) (is_sound_place ports) (λ key. record { port = port.guid; base = base_of key; services = [] })
    (λ key e. and_from (holds_base ports (base_of key) port.guid) true e refl) (by_base port.keys)
    (all_by_base (λ key. holds_base ports (base_of key) port.guid) port.keys within)

all_none_sound : (ports some : List SubnetPort) → list_all (is_in_its_partitions ports) some ≡ true → list_all (is_sound_place ports) (flat_map none_of_port some) ≡ true
all_none_sound ports [] within = refl
all_none_sound ports (port ∷ some) within =
    let parts = and_parts (is_in_its_partitions ports port) (list_all (is_in_its_partitions ports) some) within in
    list_all-append (is_sound_place ports) (none_of_port port) (flat_map none_of_port some)
    ∙ and_from (list_all (is_sound_place ports) (none_of_port port)) (list_all (is_sound_place ports) (flat_map none_of_port some))
    (none_sound ports port parts.0) (all_none_sound ports some parts.1)

pub start_sound : (ports : List SubnetPort) → are_sound_services ports (no_services ports) ≡ true
start_sound ports = all_none_sound ports ports (all_are_in ports)
