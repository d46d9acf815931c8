-- A port is shown its own services and those of ports with which it may speak in their partition.
use Rattle.std.proofs.Common.{ℕ, Bool, true, false, not, ◌==◌, ◌&&◌, ◌||◌, List, [], ◌∷◌, ◌++◌, filter, map, if◌then◌else◌}
use Rattle.std.proofs.Common.{◌≡◌, ◌∙◌, ap, refl, sym, inl, inr}
use Rattle.std.specs.List.{flat_map, list_any}
use Rattle.std.proofs.lemmas.Bool.{cases_Bool, and_parts, eq-eqb, eqb-true}
use Rattle.std.proofs.lemmas.List.Elements.{filter-append}
use Rattle.step_results.proofs.ListLemmas.{any_alike, list_any_weaker}
use Rattle.pkey_rules.specs.PKey.{base_of, is_full, matches}
use Rattle.pkey_rules.specs.KeyTable.{has_base, shares_base}
use Rattle.sa_model.specs.Services.{PortServices, Service}
use Rattle.sa_model.specs.ServiceSight.{is_shown, shares_base_with}
use Rattle.sa_model.specs.ServicesShown.{ServicesAreShownToSpeakers, has_full, is_for, may_speak}
use Rattle.sa_model.specs.Visible.{ServiceOfPort, services_of}
use Rattle.sa_model.proofs.ShareLemmas.{of_one_port}

-- ---- keys of one base match if one of the two is full
of_base : (base p q : ℕ) → base_of p ≡ base → base_of q ≡ base → matches q p ≡ (not (base == 0) && (is_full q || is_full p))
of_base base p q this there =
    rw (eq-eqb (base_of q) (base_of p) (there ∙ sym this)) (ap (λ (n : ℕ). not (n == 0) && (is_full q || is_full p)) there)

-- what of the second table matches a key of this base
matched_by : (base p : ℕ) → base_of p ≡ base → (qs : List ℕ) → list_any (λ q. (base_of q == base) && matches q p) qs
    ≡ (not (base == 0) && (if is_full p then has_base base qs else has_full base qs))
matched_by base p this [] = nothing (not (base == 0)) (is_full p)
  where
    nothing : (a b : Bool) → false ≡ (a && (if b then false else false))
    nothing true true = refl
    nothing true false = refl
    nothing false b = refl
matched_by base p this (q ∷ qs) = elim (cases_Bool (base_of q == base)) [
  | inl of_it ↦
      rw (of_it, of_base base p q this (eqb-true (base_of q) base of_it), matched_by base p this qs)
      (joined (not (base == 0)) (is_full q) (is_full p) (has_base base qs) (has_full base qs))
  | inr other ↦ rw other (matched_by base p this qs)
]
  where
    joined : (named full own some most : Bool) → ((named && (full || own)) || (named && (if own then some else most))) ≡ (named && (if own then true else (full || most)))
    joined true true true some most = refl
    joined true true false some most = refl
    joined true false true some most = refl
    joined true false false some most = refl
    joined false full own some most = refl

full_is_member : (base : ℕ) (keys : List ℕ) → has_full base keys ≡ true → has_base base keys ≡ true
full_is_member base keys = list_any_weaker (λ key. (base_of key == base) && is_full key) (λ key. base_of key == base)
    (λ key e. (and_parts (base_of key == base) (is_full key) e).0) keys

-- so it is with all keys of the first
matched_of : (base : ℕ) (named some most : Bool) → (most ≡ true → some ≡ true) → (ps : List ℕ)
    → list_any (λ p. (base_of p == base) && (named && (if is_full p then some else most))) ps
    ≡ (named && ((has_base base ps && some) && (has_full base ps || most)))
matched_of base named some most within [] = nothing named
  where
    nothing : (a : Bool) → false ≡ (a && false)
    nothing true = refl
    nothing false = refl
matched_of base named some most within (p ∷ ps) = elim (cases_Bool (base_of p == base)) [
  | inl this ↦ rw (this, matched_of base named some most within ps)
      (joined named (is_full p) (has_base base ps) (has_full base ps) some most within (full_is_member base ps))
  | inr other ↦ rw other (matched_of base named some most within ps)
]
  where
    joined : (named own mine full some most : Bool) → (most ≡ true → some ≡ true) → (full ≡ true → mine ≡ true)
        → ((named && (if own then some else most)) || (named && ((mine && some) && (full || most)))) ≡ (named && (some && ((own || full) || most)))
    joined false own mine full some most within inside = refl
    joined true true mine full true most within inside = refl
    joined true true true full false most within inside = refl
    joined true true false full false most within inside = refl
    joined true false mine true some true within inside = rw (within refl) refl
    joined true false mine false some true within inside = rw (within refl) refl
    joined true false mine true some false within inside = rw (inside refl) refl
    joined true false true false true false within inside = refl
    joined true false true false false false within inside = refl
    joined true false false false true false within inside = refl
    joined true false false false false false within inside = refl

speaks : (base : ℕ) (ps qs : List ℕ) → shares_base base ps qs ≡ may_speak base ps qs
speaks base ps qs =
    any_alike (λ p. (base_of p == base) && list_any (λ q. (base_of q == base) && matches q p) qs)
    (λ p. (base_of p == base) && (not (base == 0) && (if is_full p then has_base base qs else has_full base qs))) each ps
    ∙ matched_of base (not (base == 0)) (has_base base qs) (has_full base qs) (full_is_member base qs) ps
  where
    each : (p : ℕ) → ((base_of p == base) && list_any (λ q. (base_of q == base) && matches q p) qs)
        ≡ ((base_of p == base) && (not (base == 0) && (if is_full p then has_base base qs else has_full base qs)))
    each p = elim (cases_Bool (base_of p == base)) [
      | inl this ↦ rw this (matched_by base p (eqb-true (base_of p) base this) qs)
      | inr other ↦ rw other refl
    ]

-- ---- a test that says the same of all services of a place keeps the place or drops it
kept : (test : ServiceOfPort → Bool) (keep : PortServices → Bool)
    → ((place : PortServices) (service : Service) → test (record { port = place.port; base = place.base; service = service }) ≡ keep place)
    → (places : List PortServices) → flat_map services_of (filter keep places) ≡ filter test (flat_map services_of places)
kept test keep same [] = refl
kept test keep same (place ∷ places) =
    elim (cases_Bool (keep place)) [
      | inl this ↦ rw this (ap (λ rest. services_of place ++ rest) (kept test keep same places)
          ∙ (ap (λ front. front ++ filter test (flat_map services_of places)) (sym (all_kept place.services this))
          ∙ sym (filter-append test (services_of place) (flat_map services_of places))))
      | inr other ↦ rw other (kept test keep same places
          ∙ (ap (λ front. front ++ filter test (flat_map services_of places)) (sym (none_kept place.services other))
          ∙ sym (filter-append test (services_of place) (flat_map services_of places))))
    ]
  where
    shown : Service → ServiceOfPort
    shown service = record { port = place.port; base = place.base; service = service }

    all_kept : (services : List Service) → keep place ≡ true → filter test (map shown services) ≡ map shown services
    all_kept [] this = refl
    all_kept (service ∷ services) this = rw (same place service ∙ this) (ap (λ rest. shown service ∷ rest) (all_kept services this))

    none_kept : (services : List Service) → keep place ≡ false → filter test (map shown services) ≡ []
    none_kept [] other = refl
    none_kept (service ∷ services) other = rw (same place service ∙ other) (none_kept services other)

pub services_are_shown_to_speakers : ServicesAreShownToSpeakers
services_are_shown_to_speakers configuration own services configured found =
    kept (is_for configuration.ports own) (is_shown configuration.ports own.guid) each services
  where
    each : (place : PortServices) (service : Service)
        → is_for configuration.ports own (record { port = place.port; base = place.base; service = service }) ≡ is_shown configuration.ports own.guid place
    each place service = ap (λ shared. (place.port == own.guid) || shared) (sym (
        of_one_port own.guid (λ port. shares_base_with configuration.ports place.base port place.port) configuration.ports own configured.own_guids found
        ∙ any_alike (λ other. (other.guid == place.port) && shares_base place.base own.keys other.keys)
        (λ other. (other.guid == place.port) && may_speak place.base own.keys other.keys)
        (λ other. ap (λ shared. (other.guid == place.port) && shared) (speaks place.base own.keys other.keys)) configuration.ports))
