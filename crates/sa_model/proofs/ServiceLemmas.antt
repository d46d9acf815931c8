-- What ports do to services keeps them sound, and is seen by ports near alone.
use Rattle.std.proofs.Common.{ℕ, Bool, true, false, ◌==◌, ◌&&◌, ◌||◌, List, [], ◌∷◌, filter, map}
use Rattle.std.proofs.Common.{◌≡◌, ◌∙◌, ap, refl, sym, inl, inr}
use Rattle.std.specs.List.{list_any}
use Rattle.std.proofs.lemmas.Bool.{cases_Bool, both_ways, and_from, and_parts, or_cases, or_left, or_right, eq-eqb, eqb-true}
use Rattle.step_results.proofs.ListLemmas.{list_any_weaker}
use Rattle.pkey_rules.specs.PKey.{base_of, matches}
use Rattle.pkey_rules.specs.KeyTable.{accepts, shares, shares_base}
use Rattle.subnet_model.specs.declared.subnet_port.SubnetPort.{SubnetPort}
use Rattle.subnet_model.specs.Near.{is_near, ports_share, shares_with}
use Rattle.step_results.proofs.FilterLemmas.{filter_map_same, filter_map_absorbs}
use Rattle.sa_model.specs.Services.{PortServices}
use Rattle.sa_model.specs.ServiceChange.{ServiceChange, is_place, changed_in, services_changed, services_after, service_changes_near, port_and_base}
use Rattle.sa_model.proofs.DeedLemmas.{filter_within}
use Rattle.sa_model.specs.ServiceLaws.{ServiceSight, StaysAlike}
use Rattle.sa_model.specs.ServiceSight.{shares_base_with, ports_share_base, is_shown, services_near, services_seen}

-- ---- whose services they are stays
pub changed_place : (change : ServiceChange) (place : PortServices) → port_and_base (changed_in change place) ≡ port_and_base place
changed_place change place = elim (cases_Bool (is_place change place)) [
  | inl this ↦ rw this refl
  | inr other ↦ rw other refl
]

pub places_stay : (services : List PortServices) (change : ServiceChange) → map port_and_base (services_changed services change) ≡ map port_and_base services
places_stay [] change = refl
places_stay (place ∷ services) change = rw (changed_place change place, places_stay services change) refl

-- ---- what is shown is of ports near
base_shares : (base : ℕ) (ps qs : List ℕ) → shares_base base ps qs ≡ true → shares ps qs ≡ true
base_shares base ps qs =
    list_any_weaker (λ p. (base_of p == base) && list_any (λ q. (base_of q == base) && matches q p) qs) (λ p. accepts p qs)
    (λ p e. list_any_weaker (λ q. (base_of q == base) && matches q p) (λ q. matches q p)
    (λ q h. (and_parts (base_of q == base) (matches q p) h).1) qs (and_parts (base_of p == base) (list_any (λ q. (base_of q == base) && matches q p) qs) e).1) ps

pub sharing_base_is_near : (ports : List SubnetPort) (base p q : ℕ) → ports_share_base ports base p q ≡ true → is_near ports p q ≡ true
sharing_base_is_near ports base p q e =
    or_right (q == p) (ports_share ports p q)
    (list_any_weaker (λ port. (port.guid == p) && shares_base_with ports base port q) (λ port. (port.guid == p) && shares_with ports port q)
    (λ port h. let parts = and_parts (port.guid == p) (shares_base_with ports base port q) h in
    and_from (port.guid == p) (shares_with ports port q) parts.0
    (list_any_weaker (λ other. (other.guid == q) && shares_base base port.keys other.keys) (λ other. (other.guid == q) && shares port.keys other.keys)
    (λ other g. let both = and_parts (other.guid == q) (shares_base base port.keys other.keys) g in
    and_from (other.guid == q) (shares port.keys other.keys) both.0 (base_shares base port.keys other.keys both.1)) ports parts.1)) ports e)

pub shown_is_near : (ports : List SubnetPort) (p : ℕ) (place : PortServices) → is_shown ports p place ≡ true → is_near ports p place.port ≡ true
shown_is_near ports p place e = elim (or_cases (place.port == p) (ports_share_base ports place.base p place.port) e) [
  | inl own ↦ or_left (place.port == p) (ports_share ports p place.port) own
  | inr shared ↦ sharing_base_is_near ports place.base p place.port shared
]

-- ---- those that are kept by their port and base, as what p is shown and those of the ports near p are
abbrev pub PlaceRule : Type 0
PlaceRule = List SubnetPort → ℕ → ℕ → ℕ → Bool

abbrev pub kept_by : PlaceRule → ServiceSight
kept_by keeps ports p services = filter (λ place. keeps ports p place.port place.base) services

abbrev pub shown_place : PlaceRule
shown_place ports p port base = (port == p) || ports_share_base ports base p port

abbrev pub near_place : PlaceRule
near_place ports p port base = is_near ports p port

kept_as_before : (keeps : PlaceRule) (ports : List SubnetPort) (p : ℕ) (change : ServiceChange) (place : PortServices)
    → keeps ports p (changed_in change place).port (changed_in change place).base ≡ keeps ports p place.port place.base
kept_as_before keeps ports p change place = elim (cases_Bool (is_place change place)) [
  | inl this ↦ rw this refl
  | inr other ↦ rw other refl
]

-- the places of a change are all kept, or none
pub of_place : (keeps : PlaceRule) (ports : List SubnetPort) (p : ℕ) (change : ServiceChange) (place : PortServices) → is_place change place ≡ true
    → keeps ports p place.port place.base ≡ keeps ports p change.port change.base
of_place keeps ports p change place this =
    let parts = and_parts (place.port == change.port) (place.base == change.base) this in
    ap (λ (port : ℕ). keeps ports p port place.base) (eqb-true place.port change.port parts.0)
    ∙ ap (λ (base : ℕ). keeps ports p change.port base) (eqb-true place.base change.base parts.1)

pub unkept_change : (keeps : PlaceRule) (ports : List SubnetPort) (p : ℕ) (services : List PortServices) (change : ServiceChange)
    → keeps ports p change.port change.base ≡ false
    → kept_by keeps ports p (services_changed services change) ≡ kept_by keeps ports p services
unkept_change keeps ports p services change unkept =
    filter_map_absorbs (λ place. keeps ports p place.port place.base) (changed_in change) (kept_as_before keeps ports p change) idle services
  where
    idle : (place : PortServices) → keeps ports p place.port place.base ≡ true → changed_in change place ≡ place
    idle place kept = elim (cases_Bool (is_place change place)) [
      | inl this ↦ absurd (both_ways (keeps ports p change.port change.base) unkept (sym (of_place keeps ports p change place this) ∙ kept))
      | inr other ↦ rw other refl
    ]

kept_changes : (keeps : PlaceRule) (ports : List SubnetPort) (p : ℕ) (services : List PortServices) (change : ServiceChange)
    → kept_by keeps ports p (services_changed services change) ≡ services_changed (kept_by keeps ports p services) change
kept_changes keeps ports p services change =
    filter_map_same (λ place. keeps ports p place.port place.base) (changed_in change) (kept_as_before keeps ports p change) services

pub stays_alike : (keeps : PlaceRule) → StaysAlike (kept_by keeps)
stays_alike keeps ports p s t change same =
    kept_changes keeps ports p s change ∙ (ap (λ services. services_changed services change) same ∙ sym (kept_changes keeps ports p t change))

-- ---- what a port that is far from p does to services is not shown to p, nor does it change those of the ports near p
pub far_services : (ports : List SubnetPort) (p : ℕ) (services : List PortServices) (change : ServiceChange) → is_near ports p change.port ≡ false
    → services_seen ports p (services_changed services change) ≡ services_seen ports p services
far_services ports p services change far = unkept_change shown_place ports p services change (elim (cases_Bool (shown_place ports p change.port change.base)) [
  | inl shown ↦ absurd (both_ways (is_near ports p change.port) far (shown_is_near ports p (record { port = change.port; base = change.base; services = [] }) shown))
  | inr hidden ↦ hidden
])

pub far_not_near : (ports : List SubnetPort) (p : ℕ) (services : List PortServices) (change : ServiceChange) → is_near ports p change.port ≡ false
    → services_near ports p (services_changed services change) ≡ services_near ports p services
far_not_near ports p services change far = unkept_change near_place ports p services change far

-- what is shown is reported by them
pub shown_of_near : (ports : List SubnetPort) (p : ℕ) (services : List PortServices)
    → services_seen ports p (services_near ports p services) ≡ services_seen ports p services
shown_of_near ports p services =
    filter_within (is_shown ports p) (λ place. is_near ports p place.port) (λ place shown. shown_is_near ports p place shown) services

-- a rule that keeps a port's own services, and with them all that it is shown: so do both of these
pub record KeepsShown (keeps : PlaceRule) : Type 0 where
  pub own : (ports : List SubnetPort) (p base : ℕ) → keeps ports p p base ≡ true
  pub shown : (ports : List SubnetPort) (p : ℕ) (s t : List PortServices) → kept_by keeps ports p s ≡ kept_by keeps ports p t
      → services_seen ports p s ≡ services_seen ports p t

pub shown_keeps_shown : KeepsShown shown_place
shown_keeps_shown = record {
  own = λ ports p base. or_left (p == p) (ports_share_base ports base p p) (eq-eqb p p refl);
  shown = λ ports p s t same. same;
}

pub near_keeps_shown : KeepsShown near_place
near_keeps_shown = record {
  own = λ ports p base. or_left (p == p) (ports_share ports p p) (eq-eqb p p refl);
  shown = λ ports p s t same. sym (shown_of_near ports p s) ∙ (ap (services_seen ports p) same ∙ shown_of_near ports p t);
}

after_alike : (ports : List SubnetPort) (p : ℕ) (changes : List ServiceChange) (s t : List PortServices) → services_near ports p s ≡ services_near ports p t
    → services_near ports p (services_after s changes) ≡ services_near ports p (services_after t (service_changes_near ports p changes))
after_alike ports p [] s t same = same
after_alike ports p (change ∷ changes) s t same = elim (cases_Bool (is_near ports p change.port)) [
  | inl near ↦ rw near (after_alike ports p changes (services_changed s change) (services_changed t change) (stays_alike near_place ports p s t change same))
  | inr far ↦ rw far (after_alike ports p changes (services_changed s change) t (far_not_near ports p s change far ∙ same))
]

pub services_depend : (ports : List SubnetPort) (p : ℕ) (services : List PortServices) (changes : List ServiceChange)
    → services_near ports p (services_after services changes) ≡ services_near ports p (services_after services (service_changes_near ports p changes))
services_depend ports p services changes = after_alike ports p changes services services refl
