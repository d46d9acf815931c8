-- The services of the port of a GUID, among those of all ports.
use Rattle.std.proofs.Common.{◌≡◌, ℕ, zero, suc, ◌+◌, ◌-◌, ◌==◌, true, false, List, [], ◌∷◌, ◌++◌, map, take, drop, get_or, Some, None, refl, sym, ◌∙◌, ap, inl, inr, arith, append-nil}
use Rattle.std.specs.List.{IsDistinct, position_from}
use Rattle.std.proofs.lemmas.Bool.{cases_Bool}
use Rattle.std.proofs.lemmas.List.Elements.{filter-append}
use Rattle.subnet_model.specs.Configured.{same_guid}
use Rattle.subnet_model.specs.declared.subnet_port.SubnetPort.{SubnetPort}
use Rattle.sa_model.specs.Services.{PortServices}
use Rattle.sa_store.specs.Kept.{KeptPort, ServicesOfBase, ports_of, services_of, services_of_port}
use Rattle.sa_store.specs.Registry.{of_port, place_with_guid}
use Rattle.sa_store.proofs.PlaceLemmas.{AreOthers, IsAt, further, is_at, one_of, place_is, rest_others}

abbrev pub place_of : SubnetPort → ServicesOfBase → PortServices
place_of port place = record { port = port.guid; base = place.base; services = place.services }

-- ---- the services of the port of a GUID
all_of_port : (guid : ℕ) (port : SubnetPort) (places : List ServicesOfBase) → (port.guid == guid) ≡ true
    → of_port guid (map (place_of port) places) ≡ map (place_of port) places
all_of_port guid port [] this = refl
all_of_port guid port (place ∷ places) this = rw this (ap (λ (rest : List PortServices). place_of port place ∷ rest) (all_of_port guid port places this))

none_of_port : (guid : ℕ) (port : SubnetPort) (places : List ServicesOfBase) → (port.guid == guid) ≡ false → of_port guid (map (place_of port) places) ≡ []
none_of_port guid port [] other = refl
none_of_port guid port (place ∷ places) other = rw other (none_of_port guid port places other)

none_of_others : (guid : ℕ) (kept : List KeptPort) → AreOthers guid kept → of_port guid (services_of kept) ≡ []
none_of_others guid [] others = refl
none_of_others guid (one ∷ kept) others =
    filter-append (λ (place : PortServices). place.port == guid) (services_of_port one) (services_of kept)
    ∙ (ap (λ (some : List PortServices). some ++ of_port guid (services_of kept)) (none_of_port guid one.port one.services others.0) ∙ none_of_others guid kept others.1)

services_at : (guid : ℕ) (kept : List KeptPort) (i : ℕ) (d : KeptPort) → IsAt guid kept i d
    → of_port guid (services_of kept) ≡ services_of_port (get_or kept i d)
services_at guid [] i d at = absurd (let w = at.within in omega arith)
services_at guid (one ∷ kept) zero d at =
    filter-append (λ (place : PortServices). place.port == guid) (services_of_port one) (services_of kept)
    ∙ (ap (λ (some : List PortServices). some ++ of_port guid (services_of kept)) (all_of_port guid one.port one.services at.is)
    ∙ (ap (λ (some : List PortServices). services_of_port one ++ some) (none_of_others guid kept (rest_others guid one kept d at)) ∙ append-nil (services_of_port one)))
services_at guid (one ∷ kept) (suc i) d at =
    let on = further guid one kept i d at in
    filter-append (λ (place : PortServices). place.port == guid) (services_of_port one) (services_of kept)
    ∙ (ap (λ (some : List PortServices). some ++ of_port guid (services_of kept)) (none_of_port guid one.port one.services on.0) ∙ services_at guid kept i d on.1)

pub guid_services : (guid : ℕ) (kept : List KeptPort) (i : ℕ) → IsDistinct same_guid (ports_of kept) → place_with_guid (ports_of kept) guid ≡ Some i
    → services_of (take (i + 1 - i) (drop i kept)) ≡ of_port guid (services_of kept)
guid_services guid [] i once h = absurd (cc)
guid_services guid (d ∷ others) i once h =
    let kept : List KeptPort = d ∷ others in
    let at = is_at guid kept i d once h in
    ap services_of (one_of kept i d at.within) ∙ (append-nil (services_of_port (get_or kept i d)) ∙ sym (services_at guid kept i d at))

pub no_services : (guid : ℕ) (kept : List KeptPort) → place_with_guid (ports_of kept) guid ≡ None → of_port guid (services_of kept) ≡ []
no_services guid kept h = none_from 0 kept (sym (place_is guid kept) ∙ h)
  where
    none_from : (from : ℕ) (some : List KeptPort) → position_from (λ one. one.port.guid == guid) from some ≡ None → of_port guid (services_of some) ≡ []
    none_from from [] h = refl
    none_from from (one ∷ some) h = elim (cases_Bool (one.port.guid == guid)) [
      | inl here ↦ absurd (let e : Some from ≡ None = rw here at h in cc)
      | inr other ↦
          filter-append (λ (place : PortServices). place.port == guid) (services_of_port one) (services_of some)
          ∙ (ap (λ (places : List PortServices). places ++ of_port guid (services_of some)) (none_of_port guid one.port one.services other) ∙ none_from (from + 1) some (rw other at h))
    ]
