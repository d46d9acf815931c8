-- A registry after what a port does to services.
use Rattle.std.proofs.Common.{◌≡◌, ℕ, zero, suc, ◌<◌, ◌==◌, Bool, true, false, List, [], ◌∷◌, ◌++◌, filter, length, map, get_or, set, Option}
use Rattle.std.proofs.Common.{refl, sym, ◌∙◌, ap, inl, inr, arith}
use Rattle.std.specs.List.{AllByRecursion, IsDistinct, flat_map, list_all}
use Rattle.std.proofs.lemmas.Bool.{and_from, and_parts, cases_Bool}
use Rattle.std.proofs.lemmas.List.{append-nil, map-append}
use Rattle.std.proofs.lemmas.List.Folds.{list_all-append}
use Rattle.partition_file.specs.declared.heading.Heading.{Heading}
use Rattle.pkey_rules.specs.KeyTable.{has_base, same_base}
use Rattle.subnet_model.specs.Configured.{HoldsKnownKeys}
use Rattle.std.proofs.lemmas.List.Elements.{filter-append, recursion_from_All}
use Rattle.subnet_model.specs.declared.subnet_port.SubnetPort.{SubnetPort}
use Rattle.sa_model.specs.Groups.{PartitionGroups}
use Rattle.sa_model.specs.Sound.{pairwise}
use Rattle.sa_model.specs.ServiceChange.{Deed, ServiceChange, after_deed, changed_in, is_place, lower_id, services_changed}
use Rattle.sa_model.specs.ServiceSound.{are_sound_services, is_sound_place}
use Rattle.sa_model.specs.Services.{PortServices, Service}
use Rattle.sa_replies.specs.ServiceRequests.{services_at}
use Rattle.sa_replies.specs.Transfers.{PortTransfer}
use Rattle.sa_replies.proofs.StateLemmas.{FitDeed, change_remembered}
use Rattle.sa_store.specs.Deeds.{CanChange, after_in, is_of_base, services_in, with_deed}
use Rattle.sa_store.specs.Kept.{KeptPort, ServicesOfBase, ports_of, services_of, services_of_port, transfer_of, transfers_of}
use Rattle.sa_store.specs.Registry.{IsRegistry, RegistryState, configuration_in, registry_in, remembered_in, with_change}
use Rattle.sa_store.proofs.PlaceLemmas.{AreOthers, IsAt, further, rest_others}

abbrev place_of_port : SubnetPort → ServicesOfBase → PortServices
place_of_port port place = record { port = port.guid; base = place.base; services = place.services }

abbrev by_port : ℕ → ℕ → Deed → ServiceChange
by_port guid base deed = record { port = guid; base = base; deed = deed }

-- ---- ports and tables stay
pub deed_ports : (base : ℕ) (deed : Deed) (kept : List KeptPort) (i : ℕ) (d : KeptPort) → i < length kept
    → ports_of (set kept i (with_deed base deed (get_or kept i d))) ≡ ports_of kept
deed_ports base deed [] i d within = absurd (omega arith)
deed_ports base deed (one ∷ kept) zero d within = refl
deed_ports base deed (one ∷ kept) (suc i) d within = ap (λ (rest : List SubnetPort). one.port ∷ rest) (deed_ports base deed kept i d (omega arith))

deed_transfers : (base : ℕ) (deed : Deed) (kept : List KeptPort) (i : ℕ) (d : KeptPort) → i < length kept
    → transfers_of (set kept i (with_deed base deed (get_or kept i d))) ≡ transfers_of kept
deed_transfers base deed [] i d within = absurd (omega arith)
deed_transfers base deed (one ∷ kept) zero d within = refl
deed_transfers base deed (one ∷ kept) (suc i) d within =
    ap (λ (rest : List PortTransfer). transfer_of one ∷ rest) (deed_transfers base deed kept i d (omega arith))

-- ---- services: those of other ports
others_same : (guid base : ℕ) (deed : Deed) (one : KeptPort) (places : List ServicesOfBase) → (one.port.guid == guid) ≡ false
    → map (changed_in (by_port guid base deed)) (map (place_of_port one.port) places) ≡ map (place_of_port one.port) places
others_same guid base deed one [] other = refl
others_same guid base deed one (place ∷ places) other =
    rw other (ap (λ (rest : List PortServices). place_of_port one.port place ∷ rest) (others_same guid base deed one places other))

all_others_same : (guid base : ℕ) (deed : Deed) (kept : List KeptPort) → AreOthers guid kept
    → services_changed (services_of kept) (by_port guid base deed) ≡ services_of kept
all_others_same guid base deed [] others = refl
all_others_same guid base deed (one ∷ kept) others =
    map-append (changed_in (by_port guid base deed)) (services_of_port one) (services_of kept)
    ∙ (λ i. others_same guid base deed one one.services others.0 i ++ all_others_same guid base deed kept others.1 i)

-- and its own
its_own : (guid base : ℕ) (deed : Deed) (one : KeptPort) (places : List ServicesOfBase) → (one.port.guid == guid) ≡ true
    → map (changed_in (by_port guid base deed)) (map (place_of_port one.port) places) ≡ map (place_of_port one.port) (map (after_in base deed) places)
its_own guid base deed one [] this = refl
its_own guid base deed one (place ∷ places) this = elim (cases_Bool (is_of_base base place)) [
  | inl here ↦ rw (this, here) (ap (λ (rest : List PortServices). place_of_port one.port (record place { services = after_deed deed place.services }) ∷ rest) (its_own guid base deed one places this))
  | inr elsewhere ↦ rw (this, elsewhere) (ap (λ (rest : List PortServices). place_of_port one.port place ∷ rest) (its_own guid base deed one places this))
]

pub deed_services : (guid base : ℕ) (deed : Deed) (kept : List KeptPort) (i : ℕ) (d : KeptPort) → IsAt guid kept i d
    → services_of (set kept i (with_deed base deed (get_or kept i d))) ≡ services_changed (services_of kept) (by_port guid base deed)
deed_services guid base deed [] i d at = absurd (let w = at.within in omega arith)
deed_services guid base deed (one ∷ kept) zero d at =
    sym (map-append (changed_in (by_port guid base deed)) (services_of_port one) (services_of kept)
    ∙ (λ i. its_own guid base deed one one.services at.is i ++ all_others_same guid base deed kept (rest_others guid one kept d at) i))
deed_services guid base deed (one ∷ kept) (suc i) d at =
    let on = further guid one kept i d at in
    let rest = sym (deed_services guid base deed kept i d on.1) in
    sym (map-append (changed_in (by_port guid base deed)) (services_of_port one) (services_of kept)
    ∙ (λ j. others_same guid base deed one one.services on.0 j ++ rest j))

-- ---- the services of a port and a base
none_of_port : (change : ServiceChange) (one : KeptPort) (places : List ServicesOfBase) → (one.port.guid == change.port) ≡ false
    → filter (is_place change) (map (place_of_port one.port) places) ≡ []
none_of_port change one [] other = refl
none_of_port change one (place ∷ places) other = rw other (none_of_port change one places other)

some_of_port : (change : ServiceChange) (one : KeptPort) (places : List ServicesOfBase) → (one.port.guid == change.port) ≡ true
    → filter (is_place change) (map (place_of_port one.port) places) ≡ map (place_of_port one.port) (filter (is_of_base change.base) places)
some_of_port change one [] this = refl
some_of_port change one (place ∷ places) this = elim (cases_Bool (is_of_base change.base place)) [
  | inl here ↦ rw (this, here) (ap (λ (rest : List PortServices). place_of_port one.port place ∷ rest) (some_of_port change one places this))
  | inr elsewhere ↦ rw (this, elsewhere) (some_of_port change one places this)
]

nowhere : (change : ServiceChange) (kept : List KeptPort) → AreOthers change.port kept → filter (is_place change) (services_of kept) ≡ []
nowhere change [] others = refl
nowhere change (one ∷ kept) others =
    filter-append (is_place change) (services_of_port one) (services_of kept)
    ∙ (λ i. none_of_port change one one.services others.0 i ++ nowhere change kept others.1 i)

places_at : (change : ServiceChange) (kept : List KeptPort) (i : ℕ) (d : KeptPort) → IsAt change.port kept i d
    → filter (is_place change) (services_of kept)
    ≡ map (place_of_port (get_or kept i d).port) (filter (is_of_base change.base) (get_or kept i d).services)
places_at change [] i d at = absurd (let w = at.within in omega arith)
places_at change (one ∷ kept) zero d at =
    filter-append (is_place change) (services_of_port one) (services_of kept)
    ∙ (λ i. some_of_port change one one.services at.is i ++ nowhere change kept (rest_others change.port one kept d at) i)
    ∙ append-nil (map (place_of_port one.port) (filter (is_of_base change.base) one.services))
places_at change (one ∷ kept) (suc i) d at =
    let on = further change.port one kept i d at in
    filter-append (is_place change) (services_of_port one) (services_of kept)
    ∙ (λ j. none_of_port change one one.services on.0 j ++ places_at change kept i d on.1 j)

only_services : (port : SubnetPort) (places : List ServicesOfBase)
    → flat_map (λ place. place.services) (map (place_of_port port) places) ≡ flat_map (λ place. place.services) places
only_services port [] = refl
only_services port (place ∷ places) = ap (λ (rest : List Service). place.services ++ rest) (only_services port places)

pub services_here : (change : ServiceChange) (kept : List KeptPort) (i : ℕ) (d : KeptPort) → IsAt change.port kept i d
    → services_at change (services_of kept) ≡ services_in change.base (get_or kept i d).services
services_here change kept i d at =
    ap (flat_map (λ (place : PortServices). place.services)) (places_at change kept i d at)
    ∙ only_services (get_or kept i d).port (filter (is_of_base change.base) (get_or kept i d).services)

-- ---- a port can change its services
orders : (ports : List SubnetPort) (one : KeptPort) (places : List ServicesOfBase) → list_all (is_sound_place ports) (map (place_of_port one.port) places) ≡ true
    → list_all (λ place. pairwise lower_id place.services) places ≡ true
orders ports one [] all = refl
orders ports one (place ∷ places) all =
    let parts = and_parts (is_sound_place ports (place_of_port one.port place)) _ all in
    let sound = and_parts _ _ parts.0 in
    and_from (pairwise lower_id place.services) _ (and_parts (pairwise lower_id place.services) _ sound.1).0 (orders ports one places parts.1)

order_at : (ports : List SubnetPort) (kept : List KeptPort) (i : ℕ) (d : KeptPort) → are_sound_services ports (services_of kept) ≡ true → i < length kept
    → list_all (λ place. pairwise lower_id place.services) (get_or kept i d).services ≡ true
order_at ports [] i d sound within = absurd (omega arith)
order_at ports (one ∷ kept) i d sound within =
    let parts = and_parts (list_all (is_sound_place ports) (services_of_port one)) (list_all (is_sound_place ports) (services_of kept))
    (sym (list_all-append (is_sound_place ports) (services_of_port one) (services_of kept)) ∙ sound) in
    by i within parts.0 (λ k inside. order_at ports kept k d parts.1 inside)
  where
    by : (i : ℕ) → i < length (one ∷ kept) → list_all (is_sound_place ports) (services_of_port one) ≡ true
        → ((k : ℕ) → k < length kept → list_all (λ place. pairwise lower_id place.services) (get_or kept k d).services ≡ true)
        → list_all (λ place. pairwise lower_id place.services) (get_or (one ∷ kept) i d).services ≡ true
    by zero within here later = orders ports one one.services here
    by (suc i) within here later = later i (omega arith)

keys_at : (headings : List Heading) (kept : List KeptPort) (i : ℕ) (d : KeptPort) → AllByRecursion (HoldsKnownKeys headings) (ports_of kept) → i < length kept
    → IsDistinct same_base (get_or kept i d).port.keys
keys_at headings [] i d all within = absurd (omega arith)
keys_at headings (one ∷ kept) zero d all within = all.0.once
keys_at headings (one ∷ kept) (suc i) d all within = keys_at headings kept i d all.1 (omega arith)

pub can_change : (base : ℕ) (kept : List KeptPort) (i : ℕ) (d : KeptPort) (headings : List Heading) (partitions : List PartitionGroups)
    (place_of : ℕ → Option ℕ) → IsRegistry kept headings partitions place_of → i < length kept → has_base base (get_or kept i d).port.keys ≡ true
    → CanChange base (get_or kept i d)
can_change base kept i d headings partitions place_of is within held = record {
  held = held;
  own_keys = keys_at headings kept i d (recursion_from_All (HoldsKnownKeys headings) (ports_of kept) is.configured.keys) within;
  order = order_at (ports_of kept) kept i d is.remembered.services within;
}

-- ---- what a registry is then
pub deed_registry : (guid base : ℕ) (deed : Deed) (kept : List KeptPort) (i : ℕ) (d : KeptPort) (headings : List Heading) (partitions : List PartitionGroups)
    (place_of : ℕ → Option ℕ) → FitDeed deed → IsAt guid kept i d → IsRegistry kept headings partitions place_of
    → IsRegistry (set kept i (with_deed base deed (get_or kept i d))) headings partitions place_of
deed_registry guid base deed kept i d headings partitions place_of fit at is =
    let ports = deed_ports base deed kept i d at.within in
    let services = deed_services guid base deed kept i d at in
    record {
      configured = rw ports is.configured;
      finds = rw ports is.finds;
      remembered = rw (ports, services)
          (change_remembered (configuration_in kept headings) (remembered_in kept partitions) (by_port guid base deed) fit is.remembered);
    }

pub deed_state : (guid base : ℕ) (deed : Deed) (kept : List KeptPort) (i : ℕ) (d : KeptPort) (headings : List Heading) (partitions : List PartitionGroups)
    (is_broken : Bool) (state : RegistryState) → IsAt guid kept i d → registry_in kept headings partitions is_broken ≡ state
    → registry_in (set kept i (with_deed base deed (get_or kept i d))) headings partitions is_broken ≡ with_change (by_port guid base deed) state
deed_state guid base deed kept i d headings partitions is_broken state at is =
    let ports = deed_ports base deed kept i d at.within in
    let services = deed_services guid base deed kept i d at in
    let transfers = deed_transfers base deed kept i d at.within in
    rw (ports, services, transfers, ← is) refl

-- nothing is written
pub same_kept : (kept : List KeptPort) (i : ℕ) (d : KeptPort) → i < length kept → set kept i (get_or kept i d) ≡ kept
same_kept [] i d within = absurd (omega arith)
same_kept (one ∷ kept) zero d within = refl
same_kept (one ∷ kept) (suc i) d within = ap (λ (rest : List KeptPort). one ∷ rest) (same_kept kept i d (omega arith))
