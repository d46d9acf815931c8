-- What is offered port by port is what is visible of the services of all.
use Rattle.std.proofs.Common.{◌≡◌, ℕ, ◌==◌, Bool, true, false, ◌&&◌, ◌||◌, List, [], ◌∷◌, ◌++◌, map, Some, refl, sym, ◌∙◌, ap, subst, inl, inr, append-nil}
use Rattle.std.specs.List.{AllByRecursion, IsDistinct, flat_map}
use Rattle.std.proofs.lemmas.Bool.{cases_Bool, eq-eqb}
use Rattle.std.proofs.lemmas.List.Concat.{flat_map-append}
use Rattle.std.proofs.lemmas.List.Elements.{filter-append}
use Rattle.std.proofs.lemmas.Map.Keys.{IsDistinct-head, IsDistinct-tail}
use Rattle.pkey_rules.specs.KeyTable.{shares_base}
use Rattle.sa_records.specs.ServiceRecord.{names_selected, service_record_selected}
use Rattle.sa_records.specs.declared.service_record.ServiceRecord.{ServiceRecord}
use Rattle.subnet_model.specs.Configured.{same_guid}
use Rattle.subnet_model.specs.Delivery.{port_with_guid}
use Rattle.subnet_model.specs.declared.subnet_port.SubnetPort.{SubnetPort}
use Rattle.sa_model.specs.Services.{PortServices, Service}
use Rattle.sa_model.specs.ServiceSight.{is_shown, ports_share_base, services_seen, shares_base_with}
use Rattle.sa_model.proofs.SourceLemmas.{all_filtered}
use Rattle.sa_model.proofs.ShareLemmas.{of_one_port}
use Rattle.sa_model.specs.Gid.{gid_of}
use Rattle.sa_model.specs.Selected.{asks, services_selected}
use Rattle.sa_model.specs.Shown.{service_entry}
use Rattle.sa_model.specs.Visible.{ServiceOfPort, visible_services}
use Rattle.sa_store.specs.Registry.{IsListed, of_guid, of_port}
use Rattle.sa_store.proofs.PortServiceLemmas.{place_of}
use Rattle.sa_answer.specs.Taken.{bytes_of}
use Rattle.sa_answer.proofs.TakenLemmas.{bytes_are, flat_reported}
use Rattle.sa_store.specs.Kept.{KeptPort, ServicesOfBase, ports_of, services_of, services_of_port}
use Rattle.sa_answer.specs.Asked.{guid_in}
use Rattle.sa_answer.specs.Offers.{is_offered, offer, offers_of, offers_shown, service_bytes, services_offered, services_reported}
use Rattle.sa_answer.proofs.FoundLemmas.{agrees}
use Rattle.sa_answer.proofs.OutLemmas.{gids_differ}
use Rattle.sa_model.specs.Visible as visible

-- ---- what of a port is shown to another
shown_alike : (ports : List SubnetPort) (own other : SubnetPort) (place : PortServices) → IsDistinct same_guid ports → IsListed ports own → IsListed ports other
    → place.port ≡ other.guid → is_shown ports own.guid place ≡ is_offered own other place.base
shown_alike ports own other place once own_listed listed is =
    let shared : ports_share_base ports place.base own.guid other.guid ≡ shares_base place.base own.keys other.keys =
    of_one_port own.guid (λ port. shares_base_with ports place.base port other.guid) ports own once own_listed
    ∙ of_one_port other.guid (λ port. shares_base place.base own.keys port.keys) ports other once listed in
    rw is (ap (λ (b : Bool). (other.guid == own.guid) || b) shared)

-- the services of some places that a request selects
abbrev pub selected_at : ℕ → ServiceRecord → List PortServices → List ServiceOfPort
selected_at mask asked places = services_selected mask asked (flat_map visible.services_of places)

selected_joined : (mask : ℕ) (asked : ServiceRecord) (xs ys : List PortServices)
    → selected_at mask asked (xs ++ ys) ≡ selected_at mask asked xs ++ selected_at mask asked ys
selected_joined mask asked xs ys =
    ap (services_selected mask asked) (flat_map-append visible.services_of xs ys)
    ∙ filter-append (agrees mask asked) (flat_map visible.services_of xs) (flat_map visible.services_of ys)

port_offers : (ports : List SubnetPort) (own other : SubnetPort) (mask : ℕ) (asked : ServiceRecord) → IsDistinct same_guid ports → IsListed ports own
    → IsListed ports other → (places : List ServicesOfBase)
    → flat_map (offers_shown own mask asked other) places ≡ selected_at mask asked (services_seen ports own.guid (map (place_of other) places))
port_offers ports own other mask asked once own_listed listed [] = refl
port_offers ports own other mask asked once own_listed listed (place ∷ places) =
    let alike = shown_alike ports own other (place_of other place) once own_listed listed refl in
    let rest = port_offers ports own other mask asked once own_listed listed places in
    elim (cases_Bool (is_offered own other place.base)) [
      | inl shown ↦
          let seen : is_shown ports own.guid (place_of other place) ≡ true = alike ∙ shown in
          rw (shown, seen)
          (ap (λ (more : List ServiceOfPort). offers_of mask asked other.guid place ++ more) rest
          ∙ sym (filter-append (agrees mask asked) (visible.services_of (place_of other place)) (flat_map visible.services_of (services_seen ports own.guid (map (place_of other) places)))))
      | inr hidden ↦
          let unseen : is_shown ports own.guid (place_of other place) ≡ false = alike ∙ hidden in
          rw (hidden, unseen) rest
    ]

offered_among : (ports : List SubnetPort) (own : SubnetPort) (mask : ℕ) (asked : ServiceRecord) → IsDistinct same_guid ports → IsListed ports own
    → (kept : List KeptPort) → AllByRecursion (IsListed ports) (ports_of kept)
    → flat_map (services_offered own mask asked) kept ≡ services_selected mask asked (visible_services ports own (services_of kept))
offered_among ports own mask asked once own_listed [] listed = refl
offered_among ports own mask asked once own_listed (one ∷ kept) listed =
    let here = port_offers ports own one.port mask asked once own_listed listed.0 one.services in
    let rest = offered_among ports own mask asked once own_listed kept listed.1 in
    let both = filter-append (is_shown ports own.guid) (services_of_port one) (services_of kept) in
    let joined = selected_joined mask asked (services_seen ports own.guid (services_of_port one)) (services_seen ports own.guid (services_of kept)) in
    ap (λ (some : List ServiceOfPort). some ++ flat_map (services_offered own mask asked) kept) here
    ∙ (ap (λ (some : List ServiceOfPort). selected_at mask asked (services_seen ports own.guid (services_of_port one)) ++ some) rest
    ∙ (sym joined ∙ ap (selected_at mask asked) (sym both)))

-- ---- each of some ports that have GUIDs of their own is the port of its GUID
all_listed : (ports : List SubnetPort) → IsDistinct same_guid ports → AllByRecursion (IsListed ports) ports
all_listed [] once = tt
all_listed (first ∷ ports) once =
    (rw (eq-eqb first.guid first.guid refl) refl, further_on ports (IsDistinct-head same_guid first ports once) (all_listed ports (IsDistinct-tail same_guid first ports once)))
  where
    further_on : (some : List SubnetPort) → AllByRecursion (λ other. same_guid first other ≡ false) some → AllByRecursion (IsListed ports) some
        → AllByRecursion (IsListed (first ∷ ports)) some
    further_on [] apart listed = tt
    further_on (one ∷ some) apart listed = (rw apart.0 listed.0, further_on some apart.1 listed.1)

pub offered_is : (kept : List KeptPort) (own : SubnetPort) (mask : ℕ) (asked : ServiceRecord) → IsDistinct same_guid (ports_of kept)
    → port_with_guid (ports_of kept) own.guid ≡ Some own
    → flat_map (services_offered own mask asked) kept ≡ services_selected mask asked (visible_services (ports_of kept) own (services_of kept))
offered_is kept own mask asked once listed = offered_among (ports_of kept) own mask asked once listed kept (all_listed (ports_of kept) once)

-- ---- where a ServiceGID is asked, the services of all other ports agree with nothing
and_second : (a b : Bool) → ((a && false) && b) ≡ false
and_second true b = refl
and_second false b = refl

other_gid : (mask : ℕ) (asked : ServiceRecord) (one : ServiceOfPort) → asks mask 2 ≡ true → (gid_of one.port == asked.service_gid) ≡ false
    → agrees mask asked one ≡ false
unfolding service_record_selected names_selected
other_gid mask asked one named other = rw (named, other) (and_second _ _)

none_agree : (mask : ℕ) (asked : ServiceRecord) (place : PortServices) → asks mask 2 ≡ true → (gid_of place.port == asked.service_gid) ≡ false
    → selected_at mask asked (place ∷ []) ≡ []
none_agree mask asked place named other = ap (services_selected mask asked) (append-nil (visible.services_of place)) ∙ none_of place.services
  where
    none_of : (services : List Service) → services_selected mask asked (map (offer place.port place.base) services) ≡ []
    none_of [] = refl
    none_of (service ∷ services) = rw (other_gid mask asked (offer place.port place.base service) named other) (none_of services)

left_out : (ports : List SubnetPort) (own : SubnetPort) (mask : ℕ) (asked : ServiceRecord) (guid : ℕ) → asks mask 2 ≡ true
    → guid_in asked.service_gid ≡ Some guid → (services : List PortServices)
    → services_selected mask asked (visible_services ports own (of_port guid services)) ≡ services_selected mask asked (visible_services ports own services)
left_out ports own mask asked guid named is [] = refl
left_out ports own mask asked guid named is (place ∷ services) =
    let rest = left_out ports own mask asked guid named is services in
    let seen = services_seen ports own.guid services in
    let kept = services_seen ports own.guid (of_port guid services) in
    elim (cases_Bool (place.port == guid)) [
      | inl this ↦ elim (cases_Bool (is_shown ports own.guid place)) [
        | inl shown ↦
            rw (this, shown)
            (selected_joined mask asked (place ∷ []) kept
            ∙ (ap (λ (some : List ServiceOfPort). selected_at mask asked (place ∷ []) ++ some) rest ∙ sym (selected_joined mask asked (place ∷ []) seen)))
        | inr hidden ↦ rw (this, hidden) rest
      ]
      | inr other ↦ elim (cases_Bool (is_shown ports own.guid place)) [
        | inl shown ↦
            let none = none_agree mask asked place named (gids_differ guid asked.service_gid place.port is other) in
            rw (other, shown)
            (rest ∙ sym (selected_joined mask asked (place ∷ []) seen ∙ ap (λ (some : List ServiceOfPort). some ++ selected_at mask asked seen) none))
        | inr hidden ↦ rw (other, hidden) rest
      ]
    ]

pub offered_by : (ports : List SubnetPort) (own : SubnetPort) (mask : ℕ) (asked : ServiceRecord) (guid : ℕ) (kept : List KeptPort) (services : List PortServices)
    → IsDistinct same_guid ports → IsListed ports own → asks mask 2 ≡ true → guid_in asked.service_gid ≡ Some guid → ports_of kept ≡ of_guid guid ports
    → services_of kept ≡ of_port guid services
    → flat_map (services_offered own mask asked) kept ≡ services_selected mask asked (visible_services ports own services)
offered_by ports own mask asked guid kept services once own_listed named is ports_are services_are =
    let listed = all_filtered (IsListed ports) (λ port. port.guid == guid) ports (all_listed ports once) in
    offered_among ports own mask asked once own_listed kept (subst (AllByRecursion (IsListed ports)) (sym ports_are) listed)
    ∙ (ap (λ (some : List PortServices). services_selected mask asked (visible_services ports own some)) services_are
    ∙ left_out ports own mask asked guid named is services)

-- ---- and as it is gone through
pub services_are : (own : SubnetPort) (mask : ℕ) (asked : ServiceRecord) (others : List KeptPort) (services : List ServiceOfPort)
    → flat_map (services_offered own mask asked) others ≡ services → flat_map (services_reported own mask asked) others ≡ bytes_of (map service_entry services)
services_are own mask asked others services same =
    each others
    ∙ (flat_reported service_bytes (services_offered own mask asked) others ∙ (ap (map service_bytes) same ∙ sym (bytes_are service_entry services)))
  where
    each : (some : List KeptPort) → flat_map (services_reported own mask asked) some ≡ flat_map (λ other. map service_bytes (services_offered own mask asked other)) some
    each [] = refl
    each (other ∷ some) = λ i. flat_reported service_bytes (offers_shown own mask asked other.port) other.services i ++ each some i
