-- What holds of the services of every subnet.
use Rattle.std.specs.Prelude.{ℕ, ◌≡◌, Bool, true, false, ◌==◌, ◌&&◌, List, [], ◌∷◌, filter, map}
use Rattle.std.specs.List.{flat_map}
use Rattle.subnet_model.specs.declared.subnet_port.SubnetPort.{SubnetPort}
use Rattle.subnet_model.specs.Near.{is_near}
use Rattle.sa_model.specs.Services.{Service, PortServices, no_services}
use Rattle.sa_model.specs.ServiceChange.{Deed, ServiceChange, has_id, has_room, port_and_base, services_changed, services_after, service_changes_near}
use Rattle.sa_model.specs.ServiceSight.{services_near, services_seen}
use Rattle.sa_model.specs.ServiceSound.{are_sound_services}

-- at the start they are sound, and what ports set or delete keeps them so
abbrev pub NoServicesAreSound : Type 0
NoServicesAreSound = (ports : List SubnetPort) → are_sound_services ports (no_services ports) ≡ true

abbrev pub ServicesStaySound : Type 0
ServicesStaySound =
    (ports : List SubnetPort) (services : List PortServices) (change : ServiceChange)
    → are_sound_services ports services ≡ true → are_sound_services ports (services_changed services change) ≡ true

-- whose services there are, and in which partitions, does not change
abbrev pub PlacesStay : Type 0
PlacesStay =
    (services : List PortServices) (change : ServiceChange)
    → map port_and_base (services_changed services change) ≡ map port_and_base services

-- ---- what a Set and a Delete do: the place of a port and a base, and the services of an ID that stand there
abbrev pub is_of : ℕ → ℕ → PortServices → Bool
is_of port base place = (place.port == port) && (place.base == base)

abbrev pub offered : ℕ → ℕ → ℕ → List PortServices → List Service
offered port base id services = flat_map (λ place. filter (has_id id) place.services) (filter (is_of port base) services)

-- all is as it was except the service of this ID of this port and base
abbrev pub is_same : ℕ → ℕ → ℕ → ℕ → ℕ → ℕ → Bool
is_same port base id p b i = (p == port) && ((b == base) && (i == id))

abbrev pub AreAsBeforeBut : ℕ → ℕ → ℕ → List PortServices → List PortServices → Type 0
AreAsBeforeBut port base id before after =
    (p b i : ℕ) → is_same port base id p b i ≡ false → offered p b i after ≡ offered p b i before

-- this service is there, once and in place of any of its ID, and all others are as before
pub record IsSet (port base : ℕ) (new : Service) (before after : List PortServices) : Type 0 where
  pub there : offered port base new.service_id after ≡ new ∷ []
  pub others : AreAsBeforeBut port base new.service_id before after

-- none of this ID is there, and all others are as before
pub record IsDeleted (port base id : ℕ) (before after : List PortServices) : Type 0 where
  pub gone : offered port base id after ≡ []
  pub others : AreAsBeforeBut port base id before after

-- so it is after a Set, if the port has one place in this base and room there
abbrev pub SetServicesAreThere : Type 0
SetServicesAreThere =
    (services : List PortServices) (port base : ℕ) (place : PortServices) (new : Service)
    → filter (is_of port base) services ≡ place ∷ [] → has_room new.service_id place.services ≡ true
    → IsSet port base new services (services_changed services (record { port = port; base = base; deed = Deed.sets new }))

-- and after a Delete, wherever it is
abbrev pub DeletedServicesAreGone : Type 0
DeletedServicesAreGone =
    (services : List PortServices) (port base id : ℕ)
    → IsDeleted port base id services (services_changed services (record { port = port; base = base; deed = Deed.deletes id }))

-- ---- what a rule for what is shown has to keep: what a port that is far from p does to services is not shown to p
abbrev pub ServiceSight : Type 0
ServiceSight = List SubnetPort → ℕ → List PortServices → List PortServices

abbrev pub HidesFarServices : ServiceSight → Type 0
HidesFarServices sight =
    (ports : List SubnetPort) (p : ℕ) (services : List PortServices) (change : ServiceChange)
    → is_near ports p change.port ≡ false → sight ports p (services_changed services change) ≡ sight ports p services

-- it holds of ours
abbrev pub FarServicesAreNotSeen : Type 0
FarServicesAreNotSeen = HidesFarServices services_seen

-- nor does it change anything of the services of the ports near p
abbrev pub FarServicesAreNotNear : Type 0
FarServicesAreNotNear = HidesFarServices services_near

-- what p is shown follows from the services of the ports near it
abbrev pub ShownServicesAreNear : Type 0
ShownServicesAreNear =
    (ports : List SubnetPort) (p : ℕ) (services : List PortServices)
    → services_seen ports p (services_near ports p services) ≡ services_seen ports p services

-- ---- and if p sees the same of services before what any port does to them, it sees the same after
abbrev pub StaysAlike : ServiceSight → Type 0
StaysAlike sight =
    (ports : List SubnetPort) (p : ℕ) (s t : List PortServices) (change : ServiceChange)
    → sight ports p s ≡ sight ports p t
    → sight ports p (services_changed s change) ≡ sight ports p (services_changed t change)

-- so it is with those that p is shown
abbrev pub ServicesAreSeenAlike : Type 0
ServicesAreSeenAlike = StaysAlike services_seen

-- and with those of the ports near p
abbrev pub NearServicesStayAlike : Type 0
NearServicesStayAlike = StaysAlike services_near

-- so whatever ports set and delete, these are what they would be after what the ports near p alone set and delete
abbrev pub ServicesDependOnNear : Type 0
ServicesDependOnNear =
    (ports : List SubnetPort) (p : ℕ) (services : List PortServices) (changes : List ServiceChange)
    → services_near ports p (services_after services changes)
    ≡ services_near ports p (services_after services (service_changes_near ports p changes))
