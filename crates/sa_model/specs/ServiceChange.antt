-- What a port does to services (IBA volume 1, 15.2.2 and 15.2.5.14): it sets one, or deletes it.
use Rattle.std.specs.Prelude.{ℕ, Bool, not, ◌==◌, ◌&&◌, ◌||◌, nat_lt, if◌then◌else◌, List, ◌∷◌, ◌++◌, length, filter, fold, map}
use Rattle.std.specs.List.{list_any}
use Rattle.subnet_model.specs.declared.subnet_port.SubnetPort.{SubnetPort}
use Rattle.subnet_model.specs.Near.{is_near}
use Rattle.sa_model.specs.Services.{Service, PortServices}

-- the port of a GUID sets or deletes a service in the partition of a base
pub data Deed : Type 0 where
  sets : Service → Deed
  deletes : ℕ → Deed

pub record ServiceChange : Type 0 where
  pub port : ℕ
  pub base : ℕ
  pub deed : Deed

-- these are the services that it speaks of
abbrev pub is_place : ServiceChange → PortServices → Bool
is_place change place = (place.port == change.port) && (place.base == change.base)

abbrev pub has_id : ℕ → Service → Bool
has_id id service = service.service_id == id

abbrev pub lower_id : Service → Service → Bool
lower_id a b = nat_lt a.service_id b.service_id

-- a port offers at most so many in a partition
abbrev pub most_services : ℕ
most_services = 16

-- there is room for one more, or it comes in the place of another
abbrev pub has_room : ℕ → List Service → Bool
has_room id services = list_any (has_id id) services || nat_lt (length services) most_services

-- those of lower ServiceIDs, it, and those of higher ones; one of its own ServiceID makes way
abbrev pub with_service : Service → List Service → List Service
with_service new services =
    filter (λ service. lower_id service new) services ++ new ∷ filter (λ service. lower_id new service) services

abbrev pub without_service : ℕ → List Service → List Service
without_service id services = filter (λ service. not (has_id id service)) services

abbrev pub after_deed : Deed → List Service → List Service
after_deed (Deed.sets new) services = if has_room new.service_id services then with_service new services else services
after_deed (Deed.deletes id) services = without_service id services

abbrev pub changed_in : ServiceChange → PortServices → PortServices
changed_in change place =
    if is_place change place then record place { services = after_deed change.deed place.services } else place

-- the services of all ports after it
abbrev pub services_changed : List PortServices → ServiceChange → List PortServices
services_changed services change = map (changed_in change) services

-- ---- one after another
abbrev pub services_after : List PortServices → List ServiceChange → List PortServices
services_after services changes = fold services_changed services changes

-- those of the ports near p
abbrev pub service_changes_near : List SubnetPort → ℕ → List ServiceChange → List ServiceChange
service_changes_near ports p changes = filter (λ change. is_near ports p change.port) changes

-- the port and the base whose services they are
abbrev pub port_and_base : PortServices → ℕ × ℕ
port_and_base place = (place.port, place.base)
