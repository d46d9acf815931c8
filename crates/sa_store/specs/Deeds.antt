-- What a port does to the services that are kept for it.
use Rattle.std.specs.Prelude.{ℕ, ◌≡◌, ◌==◌, Bool, true, if◌then◌else◌, List, filter, map}
use Rattle.std.specs.List.{IsDistinct, flat_map, list_all}
use Rattle.pkey_rules.specs.KeyTable.{has_base, same_base}
use Rattle.sa_model.specs.Sound.{pairwise}
use Rattle.sa_model.specs.ServiceChange.{Deed, after_deed, lower_id}
use Rattle.sa_model.specs.Services.{Service}
use Rattle.sa_store.specs.Kept.{KeptPort, ServicesOfBase}

abbrev pub is_of_base : ℕ → ServicesOfBase → Bool
is_of_base base place = place.base == base

-- the services of a base
abbrev pub services_in : ℕ → List ServicesOfBase → List Service
services_in base places = flat_map (λ place. place.services) (filter (is_of_base base) places)

-- ---- a deed in the partition of a base
abbrev pub after_in : ℕ → Deed → ServicesOfBase → ServicesOfBase
after_in base deed place = if is_of_base base place then record place { services = after_deed deed place.services } else place

abbrev pub with_deed : ℕ → Deed → KeptPort → KeptPort
with_deed base deed one = record one { services = map (after_in base deed) one.services }

-- a port can change its services in the partition of a base: it holds a key of it, at most one of each base, and its services
-- of each base stand by ServiceID
pub record CanChange (base : ℕ) (one : KeptPort) : Type 0 where
  pub held : has_base base one.port.keys ≡ true
  pub own_keys : IsDistinct same_base one.port.keys
  pub order : list_all (λ place. pairwise lower_id place.services) one.services ≡ true
