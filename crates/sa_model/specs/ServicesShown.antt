-- Which services a port is shown: its own, and those offered in a partition where it and the port that offers them may speak.
use Rattle.std.specs.Prelude.{ℕ, ◌≡◌, Bool, not, ◌==◌, ◌&&◌, ◌||◌, List, Some, filter}
use Rattle.std.specs.List.{flat_map, list_any}
use Rattle.pkey_rules.specs.PKey.{base_of, is_full}
use Rattle.pkey_rules.specs.KeyTable.{has_base}
use Rattle.subnet_model.specs.declared.subnet_port.SubnetPort.{SubnetPort}
use Rattle.subnet_model.specs.Configuration.{ConfigurationState}
use Rattle.subnet_model.specs.Configured.{IsConfigured}
use Rattle.subnet_model.specs.Delivery.{port_with_guid}
use Rattle.sa_model.specs.QueryLaws.{ServiceRule}
use Rattle.sa_model.specs.ServiceSight.{services_near}
use Rattle.sa_model.specs.Services.{PortServices}
use Rattle.sa_model.specs.Visible.{ServiceOfPort, services_of, visible_services}

-- a full member's key of this base is held
abbrev pub has_full : ℕ → List ℕ → Bool
has_full base keys = list_any (λ key. (base_of key == base) && is_full key) keys

-- both are members of the partition of this base, at least one of them a full one; 0 names no partition
abbrev pub may_speak : ℕ → List ℕ → List ℕ → Bool
may_speak base ps qs =
    not (base == 0) && ((has_base base ps && has_base base qs) && (has_full base ps || has_full base qs))

abbrev pub is_for : List SubnetPort → SubnetPort → ServiceOfPort → Bool
is_for ports own one =
    (one.port == own.guid)
    || list_any (λ other. (other.guid == one.port) && may_speak one.base own.keys other.keys) ports

-- of all services that are remembered, those are shown, and no other
abbrev pub ShowsServicesTo : ServiceRule → Type 0
ShowsServicesTo rule =
    (configuration : ConfigurationState) (own : SubnetPort) (services : List PortServices) → IsConfigured configuration
    → port_with_guid configuration.ports own.guid ≡ Some own
    → rule configuration.ports own services ≡ filter (is_for configuration.ports own) (flat_map services_of services)

abbrev pub ServicesAreShownToSpeakers : Type 0
ServicesAreShownToSpeakers = ShowsServicesTo visible_services

-- ---- wrong rules
-- those of the ports near it, also of partitions in which both are limited members
abbrev pub services_of_near : ServiceRule
services_of_near ports own services = flat_map services_of (services_near ports own.guid services)

-- those of each partition of which it is a member
abbrev pub services_of_its_bases : ServiceRule
services_of_its_bases ports own services = flat_map services_of (filter (λ place. has_base place.base own.keys) services)

-- its own alone
abbrev pub its_own_services : ServiceRule
its_own_services ports own services = flat_map services_of (filter (λ place. place.port == own.guid) services)

pub record WrongSightsAreRefused : Type 0 where
  pub near : ShowsServicesTo services_of_near → ⊥
  pub bases : ShowsServicesTo services_of_its_bases → ⊥
  pub own : ShowsServicesTo its_own_services → ⊥
