-- Services, as they are gone through: port by port, and base by base.
use Rattle.std.specs.Prelude.{ℕ, Bool, not, ◌==◌, ◌&&◌, ◌||◌, if◌then◌else◌, List, [], length, map}
use Rattle.std.specs.List.{flat_map}
use Rattle.pkey_rules.specs.KeyTable.{shares_base}
use Rattle.sa_records.specs.declared.service_record.ServiceRecord.{ServiceRecord}
use Rattle.sa_records.specs.ServiceRecord.{service_record_bytes}
use Rattle.subnet_model.specs.declared.subnet_port.SubnetPort.{SubnetPort}
use Rattle.sa_model.specs.Services.{Service}
use Rattle.sa_model.specs.Selected.{services_selected}
use Rattle.sa_model.specs.Shown.{service_record_of}
use Rattle.sa_model.specs.Visible.{ServiceOfPort}
use Rattle.sa_store.specs.Kept.{KeptPort, ServicesOfBase}

-- ---- a service as it is shown
abbrev pub service_bytes : ServiceOfPort → List ℕ
service_bytes one = service_record_bytes (service_record_of one)

-- ---- a port is shown its own services, and those that another offers in a partition that they share
abbrev pub is_offered : SubnetPort → SubnetPort → ℕ → Bool
is_offered own other base = (other.guid == own.guid) || shares_base base own.keys other.keys

-- something is offered, and shown
abbrev pub offers_some : SubnetPort → SubnetPort → ServicesOfBase → Bool
offers_some own other place = not (length place.services == 0) && is_offered own other place.base

-- a service of the port of this GUID in the partition of this base
abbrev pub offer : ℕ → ℕ → Service → ServiceOfPort
offer port base service = record { port = port; base = base; service = service }

-- those of that port in one base that agree with a request
abbrev pub offers_of : ℕ → ServiceRecord → ℕ → ServicesOfBase → List ServiceOfPort
offers_of mask asked port place = services_selected mask asked (map (offer port place.base) place.services)

-- if they are shown
abbrev pub offers_shown : SubnetPort → ℕ → ServiceRecord → SubnetPort → ServicesOfBase → List ServiceOfPort
offers_shown own mask asked other place = if is_offered own other place.base then offers_of mask asked other.guid place else []

-- those of a port in all of its bases
abbrev pub services_offered : SubnetPort → ℕ → ServiceRecord → KeptPort → List ServiceOfPort
services_offered own mask asked other = flat_map (offers_shown own mask asked other.port) other.services

-- their bytes
abbrev pub services_reported : SubnetPort → ℕ → ServiceRecord → KeptPort → List (List ℕ)
services_reported own mask asked other = flat_map (λ place. map service_bytes (offers_shown own mask asked other.port place)) other.services
