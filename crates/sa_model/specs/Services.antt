-- What subnet administration remembers of services (IBA volume 1, 15.2.5.14).
use Rattle.std.specs.Prelude.{ℕ, List, [], map}
use Rattle.std.specs.List.{flat_map}
use Rattle.pkey_rules.specs.PKey.{base_of}
use Rattle.subnet_model.specs.declared.subnet_port.SubnetPort.{SubnetPort}
use Rattle.sa_model.specs.KeyOrder.{by_base}

-- a service, as its port describes it: lease, name and data of a ServiceRecord. The record's key is not kept
pub record Service : Type 0 where
  pub service_id : ℕ
  pub lease : ℕ
  pub name : List ℕ
  pub numbers : List ℕ

-- the services of the port of a GUID in the partition of a base, by ServiceID
pub record PortServices : Type 0 where
  pub port : ℕ
  pub base : ℕ
  pub services : List Service

-- ---- the start: no port has any in any of its partitions
abbrev pub none_of_port : SubnetPort → List PortServices
none_of_port port = map (λ key. record { port = port.guid; base = base_of key; services = [] }) (by_base port.keys)

-- by port, in the order of LIDs, and then by base
abbrev pub no_services : List SubnetPort → List PortServices
no_services ports = flat_map none_of_port ports
