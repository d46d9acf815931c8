-- What is kept for a port: itself, its services by base, and the table that is open to it; and what stands prepared.
use Rattle.std.specs.Prelude.{ℕ, ◌≡◌, List, [], map, Option, None}
use Rattle.std.specs.List.{flat_map}
use Rattle.pkey_rules.specs.PKey.{base_of}
use Rattle.rmpp_core.specs.Segments.{Transfer}
use Rattle.sa_records.specs.declared.node_record.NodeRecord.{NodeRecord}
use Rattle.sa_records.specs.NodeRecord.{node_record_bytes}
use Rattle.subnet_model.specs.declared.subnet_port.SubnetPort.{SubnetPort}
use Rattle.sa_model.specs.KeyOrder.{by_base}
use Rattle.sa_model.specs.Services.{PortServices, Service}
use Rattle.sa_model.specs.Shown.{node_record_of}
use Rattle.sa_replies.specs.Transfers.{PortTransfer}

-- the services of one port in the partition of a base
pub record ServicesOfBase : Type 0 where
  pub base : ℕ
  pub services : List Service

pub record KeptPort : Type 0 where
  pub port : SubnetPort
  pub services : List ServicesOfBase
  pub open_table : Option Transfer

-- the bytes of a port's NodeRecord
abbrev pub node_bytes : SubnetPort → List ℕ
node_bytes port = node_record_bytes (node_record_of port)

-- the port's keys by base, its NodeRecord, as fields and as bytes, and a place for services for each of its keys
pub record IsPrepared (port : SubnetPort) (keys : List ℕ) (shown : NodeRecord) (bytes : List ℕ) (places : List ServicesOfBase)
    : Type 0 where
  pub keys_stand : keys ≡ by_base port.keys
  pub node : shown ≡ node_record_of port
  pub encoded : bytes ≡ node_bytes port
  pub places_stand : map (λ place. place.base) places ≡ map base_of (by_base port.keys)

-- ---- of all ports
abbrev pub ports_of : List KeptPort → List SubnetPort
ports_of kept = map (λ one. one.port) kept

abbrev pub services_of_port : KeptPort → List PortServices
services_of_port one = map (λ place. record { port = one.port.guid; base = place.base; services = place.services }) one.services

abbrev pub services_of : List KeptPort → List PortServices
services_of kept = flat_map services_of_port kept

abbrev pub transfer_of : KeptPort → PortTransfer
transfer_of one = record { port = one.port.guid; open_table = one.open_table }

abbrev pub transfers_of : List KeptPort → List PortTransfer
transfers_of kept = map transfer_of kept

-- ---- a port before anybody sets a service or asks for a table
abbrev pub no_place : ℕ → ServicesOfBase
no_place key = record { base = base_of key; services = [] }

abbrev pub at_the_start : SubnetPort → KeptPort
at_the_start port = record {
  port = port;
  services = map no_place (by_base port.keys);
  open_table = None;
}
