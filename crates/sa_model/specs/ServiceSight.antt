-- What of services a port may be shown, and what of them depends on the ports near it alone.
use Rattle.std.specs.Prelude.{ℕ, Bool, ◌==◌, ◌&&◌, ◌||◌, List, filter}
use Rattle.std.specs.List.{list_any}
use Rattle.pkey_rules.specs.KeyTable.{shares_base}
use Rattle.subnet_model.specs.declared.subnet_port.SubnetPort.{SubnetPort}
use Rattle.subnet_model.specs.Near.{is_near}
use Rattle.sa_model.specs.Services.{PortServices}

-- a port of this GUID shares the partition of this base with the port
abbrev pub shares_base_with : List SubnetPort → ℕ → SubnetPort → ℕ → Bool
shares_base_with ports base port q = list_any (λ other. (other.guid == q) && shares_base base port.keys other.keys) ports

-- the ports of these two GUIDs share it: two limited members do not
abbrev pub ports_share_base : List SubnetPort → ℕ → ℕ → ℕ → Bool
ports_share_base ports base p q = list_any (λ port. (port.guid == p) && shares_base_with ports base port q) ports

-- p is shown its own services, and those that a port offers in a partition that they share
abbrev pub is_shown : List SubnetPort → ℕ → PortServices → Bool
is_shown ports p place = (place.port == p) || ports_share_base ports place.base p place.port

abbrev pub services_seen : List SubnetPort → ℕ → List PortServices → List PortServices
services_seen ports p services = filter (is_shown ports p) services

-- those of the ports near p, in whatever partition: what p is shown is among them
abbrev pub services_near : List SubnetPort → ℕ → List PortServices → List PortServices
services_near ports p services = filter (λ place. is_near ports p place.port) services
