-- What is so of services after every run.
use Rattle.std.specs.Prelude.{ℕ, Bool, ◌==◌, ◌&&◌, nat_le, List, length}
use Rattle.std.specs.List.{list_all, list_any}
use Rattle.pkey_rules.specs.KeyTable.{has_base}
use Rattle.subnet_model.specs.declared.subnet_port.SubnetPort.{SubnetPort}
use Rattle.sa_model.specs.Sound.{pairwise}
use Rattle.sa_model.specs.Services.{PortServices}
use Rattle.sa_model.specs.ServiceChange.{lower_id, most_services}

-- the port of this GUID holds a key of this base
abbrev pub holds_base : List SubnetPort → ℕ → ℕ → Bool
holds_base ports base guid = list_any (λ port. (port.guid == guid) && has_base base port.keys) ports

-- the port is in the partition; its services there stand by ServiceID, each once, and are not too many
abbrev pub is_sound_place : List SubnetPort → PortServices → Bool
is_sound_place ports place =
    holds_base ports place.base place.port
    && (pairwise lower_id place.services && nat_le (length place.services) most_services)

abbrev pub are_sound_services : List SubnetPort → List PortServices → Bool
are_sound_services ports services = list_all (is_sound_place ports) services
