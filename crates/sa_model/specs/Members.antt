-- Who is in a partition (IBA volume 1, 14.2.5.7), by the keys of a list of ports.
use Rattle.std.specs.Prelude.{ℕ, Bool, true, ◌==◌, ◌&&◌, List}
use Rattle.std.specs.List.{list_any}
use Rattle.pkey_rules.specs.PKey.{key_of}
use Rattle.pkey_rules.specs.KeyTable.{accepts, holds}
use Rattle.subnet_model.specs.declared.subnet_port.SubnetPort.{SubnetPort}

-- the port is a member of the partition of this base: it accepts what a full member sends
abbrev pub is_in : SubnetPort → ℕ → Bool
is_in port base = accepts (key_of base true) port.keys

-- and so is the port of this GUID
abbrev pub is_member : List SubnetPort → ℕ → ℕ → Bool
is_member ports base guid = list_any (λ port. (port.guid == guid) && is_in port base) ports

-- it is a full member of it
abbrev pub is_full_member : List SubnetPort → ℕ → ℕ → Bool
is_full_member ports base guid = list_any (λ port. (port.guid == guid) && holds (key_of base true) port.keys) ports
