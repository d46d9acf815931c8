-- The ports that share a partition with a port.
use Rattle.std.specs.Prelude.{ℕ, Bool, ◌==◌, ◌&&◌, ◌||◌, List, filter, map}
use Rattle.std.specs.List.{list_any}
use Rattle.pkey_rules.specs.KeyTable.{shares}
use Rattle.subnet_model.specs.declared.subnet_port.SubnetPort.{SubnetPort}

-- a port of this GUID shares a partition with the port
abbrev pub shares_with : List SubnetPort → SubnetPort → ℕ → Bool
shares_with ports port guid = list_any (λ other. (other.guid == guid) && shares port.keys other.keys) ports

-- the ports of these two GUIDs share a partition
abbrev pub ports_share : List SubnetPort → ℕ → ℕ → Bool
ports_share ports p q = list_any (λ port. (port.guid == p) && shares_with ports port q) ports

-- q is p itself, or shares a partition with it; switches' ports and the subnet manager's count
abbrev pub is_near : List SubnetPort → ℕ → ℕ → Bool
is_near ports p q = (q == p) || ports_share ports p q

-- the GUIDs of the ports near p, in the order of the ports
abbrev pub near : List SubnetPort → ℕ → List ℕ
near ports p = filter (λ q. is_near ports p q) (map (λ port. port.guid) ports)
