-- What is so of what every subnet is brought up as, whatever its topology and its partitions.
use Rattle.std.specs.Prelude.{ℕ, ◌≡◌, ◌+◌, ◌≤◌, ◌==◌, Bool, true, List, length, map, All}
use Rattle.std.specs.List.{IsDistinct, list_all, list_any, range_with_len}
use Rattle.fabric_parts.specs.declared.limits.TheConstants.{ADAPTER_PORTS, SWITCHES}
use Rattle.partition_file.specs.declared.heading.Heading.{Heading}
use Rattle.partition_file.specs.Members.{AreSoundHeadings, bases_in}
use Rattle.pkey_rules.specs.declared.key_table.TheConstants.{PARTITIONS}
use Rattle.pkey_rules.specs.KeyTable.{same_base}
use Rattle.pkey_rules.specs.PKey.{base_of}
use Rattle.subnet_model.specs.declared.subnet_port.SubnetPort.{SubnetPort}
use Rattle.subnet_model.specs.Configuration.{ConfigurationState}

abbrev pub same_guid : SubnetPort → SubnetPort → Bool
same_guid a b = a.guid == b.guid

-- LIDs count from 1, in the order of the list
abbrev pub HaveLidsInOrder : List SubnetPort → Type 0
HaveLidsInOrder ports = map (λ port. port.lid) ports ≡ range_with_len 1 (length ports)

-- the base of a key is that of a partition
abbrev pub is_known_key : List Heading → ℕ → Bool
is_known_key headings key = list_any (λ base. base == base_of key) (bases_in headings)

-- a port holds at most one key of each partition of the subnet, and no other
pub record HoldsKnownKeys (headings : List Heading) (port : SubnetPort) : Type 0 where
  pub once : IsDistinct same_base port.keys
  pub known : list_all (is_known_key headings) port.keys ≡ true
  pub few : length port.keys ≤ PARTITIONS

-- no two ports have one GUID, they have LIDs in order, and there are no more than a fabric within its limits has: port 0
-- of each switch, and those of adapters
pub record IsConfigured (configuration : ConfigurationState) : Type 0 where
  pub own_guids : IsDistinct same_guid configuration.ports
  pub lids : HaveLidsInOrder configuration.ports
  pub few : length configuration.ports ≤ SWITCHES + ADAPTER_PORTS
  pub keys : All (HoldsKnownKeys configuration.partitions) configuration.ports
  pub headings : AreSoundHeadings configuration.partitions
