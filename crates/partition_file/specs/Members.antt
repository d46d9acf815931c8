-- Who is a member of which partition, and how: the keys of each end port.
use Rattle.std.specs.Prelude.{ℕ, ◌≡◌, Bool, true, false, not, ◌==◌, ◌&&◌, if◌then◌else◌, List, [], ◌∷◌, map, filter_map, codes, Option, Some, None}
use Rattle.std.specs.List.{list_all, list_any}
use Rattle.pkey_rules.specs.declared.end_port.EndPort.{EndPort}
use Rattle.pkey_rules.specs.PKey.{default_base, key_of}
use Rattle.partition_file.specs.declared.item.Ports.{Ports}
use Rattle.partition_file.specs.declared.item.Ports.TheVariants.{All, ChannelAdapters, Switches, Routers, Manager, Guid}
use Rattle.partition_file.specs.declared.item.Item.{Item}
use Rattle.partition_file.specs.declared.partition.Partition.{Partition}
use Rattle.partition_file.specs.declared.heading.Heading.{Heading}
use Rattle.partition_file.specs.Partitions.{all_full, manager_full}
use Rattle.partition_file.specs.Sound.{AreSoundBases, has_fit_group}

-- these are all end ports, those of channel adapters, port 0 of switches, none, the subnet manager's, or those of one GUID
abbrev pub are_named : EndPort → Ports → Bool
are_named port All = true
are_named port ChannelAdapters = not port.is_switch
are_named port Switches = port.is_switch
are_named port Routers = false
are_named port Manager = port.is_sm
are_named port (Guid guid) = port.guid == guid

abbrev pub lists : EndPort → Item → Bool
lists port item = are_named port item.ports

-- a member is listed somewhere, and full if it is listed so anywhere
abbrev pub is_member : EndPort → Partition → Bool
is_member port partition = list_any (λ item. lists port item) partition.items

abbrev pub is_full_member : EndPort → Partition → Bool
is_full_member port partition = list_any (λ item. item.full && lists port item) partition.items

abbrev pub key_in : EndPort → Partition → Option ℕ
key_in port partition = if is_member port partition then Some (key_of partition.base (is_full_member port partition)) else None

-- an end port's keys, in order of the partitions' numbers
abbrev pub keys_in : List Partition → EndPort → List ℕ
keys_in partitions port = filter_map (key_in port) partitions

abbrev pub heading_of : Partition → Heading
heading_of partition = record { base = partition.base; name = partition.name; group = partition.group }

-- the partitions in order of their numbers, and the keys of each end port
pub record Membership : Type 0 where
  pub headings : List Heading
  pub keys : List (List ℕ)

abbrev pub bases_in : List Heading → List ℕ
bases_in headings = map (λ heading. heading.base) headings

abbrev pub members_of : List Partition → List EndPort → Membership
members_of partitions ports = record { headings = map heading_of partitions; keys = map (keys_in partitions) ports }

-- without a file there is the default partition, and all end ports are full members of it
abbrev pub no_file : List Partition
no_file = record { base = default_base; name = codes "Default"; group = None; items = all_full ∷ manager_full ∷ [] } ∷ []

-- headings have sound bases and groups, as their partitions have
pub record AreSoundHeadings (headings : List Heading) : Type 0 where
  pub bases : AreSoundBases (bases_in headings)
  pub groups : list_all (λ heading. has_fit_group heading.group) headings ≡ true
