-- How OpenSM 3.3.23 reads a partition file: if several words of a partition name a port, the last one counts. It is what was seen
-- of OpenSM, and not of a standard.
use Rattle.std.specs.Prelude.{ℕ, ◌-◌, Bool, true, false, ◌==◌, if◌then◌else◌, List, [], ◌∷◌, flat_map, fold, length, take, Option, Some, None, option_map}
use Rattle.std.specs.Option.{option_to_list}
use Rattle.partition_file.specs.declared.item.Item.{Item}
use Rattle.partition_file.specs.declared.item.Ports.{Ports}
use Rattle.partition_file.specs.declared.item.Ports.TheVariants.{All, ChannelAdapters, Switches, Routers, Manager, Guid}
use Rattle.partition_file.specs.declared.partition.Partition.{Partition}
use Rattle.partition_file.specs.Members.{lists}
use Rattle.partition_file.specs.Partitions.{all_limited, manager_full}
use Rattle.pkey_rules.specs.declared.end_port.EndPort.{EndPort}
use Rattle.pkey_rules.specs.PKey.{base_of, default_base, key_of}

-- ---- the default partition: all ports are limited and the manager's is full, and then come the words of the file
abbrev pub is_all : Ports → Bool
is_all All = true
is_all ChannelAdapters = false
is_all Switches = false
is_all Routers = false
is_all Manager = false
is_all (Guid guid) = false

-- as it is read if the file has no definition of it: then the SM port comes first, and behind the words of a definition it comes last
abbrev pub is_built_in : List Item → Bool
is_built_in (first ∷ second ∷ []) = is_all second.ports
is_built_in items = false

-- what the file lists: all but the last item, by which the SM port is full
abbrev pub words_of_default : List Item → List Item
words_of_default items = if is_built_in items then [] else take (length items - 1) items

abbrev pub items_in_turn : Partition → List Item
items_in_turn partition =
    if partition.base == default_base then all_limited ∷ manager_full ∷ words_of_default partition.items else partition.items

-- ---- the last word that names a port, if one does
abbrev pub word_after : EndPort → Option Bool → Item → Option Bool
word_after port said item = if lists port item then Some item.full else said

abbrev pub last_word : EndPort → List Item → Option Bool
last_word port items = fold (word_after port) None items

abbrev pub opensms_key : EndPort → Partition → Option ℕ
opensms_key port partition = option_map (key_of (base_of partition.base)) (last_word port (items_in_turn partition))

-- the keys of a port, in order of the partitions' numbers
abbrev pub keys_by_opensm : List Partition → EndPort → List ℕ
keys_by_opensm partitions port = flat_map (λ partition. option_to_list (opensms_key port partition)) partitions
