-- The colours of channel adapters in DOT, by the partitions that they are in (IBA volume 1, 14.2.5.7).
use Rattle.std.specs.Prelude.{ℕ, ◌+◌, ◌-◌, ◌%◌, ◌==◌, ◌&&◌, Bool, false, if◌then◌else◌, List, [], ◌∷◌}
use Rattle.std.specs.Prelude.{◌++◌, codes, decimal, filter, flat_map, length, slice_get}
use Rattle.std.specs.List.{list_any, range_with_len}
use Rattle.std.specs.Option.{option_map_or}
use Rattle.pkey_rules.specs.KeyTable.{has_base}
use Rattle.subnet_model.specs.Configuration.{ConfigurationState}
use Rattle.subnet_model.specs.declared.subnet_port.SubnetPort.{SubnetPort}
use Rattle.topo_file.specs.Node.{is_switch}
use Rattle.topo_file.specs.declared.node.Node.{Node}

-- ---- who is in which partition
-- the end port is one of the node
abbrev pub is_of : Node → SubnetPort → Bool
is_of node port = port.node_guid == node.guid

-- a port of the node holds a key of that base
abbrev pub holds_base : List SubnetPort → Node → ℕ → Bool
holds_base ports node base = list_any (λ port. is_of node port && has_base base port.keys) ports

-- a port of the node is in the partition of that number
abbrev pub is_in : ConfigurationState → Node → ℕ → Bool
is_in subnet node number =
    option_map_or (λ heading. holds_base subnet.ports node heading.base) (slice_get subnet.partitions number) false

-- the partitions that the node is in, by number; the default partition, which has number 0, is left out
unfoldable pub partitions_of : ConfigurationState → Node → List ℕ
partitions_of subnet node = filter (is_in subnet node) (range_with_len 1 (length subnet.partitions - 1))

-- ---- colours
-- DOT's scheme `set312` has twelve colours: partition 1 has the first, and so has partition 13
abbrev pub colour : ℕ → List ℕ
colour number = codes "/set312/" ++ decimal ((number - 1) % 12 + 1)

abbrev pub further_colour : ℕ → List ℕ
further_colour number = codes ":" ++ colour number

-- a node of one colour is filled with it, and one of several is cut into wedges
abbrev pub style : List ℕ → List ℕ
style (first ∷ second ∷ more) = codes "wedged"
style _ = codes "filled"

abbrev pub colours : ℕ → List ℕ → List ℕ
colours first others = codes "\"" ++ colour first ++ flat_map further_colour others ++ codes "\""

unfoldable pub colour_words : List ℕ
colour_words = codes ", fillcolor="

abbrev pub style_words : List ℕ → List ℕ
style_words filled = codes ", style=" ++ filled ++ colour_words

-- the attributes of a node in these partitions, which is filled in this style; in none it stays as it is
unfoldable pub fill : List ℕ → List ℕ → List ℕ
fill filled [] = []
fill filled (first ∷ others) = style_words filled ++ colours first others

abbrev pub styled_fill : List ℕ → List ℕ
styled_fill numbers = fill (style numbers) numbers

-- channel adapters alone are coloured
abbrev pub fill_of : ConfigurationState → Node → List ℕ
fill_of subnet node = if is_switch node then [] else styled_fill (partitions_of subnet node)
