-- The names of nodes: those of the discovery, encoded with the bytes that a name may have, and each made one of its own.
use Rattle.std.specs.Prelude.{ℕ, Bool, not, ◌+◌, ◌-◌, ◌==◌, List, [], ◌∷◌, ◌++◌, codes, decimal, find, length, map, take, slice_get, unwrap_or, if◌then◌else◌}
use Rattle.std.specs.List.{list_any, range_with_len}
use Rattle.std.specs.Option.{option_map_or}
use Rattle.std.specs.Str.{bytes_eq}
use Rattle.text_words.specs.Words.{is_name_byte}
use Rattle.netdiscover_file.specs.declared.node.Node.{Node}
use Rattle.topology_import.specs.declared.nodes.Meant.{Meant}
use Rattle.topology_import.specs.declared.planned.Planned.{Planned}

-- the name of the node there, as it stands
abbrev pub name_at : List Node → ℕ → List ℕ
name_at nodes place = option_map_or (λ node. node.name) (slice_get nodes place) []

-- `_` stands for each byte that a name may not have; 32 bytes are enough, and if there is none it is a `node`
abbrev pub name_byte : ℕ → ℕ
name_byte byte = if is_name_byte byte then byte else 95

abbrev pub or_node : List ℕ → List ℕ
or_node name = if length name == 0 then codes "node" else name

abbrev pub encoded : List ℕ → List ℕ
encoded name = or_node (map name_byte (take 32 name))

-- `NAME-2`, in 32 bytes at most
abbrev pub suffix : ℕ → List ℕ
suffix number = codes "-" ++ decimal number

abbrev pub numbered : List ℕ → ℕ → List ℕ
numbered name number = take (32 - length (suffix number)) name ++ suffix number

-- a node before has this name
abbrev pub has_name : List Planned → List ℕ → Bool
has_name nodes name = list_any (λ node. bytes_eq name node.name) nodes

-- the first number from 2 with which the name is no node's before; of as many names as there are nodes, and one more, one is
abbrev pub free_number : List Planned → List ℕ → ℕ
free_number nodes name =
    unwrap_or (find (λ number. not (has_name nodes (numbered name number))) (range_with_len 2 (length nodes))) (length nodes + 2)

abbrev pub own_name : List Planned → List ℕ → List ℕ
own_name nodes name = if has_name nodes name then numbered name (free_number nodes name) else name

-- ---- nodes with their names, each named after those before it
abbrev pub planned : List ℕ → Meant → Planned
planned name node = record {
  name = name;
  node_type = node.node_type;
  guid = node.guid;
  ports = node.ports;
  node = node.node;
  line = node.line;
}

abbrev pub with_name : List Node → List Planned → Meant → Planned
with_name found so_far node = planned (own_name so_far (encoded (name_at found node.node))) node

unfoldable pub named : List Node → List Planned → List Meant → List Planned
named found so_far [] = so_far
named found so_far (node ∷ rest) = named found (so_far ++ with_name found so_far node ∷ []) rest
