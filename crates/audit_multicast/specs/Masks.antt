-- The port masks of an MLID (multicast LID), by the MFTs (multicast forwarding tables) of switches.
use Rattle.std.specs.Prelude.{ℕ, ◌==◌, Bool, List, [], filter, find, map, slice_get, if◌then◌else◌, Option}
use Rattle.std.specs.List.{list_any, range_with_len}
use Rattle.std.specs.Option.{option_and_then, option_map_or}
use Rattle.mft_file.specs.declared.table.MaskTable.{MaskTable}
use Rattle.mft_file.specs.Table.{place_of}
use Rattle.topo_file.specs.Node.{is_switch}
use Rattle.topo_file.specs.declared.node.Node.{Node}
use Rattle.audit_net.specs.Net.{NetState}

-- the table of the switch of this GUID
abbrev pub table_of : List MaskTable → ℕ → Option MaskTable
table_of tables guid = option_and_then (λ place. slice_get tables place) (place_of guid tables)

-- the ports of the MLID's row; without a row none
abbrev pub mask_in : ℕ → MaskTable → List ℕ
mask_in mlid table = option_map_or (λ row. row.ports) (find (λ row. row.mlid == mlid) table.rows) []

-- the mask of the MLID at a node; only a switch has one
abbrev pub mask_of : List MaskTable → ℕ → Node → List ℕ
mask_of tables mlid node = if is_switch node then option_map_or (mask_in mlid) (table_of tables node.guid) [] else []

-- that of each node
abbrev pub masks_of : NetState → List MaskTable → ℕ → List (List ℕ)
masks_of net tables mlid = map (mask_of tables mlid) net.plan.nodes

-- ---- the MLIDs that a row names, as they rise: 0xc000 to 0xfffe
abbrev pub has_row : ℕ → MaskTable → Bool
has_row mlid table = list_any (λ row. row.mlid == mlid) table.rows

abbrev pub is_used : List MaskTable → ℕ → Bool
is_used tables mlid = list_any (has_row mlid) tables

unfoldable pub mlids_of : List MaskTable → List ℕ
mlids_of tables = filter (is_used tables) (range_with_len 49152 16383)
