-- The LFT that a switch of a fabric holds, as rows of a dump: a row for each LID that leads somewhere.
use Rattle.std.specs.Prelude.{ℕ, ◌+◌, ◌==◌, ◌&&◌, Bool, get_or, if◌then◌else◌, List, [], ◌∷◌, ◌++◌, length}
use Rattle.std.specs.List.{list_any}
use Rattle.dump_file.specs.declared.destination.Destination.{Destination}
use Rattle.dump_file.specs.declared.destination.Destination.TheVariants as destinations
use Rattle.dump_file.specs.declared.row.Row.{Row}
use Rattle.dump_file.specs.declared.table.Table.{Table}
use Rattle.switch_model.specs.SwitchState.{SwitchState}
use Rattle.topo_file.specs.Node.{is_switch}
use Rattle.topo_file.specs.declared.node.Node.{Node}

-- the entry of a LID in the table of a switch: past its end there is none
abbrev pub held_entry : SwitchState → ℕ → ℕ
held_entry held lid = get_or held.linear lid 255

-- ---- rows
-- a switch of the topology has this GUID
abbrev pub is_switchs : List Node → ℕ → Bool
is_switchs nodes guid = list_any (λ node. is_switch node && (node.guid == guid)) nodes

abbrev pub destination_of : List Node → ℕ → Destination
destination_of nodes guid = if is_switchs nodes guid then destinations.Switch guid else destinations.ChannelAdapter guid

abbrev pub row_for : List Node → ℕ → ℕ → ℕ → Row
row_for nodes lid guid entry = record { lid = lid; port = entry; destination = destination_of nodes guid }

-- 255 leads nowhere, and has no row
abbrev pub row_if : List Node → ℕ → ℕ → ℕ → List Row
row_if nodes lid guid entry = if entry == 255 then [] else row_for nodes lid guid entry ∷ []

-- those of these GUIDs, from this LID on
abbrev pub rows_from : List Node → SwitchState → ℕ → List ℕ → List Row
rows_from nodes held lid [] = []
rows_from nodes held lid (guid ∷ guids) = row_if nodes lid guid (held_entry held lid) ++ rows_from nodes held (lid + 1) guids

-- ---- the table of a switch of this GUID, if end ports have these GUIDs, from LID 1 on
abbrev pub table_by : List Node → List ℕ → (guid : ℕ) → SwitchState → Table
table_by nodes lids guid held = record { line = 0; guid = guid; top = length lids; rows = rows_from nodes held 1 lids }
