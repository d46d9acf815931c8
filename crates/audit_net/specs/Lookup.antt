-- How entries and turns are looked up: by the place of a node, and by LID or by port. No definition of the subject stands
-- on these.
use Rattle.std.specs.Prelude.{ℕ, ◌+◌, ◌-◌, ◌==◌, List, [], length, map, get_or, slice_get, if◌then◌else◌, Option, None}
use Rattle.std.specs.List.{range_with_len}
use Rattle.std.specs.Option.{option_map_or}
use Rattle.dump_file.specs.declared.table.Table.{Table}
use Rattle.dump_file.specs.Table.{place_of}
use Rattle.topo_file.specs.Node.{ports_at}
use Rattle.topo_file.specs.declared.node.Node.{Node}
use Rattle.audit_net.specs.declared.entry.Entry.{Entry}
use Rattle.audit_net.specs.declared.entry.Entry.TheVariants.{Out}
use Rattle.audit_net.specs.declared.following.Turn.{Turn}
use Rattle.audit_net.specs.Following.{turn_by}
use Rattle.audit_net.specs.Net.{NetState, entry_in, table_at}

-- ---- of each node the place of its table, if it has one
abbrev pub table_places : List Table → List Node → List (Option ℕ)
table_places tables nodes = map (λ node. place_of node.guid tables) nodes

-- ---- entries by LID, below the top of the table
abbrev pub column : (ports : ℕ) → Table → List Entry
column ports table = map (λ lid. entry_in ports lid table) (range_with_len 0 table.top)

abbrev pub column_at : NetState → ℕ → List Entry
column_at net place = option_map_or (column (ports_at net.plan.nodes place)) (table_at net place) []

abbrev pub all_entries : NetState → List (List Entry)
all_entries net = map (column_at net) (range_with_len 0 (length net.plan.nodes))

abbrev pub entries_of : List (List Entry) → ℕ → List Entry
entries_of all place = get_or all place []

-- ---- what becomes of packets that leave a node, by port, from port 1 on
abbrev pub turns_at : NetState → ℕ → List Turn
turns_at net place = map (λ number. turn_by net place (Out (number + 1))) (range_with_len 0 (ports_at net.plan.nodes place))

abbrev pub all_turns : NetState → List (List Turn)
all_turns net = map (turns_at net) (range_with_len 0 (length net.plan.nodes))

abbrev pub turns_of : List (List Turn) → ℕ → List Turn
turns_of all place = get_or all place []

abbrev pub turn_known : List (List Turn) → ℕ → ℕ → Option Turn
turn_known all place number = if number == 0 then None else slice_get (turns_of all place) (number - 1)
