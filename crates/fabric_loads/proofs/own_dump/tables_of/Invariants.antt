use Rattle.std.proofs.Common.{◌≡◌, flat_map}
use Rattle.std.specs.List.{range_with_len}
use Rattle.fabric_loads.specs.OwnDump.{own_table_at}
use Rattle.fabric_loads.proofs.own_dump.tables_of.Given as goal

abbrev pub invariant-loop-place : goal.invariant-loop-place
invariant-loop-place l = l.tables.items ≡ flat_map (own_table_at l.owners.nodes.now l.owners.guids.now l.held) (range_with_len 0 l.place)
