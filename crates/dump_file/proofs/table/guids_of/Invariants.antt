use Rattle.std.proofs.Common.{◌≡◌, map, take}
use Rattle.dump_file.proofs.table.guids_of.Given as goal

abbrev pub invariant-loop-table : goal.invariant-loop-table
invariant-loop-table l = l.guids.keys ≡ map (λ table. table.guid) (take l.table-index l.tables)
