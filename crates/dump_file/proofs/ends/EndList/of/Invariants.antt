use Rattle.std.proofs.Common.{take}
use Rattle.dump_file.specs.Index.{KnowsEnds}
use Rattle.dump_file.specs.Table.{rows_of}
use Rattle.dump_file.proofs.ends.EndList.of.Given as goal

abbrev pub invariant-loop-table : goal.invariant-loop-table
invariant-loop-table l = KnowsEnds l.ends (rows_of (take l.table-index l.tables))
