use Rattle.std.proofs.Common.{drop}
use Rattle.dump_file.specs.Table.{rows_of}
use Rattle.audit_net.specs.LidIndex.{KnowsReported}
use Rattle.audit_net.proofs.lid_index.reported_by.Given as goal

abbrev pub invariant-loop-index : goal.invariant-loop-index
invariant-loop-index l = KnowsReported l.reported (rows_of l.dump.tables) (drop l.index l.lids)
