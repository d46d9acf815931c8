use Rattle.dump_file.specs.Table.{rows_of}
use Rattle.audit_net.proofs.LidIndexLemmas.{HasRowsBelow}
use Rattle.audit_net.proofs.lid_index.with_row.Given as goal

abbrev pub invariant-loop-lid : goal.invariant-loop-lid
invariant-loop-lid l = HasRowsBelow l.some (rows_of l.dump.tables) l.lid
