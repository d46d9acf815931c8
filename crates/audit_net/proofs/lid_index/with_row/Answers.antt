use Rattle.std.proofs.Common.{arith}
use Rattle.dump_file.specs.Table.{rows_of}
use Rattle.audit_net.proofs.LidIndexLemmas.{all_rows, rows_more}
use Rattle.audit_net.proofs.lid_index.with_row.Goals as goal

pub loop-lid-preserved : goal.loop-lid-preserved
loop-lid-preserved c = rows_more c.loop-lid.some c.note_row.new.with_row (rows_of c.args.dump.now.tables) c.loop-lid.lid c.loop-lid.invariant c.in_ok-note_row.ensures

pub returns : goal.returns
returns c =
    all_rows c.loop-lid.some (rows_of c.args.dump.now.tables) c.loop-lid.lid (omega (arith, c.loop-lid-test.false, c.loop-lid.auto.lid-end)) c.loop-lid.invariant
