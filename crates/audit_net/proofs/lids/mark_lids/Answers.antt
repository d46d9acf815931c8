use Rattle.audit_net.proofs.LidLemmas.{all_marked, marked_row}
use Rattle.audit_net.proofs.lids.mark_lids.Goals as goal

pub loop-row-preserved : goal.loop-row-preserved
loop-row-preserved c =
    marked_row c.args.marks.now c.args.rows.now c.loop-row.row-index c.loop-row.marks c.mark.new.marks _ c.loop-row-test.true c.loop-row.invariant c.mark.ensures.long c.mark.ensures.marked

pub returns-clause-marked : goal.returns-clause-marked
returns-clause-marked c = all_marked c.args.marks.now c.args.rows.now c.loop-row.row-index c.loop-row.marks c.loop-row-test.false c.loop-row.invariant
