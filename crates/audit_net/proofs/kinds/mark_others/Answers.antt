use Rattle.audit_net.proofs.KindLemmas.{all_others, other_row}
use Rattle.audit_net.proofs.kinds.mark_others.Goals as goal

pub loop-row-preserved : goal.loop-row-preserved
loop-row-preserved c =
    other_row c.args.marks.now c.args.of_switch c.args.rows.now c.loop-row.row-index c.loop-row.marks c.mark_other.new.marks _ c.loop-row-test.true c.loop-row.invariant
    c.mark_other.ensures.long c.mark_other.ensures.marked

pub returns-clause-marked : goal.returns-clause-marked
returns-clause-marked c = all_others c.args.marks.now c.args.of_switch c.args.rows.now c.loop-row.row-index c.loop-row.marks c.loop-row-test.false c.loop-row.invariant
