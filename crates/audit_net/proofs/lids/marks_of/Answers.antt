use Rattle.audit_net.proofs.LidLemmas.{tables_marked}
use Rattle.audit_net.proofs.lids.marks_of.Goals as goal

pub returns : goal.returns
returns c = tables_marked c.args.count c.args.tables.now c.loop-table.table-index c.loop-table.marks.items c.loop-table-test.false c.loop-table.invariant
