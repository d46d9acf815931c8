use Rattle.std.proofs.Common.{sym}
use Rattle.audit_net.specs.Net.{entry_in}
use Rattle.audit_plan.proofs.RangeLemmas.{map_range_more}
use Rattle.audit_net.proofs.inputs.column.Goals as goal

pub loop-lid-preserved : goal.loop-lid-preserved
loop-lid-preserved c =
    rw (c.in_ok-push.ensures.items, c.entry_in.ensures, c.loop-lid.invariant) (sym (map_range_more (λ lid. entry_in c.args.ports lid c.args.table.now) c.loop-lid.lid))
