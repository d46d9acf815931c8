use Rattle.std.proofs.Common.{sym}
use Rattle.audit_net.specs.Lookup.{column_at}
use Rattle.audit_plan.proofs.RangeLemmas.{map_range_more}
use Rattle.audit_net.proofs.inputs.Inputs.all_entries.Goals as goal

pub loop-place-preserved : goal.loop-place-preserved
loop-place-preserved c =
    rw (c.in_ok-push.ensures.items, c.of.ensures, c.in_ok-entries.ensures, c.loop-place.invariant) (sym (map_range_more (column_at c.args.self.now) c.loop-place.place))
