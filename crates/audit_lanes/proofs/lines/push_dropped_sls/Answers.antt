use Rattle.audit_plan.proofs.RangeLemmas.{flat_onto}
use Rattle.audit_lanes.specs.Lines.{dropped_line}
use Rattle.audit_lanes.proofs.lines.push_dropped_sls.Goals as goal

pub loop-sl-preserved : goal.loop-sl-preserved
loop-sl-preserved c =
    flat_onto (dropped_line c.args.net.now c.args.troubles.now c.args.here) c.args.text.now.items c.loop-sl.text.items c.push_dropped.new.text.items c.loop-sl.sl
    c.loop-sl.invariant c.in_ok-push_dropped.ensures
