use Rattle.audit_plan.proofs.RangeLemmas.{flat_onto}
use Rattle.audit_lanes.specs.Lines.{crossings_by}
use Rattle.audit_lanes.proofs.lines.push_crossings_at.Goals as goal

pub loop-input-preserved : goal.loop-input-preserved
loop-input-preserved c =
    flat_onto (crossings_by c.args.net.now c.args.place) c.args.crossings.now.items c.loop-input.crossings.items c.push_crossings_by.new.crossings.items c.loop-input.input
    c.loop-input.invariant c.in_ok-push_crossings_by.ensures
