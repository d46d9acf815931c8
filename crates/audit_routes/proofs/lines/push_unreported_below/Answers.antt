use Rattle.std.proofs.Common.{◌*◌}
use Rattle.audit_routes.specs.Lines.{unreported_line}
use Rattle.audit_plan.proofs.RangeLemmas.{flat_onto}
use Rattle.audit_routes.proofs.lines.push_unreported_below.Goals as goal

pub loop-number-preserved : goal.loop-number-preserved
loop-number-preserved c =
    flat_onto (λ n. unreported_line c.args.net.now c.args.aims.now (n * 64)) c.args.text.now.items c.loop-number.text.items c.push_unreported.new.text.items c.loop-number.number
    c.loop-number.invariant c.in_ok-push_unreported.ensures
