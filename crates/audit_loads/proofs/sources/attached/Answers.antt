use Rattle.std.proofs.Common.{[]}
use Rattle.audit_loads.specs.Sources.{host_behind}
use Rattle.audit_plan.proofs.RangeLemmas.{flat_onto}
use Rattle.audit_loads.proofs.sources.attached.Goals as goal

pub loop-before-preserved : goal.loop-before-preserved
loop-before-preserved c =
    flat_onto (host_behind c.args.net.now c.args.place) [] c.loop-before.ports.items c.push_host_behind.new.ports.items c.loop-before.before c.loop-before.invariant
    c.in_ok-push_host_behind.ensures
