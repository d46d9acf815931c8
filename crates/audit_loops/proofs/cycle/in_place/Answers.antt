use Rattle.std.proofs.Common.{subst, sym, ◌∙◌, ap}
use Rattle.audit_loops.specs.Marks.{KeepsCycles, peeled}
use Rattle.audit_loops.proofs.CycleLemmas.{keeps_all, keeps_peeled}
use Rattle.audit_loops.proofs.cycle.in_place.Goals as goal

pub loop-init : goal.loop-init
loop-init c = rw c.in_ok-marks.ensures (keeps_all c.args.graph.now)

pub loop-preserved : goal.loop-preserved
loop-preserved c =
    let step = c.in_ok-next.ensures ∙ ap (peeled c.args.graph.now) c.deref.ensures.value in
    subst (KeepsCycles c.args.graph.now) (sym step) (keeps_peeled c.args.graph.now c.loop.marks.items c.loop.invariant)
