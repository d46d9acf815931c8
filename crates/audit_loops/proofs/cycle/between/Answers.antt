use Rattle.std.proofs.Common.{List, Bool, ap₂, length, subst, sym, ◌∙◌}
use Rattle.audit_loops.specs.Marks.{IsHitBelow, KeepsCycles, both_marked}
use Rattle.audit_loops.proofs.CycleLemmas.{keeps_both}
use Rattle.audit_loops.proofs.cycle.between.Goals as goal

pub loop-preserved : goal.loop-preserved
loop-preserved c =
    let graph = c.args.graph.now in
    let marks = c.loop.marks.items in
    let hits = c.in_ok-hits.hits.items in
    let below = subst (λ (m : List Bool). IsHitBelow graph m (length graph) hits) c.deref.ensures.value c.in_ok-hits.ensures.hit in
    let step = c.in_ok-next.ensures ∙ ap₂ both_marked c.deref-in-loop.ensures.value c.deref-in-loop-2.ensures.value in
    subst (KeepsCycles graph) (sym step) (keeps_both graph marks hits c.loop.invariant c.in_ok-hits.ensures.long below)
