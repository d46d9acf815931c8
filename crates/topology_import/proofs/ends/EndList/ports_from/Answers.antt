use Rattle.std.proofs.Common.{not, sym, ap, ◌∙◌}
use Rattle.topology_import.specs.Ends.{is_above}
use Rattle.topology_import.proofs.LoopLemmas.{found_here, found_later}
use Rattle.topology_import.proofs.ends.EndList.ports_from.Goals as goal

pub returns-then-not-is_above : goal.returns-then-not-is_above
returns-then-not-is_above c =
    sym (c.loop-steps.invariant
    ∙ found_here (λ steps. not (is_above c.args.self.now c.args.guid steps)) c.loop-steps.steps 9 9 c.loop-steps-test.true
    (ap not (rw c.is_above.ensures at c.if-not-is_above.true)))

pub loop-steps-preserved : goal.loop-steps-preserved
loop-steps-preserved c =
    c.loop-steps.invariant
    ∙ found_later (λ steps. not (is_above c.args.self.now c.args.guid steps)) c.loop-steps.steps 9 9 c.loop-steps-test.true
    (ap not (rw c.is_above.ensures at c.if-not-is_above.false))
