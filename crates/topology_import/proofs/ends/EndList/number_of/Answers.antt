use Rattle.std.proofs.Common.{not, sym, ap, ◌∙◌}
use Rattle.topology_import.specs.Ends.{is_below}
use Rattle.topology_import.proofs.LoopLemmas.{found_here, found_later}
use Rattle.topology_import.proofs.ends.EndList.number_of.Goals as goal

pub returns-then-not-is_below : goal.returns-then-not-is_below
returns-then-not-is_below c =
    sym (c.loop-steps.invariant
    ∙ found_here (λ steps. not (is_below c.args.self.now c.args.guid steps)) c.loop-steps.steps 9 9 c.loop-steps-test.true
    (ap not (rw c.is_below.ensures at c.if-not-is_below.true)))

pub loop-steps-preserved : goal.loop-steps-preserved
loop-steps-preserved c =
    c.loop-steps.invariant
    ∙ found_later (λ steps. not (is_below c.args.self.now c.args.guid steps)) c.loop-steps.steps 9 9 c.loop-steps-test.true
    (ap not (rw c.is_below.ensures at c.if-not-is_below.false))
