use Rattle.std.proofs.Common.{◌+◌, sym, ◌∙◌}
use Rattle.topology_import.specs.Ends.{is_above}
use Rattle.topology_import.proofs.LoopLemmas.{all_later, all_over, not_all}
use Rattle.topology_import.proofs.agreement.are_ends.Goals as goal

pub returns-then-not-is_above : goal.returns-then-not-is_above
returns-then-not-is_above c =
    sym (c.loop-before.invariant
    ∙ not_all (λ before. is_above c.args.ends.now c.args.guid (before + 1)) c.loop-before.before c.args.ports c.loop-before-test.true
    (rw c.is_above.ensures at c.if-not-is_above.true))

pub loop-before-preserved : goal.loop-before-preserved
loop-before-preserved c =
    c.loop-before.invariant
    ∙ all_later (λ before. is_above c.args.ends.now c.args.guid (before + 1)) c.loop-before.before c.args.ports c.loop-before-test.true
    (rw c.is_above.ensures at c.if-not-is_above.false)

pub returns : goal.returns
returns c =
    sym (c.loop-before.invariant
    ∙ all_over (λ before. is_above c.args.ends.now c.args.guid (before + 1)) c.loop-before.before c.args.ports c.loop-before-test.false)
