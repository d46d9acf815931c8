use Rattle.std.proofs.Common.{◌≡◌, ◌+◌, ◌∙◌, ap, arith, refl}
use Rattle.cable_looks.specs.Steps.{exceeds}
use Rattle.cable_looks.proofs.StepLemmas.{step_counted}
use Rattle.cable_looks.proofs.steps.step_of.Goals as goal

pub loop-step-preserved : goal.loop-step-preserved
loop-step-preserved c =
    let one = c.one_if.ensures.small in
    let small = c.loop-step.invariant.small in
    record {
      some = omega arith;
      small = omega (arith, one, small);
      counted =
          rw (c.one_if.ensures.value, c.in_ok-exceeds.ensures)
          (step_counted (exceeds c.args.most c.args.load) c.loop-step.step c.loop-step.count c.loop-step.invariant.some c.loop-step.invariant.counted);
    }

pub returns : goal.returns
returns c =
    let last : c.loop-step.step ≡ 5 = omega (arith, c.loop-step.auto.step-end, c.loop-step-test.false) in
    ap (λ count. count + 1) (c.loop-step.invariant.counted ∙ rw last refl)
