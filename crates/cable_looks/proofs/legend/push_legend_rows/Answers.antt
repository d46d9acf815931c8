use Rattle.std.proofs.Common.{◌≡◌, ◌∙◌, arith, refl}
use Rattle.cable_looks.specs.Legend.{legend_row_if, legend_rows}
use Rattle.cable_looks.proofs.StepLemmas.{rows_more}
use Rattle.cable_looks.proofs.legend.push_legend_rows.Goals as goal

pub loop-step-preserved : goal.loop-step-preserved
loop-step-preserved c = record {
  some = omega arith;
  written =
      rows_more (legend_row_if c.args.most) c.args.text.now.items c.loop-step.text.items c.push_legend_row.new.text.items c.loop-step.step
      c.loop-step.invariant.some c.loop-step.invariant.written c.in_ok-push_legend_row.ensures;
}

pub returns : goal.returns
unfolding legend_rows
returns c =
    let last : c.loop-step.step ≡ 6 = omega (arith, c.loop-step.auto.step-end, c.loop-step-test.false) in
    c.loop-step.invariant.written ∙ rw last refl
