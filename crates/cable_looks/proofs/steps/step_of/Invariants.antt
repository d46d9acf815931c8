use Rattle.std.proofs.Common.{◌≡◌, ◌-◌, ◌<◌, ◌≤◌, count_by}
use Rattle.std.specs.List.{range_with_len}
use Rattle.cable_looks.specs.Steps.{exceeds}
use Rattle.cable_looks.proofs.steps.step_of.Given as goal

abbrev pub invariant-loop-step : goal.invariant-loop-step
invariant-loop-step l = record {
  some : 1 ≤ l.step;
  small : l.count < l.step;
  counted : l.count ≡ count_by (exceeds l.fn.most l.fn.load) (range_with_len 1 (l.step - 1));
}
