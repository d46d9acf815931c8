use Rattle.std.proofs.Common.{◌≡◌, ◌++◌, ◌-◌, ◌≤◌}
use Rattle.std.specs.List.{flat_map, range_with_len}
use Rattle.cable_looks.specs.Legend.{legend_row_if}
use Rattle.cable_looks.proofs.legend.push_legend_rows.Given as goal

abbrev pub invariant-loop-step : goal.invariant-loop-step
invariant-loop-step l = record {
  some : 1 ≤ l.step;
  written : l.text.items ≡ l.fn.text.items ++ flat_map (legend_row_if l.fn.most) (range_with_len 1 (l.step - 1));
}
