use Rattle.std.proofs.Common.{◌≡◌, ◌++◌, map}
use Rattle.std.specs.List.{range_with_len}
use Rattle.audit_lanes.specs.Lines.{crossing_before}
use Rattle.audit_lanes.proofs.lines.push_crossings_by.Given as goal

abbrev pub invariant-loop-before : goal.invariant-loop-before
invariant-loop-before l = l.crossings.items ≡ l.fn.crossings.items ++ map (crossing_before l.place l.input) (range_with_len 0 l.before)
