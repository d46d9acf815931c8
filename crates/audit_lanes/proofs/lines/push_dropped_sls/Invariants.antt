use Rattle.std.proofs.Common.{◌≡◌, ◌++◌, flat_map}
use Rattle.std.specs.List.{range_with_len}
use Rattle.audit_lanes.specs.Lines.{dropped_line}
use Rattle.audit_lanes.proofs.lines.push_dropped_sls.Given as goal

abbrev pub invariant-loop-sl : goal.invariant-loop-sl
invariant-loop-sl l = l.text.items ≡ l.fn.text.items ++ flat_map (dropped_line l.net l.troubles l.here) (range_with_len 0 l.sl)
