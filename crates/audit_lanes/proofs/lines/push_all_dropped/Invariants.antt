use Rattle.std.proofs.Common.{◌≡◌, ◌++◌, flat_map, take}
use Rattle.audit_lanes.specs.Lines.{dropped_lines}
use Rattle.audit_lanes.proofs.lines.push_all_dropped.Given as goal

abbrev pub invariant-loop-here : goal.invariant-loop-here
invariant-loop-here l = l.text.items ≡ l.fn.text.items ++ flat_map (dropped_lines l.net l.troubles) (take l.here-index l.crossings)
