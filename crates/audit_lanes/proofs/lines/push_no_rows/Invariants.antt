use Rattle.std.proofs.Common.{◌≡◌, ◌++◌, flat_map, take}
use Rattle.audit_lanes.specs.Lines.{no_row_line}
use Rattle.audit_lanes.proofs.lines.push_no_rows.Given as goal

abbrev pub invariant-loop-here : goal.invariant-loop-here
invariant-loop-here l = l.text.items ≡ l.fn.text.items ++ flat_map (no_row_line l.net l.troubles) (take l.here-index l.crossings)
