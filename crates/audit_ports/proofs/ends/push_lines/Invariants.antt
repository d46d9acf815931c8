use Rattle.std.proofs.Common.{◌≡◌, ◌++◌, take}
use Rattle.std.specs.List.{flat_map}
use Rattle.audit_ports.specs.Ends.{line_end}
use Rattle.audit_ports.proofs.ends.push_lines.Given as goal

abbrev pub invariant-loop-line : goal.invariant-loop-line
invariant-loop-line l = l.ends.items ≡ l.fn.ends.items ++ flat_map (line_end l.fn.nodes) (take l.line-index l.fn.lines)
