use Rattle.std.proofs.Common.{◌≡◌, ◌++◌, flat_map, take}
use Rattle.audit_plan.specs.Plan.{line_end}
use Rattle.audit_plan.proofs.discovered.push_line_ends.Given as goal

abbrev pub invariant-loop-line : goal.invariant-loop-line
invariant-loop-line l = l.ends.items ≡ l.fn.ends.items ++ flat_map line_end (take l.line-index l.fn.lines)
