use Rattle.std.proofs.Common.{◌≡◌, ◌++◌, flat_map, take}
use Rattle.audit_plan.specs.Plan.{line_lid}
use Rattle.audit_plan.proofs.discovered.push_line_lids.Given as goal

abbrev pub invariant-loop-line : goal.invariant-loop-line
invariant-loop-line l = l.lids.items ≡ l.fn.lids.items ++ flat_map line_lid (take l.line-index l.fn.lines)
