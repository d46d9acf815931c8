use Rattle.std.proofs.Common.{◌≡◌, ◌++◌, flat_map, take}
use Rattle.audit_plan.specs.Plan.{cable_at}
use Rattle.audit_plan.proofs.discovered.push_cables.Given as goal

abbrev pub invariant-loop-line : goal.invariant-loop-line
invariant-loop-line l = l.cables.items ≡ l.fn.cables.items ++ flat_map (cable_at l.fn.found) (take l.line-index l.fn.lines)
