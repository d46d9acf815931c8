use Rattle.std.proofs.Common.{◌≡◌, ◌++◌, flat_map, take}
use Rattle.audit_routes.specs.Lines.{no_lid_lines}
use Rattle.audit_routes.proofs.lines.push_no_lids.Given as goal

abbrev pub invariant-loop-cable : goal.invariant-loop-cable
invariant-loop-cable l = l.text.items ≡ l.fn.text.items ++ flat_map (no_lid_lines l.net l.aims) (take l.cable-index l.net.plan.cables)
