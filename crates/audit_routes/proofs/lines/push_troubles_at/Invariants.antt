use Rattle.std.proofs.Common.{◌≡◌, ◌++◌, flat_map, take}
use Rattle.audit_routes.specs.Lines.{trouble_line}
use Rattle.audit_routes.proofs.lines.push_troubles_at.Given as goal

abbrev pub invariant-loop-aim : goal.invariant-loop-aim
invariant-loop-aim l = l.text.items ≡ l.fn.text.items ++ flat_map (trouble_line l.net l.place) (take l.aim-index l.aims)
