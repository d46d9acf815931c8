use Rattle.std.proofs.Common.{◌≡◌, ◌++◌, flat_map, take}
use Rattle.audit_routes.specs.Deciding.{unknown_line}
use Rattle.audit_routes.proofs.deciding.push_unknown.Given as goal

abbrev pub invariant-loop-aim : goal.invariant-loop-aim
invariant-loop-aim l = l.text.items ≡ l.fn.text.items ++ flat_map (unknown_line l.net) (take l.aim-index l.aims)
