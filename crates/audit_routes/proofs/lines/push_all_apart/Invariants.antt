use Rattle.std.proofs.Common.{◌≡◌, ◌++◌, flat_map, take}
use Rattle.audit_routes.specs.Lines.{apart_line}
use Rattle.audit_routes.proofs.lines.push_all_apart.Given as goal

abbrev pub invariant-loop-cable : goal.invariant-loop-cable
invariant-loop-cable l = l.text.items ≡ l.fn.text.items ++ flat_map (apart_line l.net) (take l.cable-index l.net.plan.apart)
