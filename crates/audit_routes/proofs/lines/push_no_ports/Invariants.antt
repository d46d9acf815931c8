use Rattle.std.proofs.Common.{◌≡◌, ◌++◌, flat_map, take}
use Rattle.audit_routes.specs.Lines.{no_port_line}
use Rattle.audit_routes.proofs.lines.push_no_ports.Given as goal

abbrev pub invariant-loop-aim : goal.invariant-loop-aim
invariant-loop-aim l = l.text.items ≡ l.fn.text.items ++ flat_map no_port_line (take l.aim-index l.aims)
