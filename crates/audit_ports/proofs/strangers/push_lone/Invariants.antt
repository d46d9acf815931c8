use Rattle.std.proofs.Common.{◌≡◌, ◌++◌, take}
use Rattle.std.specs.List.{flat_map}
use Rattle.audit_ports.specs.Strangers.{lone_lines}
use Rattle.audit_ports.proofs.strangers.push_lone.Given as goal

abbrev pub invariant-loop-port : goal.invariant-loop-port
invariant-loop-port l = l.text.items ≡ l.fn.text.items ++ flat_map (lone_lines l.fn.nodes) (take l.port-index l.fn.ports)
