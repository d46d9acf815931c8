use Rattle.std.proofs.Common.{◌≡◌, ◌++◌, take}
use Rattle.std.specs.List.{flat_map}
use Rattle.audit_ports.specs.Strangers.{port_word_on}
use Rattle.audit_ports.proofs.strangers.push_ports_on.Given as goal

abbrev pub invariant-loop-port : goal.invariant-loop-port
invariant-loop-port l = l.text.items ≡ l.fn.text.items ++ flat_map (port_word_on l.fn.nodes l.fn.guid) (take l.port-index l.fn.ports)
