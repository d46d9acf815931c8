use Rattle.std.proofs.Common.{◌≡◌, ◌++◌, take}
use Rattle.std.specs.List.{flat_map}
use Rattle.audit_ports.specs.Strangers.{stranger_lines}
use Rattle.audit_ports.proofs.strangers.push_listed.Given as goal

abbrev pub invariant-loop-guid : goal.invariant-loop-guid
invariant-loop-guid l = l.text.items ≡ l.fn.text.items ++ flat_map (stranger_lines l.fn.nodes l.fn.ports) (take l.guid-index l.fn.guids)
