use Rattle.std.proofs.Common.{◌≡◌, ◌++◌, take}
use Rattle.std.specs.List.{flat_map}
use Rattle.audit_keys.specs.Diagnosis.{manager_line}
use Rattle.audit_keys.proofs.diagnosis.push_managers.Given as goal

abbrev pub invariant-loop-port : goal.invariant-loop-port
invariant-loop-port l = l.text.items ≡ l.fn.text.items ++ flat_map (manager_line l.fn.nodes) (take l.port-index l.fn.ports)
