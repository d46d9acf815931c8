use Rattle.std.proofs.Common.{◌≡◌, take}
use Rattle.std.specs.List.{flat_map}
use Rattle.audit_keys.specs.Differences.{port_differences}
use Rattle.audit_keys.proofs.differences.differences.Given as goal

abbrev pub invariant-loop-port : goal.invariant-loop-port
invariant-loop-port l = l.list.items ≡ flat_map port_differences (take l.port-index l.fn.ports)
