use Rattle.std.proofs.Common.{◌≡◌, take}
use Rattle.std.specs.List.{flat_map}
use Rattle.audit_keys.specs.Differences.{facing_differences}
use Rattle.audit_keys.proofs.differences.facing_differences.Given as goal

abbrev pub invariant-loop-port : goal.invariant-loop-port
invariant-loop-port l = l.list.items ≡ flat_map facing_differences (take l.port-index l.fn.ports)
