use Rattle.std.proofs.Common.{◌≡◌, take}
use Rattle.std.specs.List.{flat_map}
use Rattle.audit_keys.specs.Standing.{bases_of_port}
use Rattle.audit_keys.proofs.standing.bases_there.Given as goal

abbrev pub invariant-loop-port : goal.invariant-loop-port
invariant-loop-port l = l.bases.items ≡ flat_map bases_of_port (take l.port-index l.fn.ports)
