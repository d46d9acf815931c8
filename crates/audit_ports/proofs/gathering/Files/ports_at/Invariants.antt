use Rattle.std.proofs.Common.{◌≡◌, take}
use Rattle.std.specs.List.{flat_map}
use Rattle.audit_ports.specs.Gathered.{gathered_end}
use Rattle.audit_ports.proofs.gathering.Files.ports_at.Given as goal

abbrev pub invariant-loop-end : goal.invariant-loop-end
invariant-loop-end l = l.ports.items ≡ flat_map (gathered_end l.fn.self) (take l.end-index l.fn.ends)
