use Rattle.std.proofs.Common.{◌≡◌, take}
use Rattle.std.specs.List.{flat_map}
use Rattle.audit_ports.specs.Gathered.{line_lacks}
use Rattle.audit_ports.proofs.gathering.Files.lacks_with.Given as goal

abbrev pub invariant-loop-line : goal.invariant-loop-line
invariant-loop-line l = l.lacks.items ≡ flat_map (line_lacks l.fn.self l.fn.bases) (take l.line-index l.fn.self.discovery.ports)
