use Rattle.std.proofs.Common.{◌≡◌, take}
use Rattle.std.specs.List.{flat_map}
use Rattle.audit_ports.specs.Gathered.{used_base}
use Rattle.audit_ports.proofs.gathering.Files.used_bases.Given as goal

abbrev pub invariant-loop-partition : goal.invariant-loop-partition
invariant-loop-partition l = l.bases.items ≡ flat_map (used_base l.fn.self l.fn.ends) (take l.partition-index l.fn.self.partitions)
