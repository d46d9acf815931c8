use Rattle.std.proofs.Common.{◌≡◌, ◌++◌, take}
use Rattle.std.specs.List.{flat_map}
use Rattle.audit_ports.specs.Gathered.{lack_of}
use Rattle.audit_ports.proofs.trunks.push_each_lack.Given as goal

abbrev pub invariant-loop-base : goal.invariant-loop-base
invariant-loop-base l = l.lacks.items ≡ l.fn.lacks.items ++ flat_map (lack_of l.fn.port l.fn.keys) (take l.base-index l.fn.bases)
