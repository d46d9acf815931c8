use Rattle.std.proofs.Common.{◌≡◌, take}
use Rattle.std.specs.List.{flat_map}
use Rattle.audit_ports.specs.Strangers.{guids_of}
use Rattle.audit_ports.proofs.strangers.all_guids.Given as goal

abbrev pub invariant-loop-partition : goal.invariant-loop-partition
invariant-loop-partition l = l.guids.items ≡ flat_map guids_of (take l.partition-index l.fn.partitions)
