use Rattle.std.proofs.Common.{◌≡◌, map, take}
use Rattle.partition_file.specs.Members.{keys_in}
use Rattle.partition_file.proofs.membership.all_keys.Given as goal

abbrev pub invariant-loop-port : goal.invariant-loop-port
invariant-loop-port l = l.keys.items ≡ map (keys_in l.partitions) (take l.port-index l.ports)
