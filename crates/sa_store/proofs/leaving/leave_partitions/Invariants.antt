use Rattle.std.proofs.Common.{◌≡◌, ◌≤◌, ◌++◌, drop, length, map, take}
use Rattle.sa_model.specs.Leaving.{left_in}
use Rattle.sa_store.specs.Kept.{ports_of}
use Rattle.sa_store.specs.Receiving.{numbers_changed}
use Rattle.sa_store.proofs.leaving.leave_partitions.Given as goal

abbrev pub invariant-loop-partition : goal.invariant-loop-partition
invariant-loop-partition l = record {
  next : l.partitions
      ≡ map (left_in (ports_of l.kept) l.leave) (take l.partition-index l.initial.partitions) ++ drop l.partition-index l.initial.partitions;
  numbers : l.changed.items
      ≡ numbers_changed (ports_of l.kept) (take l.partition-index l.initial.partitions)
      (map (left_in (ports_of l.kept) l.leave) (take l.partition-index l.initial.partitions));
  few : length l.changed.items ≤ l.partition-index;
}
