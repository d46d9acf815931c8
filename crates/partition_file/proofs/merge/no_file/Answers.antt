use Rattle.std.proofs.Common.{refl}
use Rattle.partition_file.proofs.SoundLemmas.{sound_alone}
use Rattle.partition_file.proofs.merge.no_file.Goals as goal

pub invariant_of-result : goal.invariant_of-result
invariant_of-result c = rw (c.in_ok-push-3.ensures.items, c.new-partitions.ensures.items) (record { bases = sound_alone; groups = refl })
