use Rattle.partition_file.proofs.SoundLemmas.{sound_partitions}
use Rattle.partition_file.proofs.merge.partitions_in.Goals as goal

pub invariant_of-result : goal.invariant_of-result
invariant_of-result c =
    rw (c.in_ok-partitions.ensures, c.deref.ensures.value, c.in_ok-rules.ensures) (sound_partitions c.args.definitions.now c.requires)
