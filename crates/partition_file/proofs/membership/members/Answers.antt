use Rattle.partition_file.proofs.MemberLemmas.{sound_headings}
use Rattle.partition_file.proofs.membership.members.Goals as goal

pub invariant_of-result : goal.invariant_of-result
invariant_of-result c = rw c.in_ok-headings.ensures (sound_headings c.as_slice-partitions.result.now c.as_slice-partitions.ensures.sound)
