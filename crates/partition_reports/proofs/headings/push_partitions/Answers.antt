use Rattle.partition_reports.proofs.ChangeLemmas.{one_more}
use Rattle.partition_reports.specs.FoundChanges.{partition_text}
use Rattle.partition_reports.proofs.headings.push_partitions.Goals as goal

pub loop-base-preserved : goal.loop-base-preserved
loop-base-preserved c =
    rw (c.in_ok-push_partition.ensures, c.loop-base.invariant)
    (one_more (partition_text c.args.before.now c.args.after.now) c.args.bases.now c.loop-base.base-index 0 c.args.text.now.items c.loop-base-test.true)
