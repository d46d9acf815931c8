use Rattle.sa_store.proofs.StartLemmas.{heading_based}
use Rattle.sa_store.proofs.store.partitions_at_start.Goals as goal

pub of_file-requires-clause-base : goal.of_file-requires-clause-base
of_file-requires-clause-base c =
    heading_based c.args.headings.now c.loop-number.number c.index-headings-number.result c.requires c.loop-number-test.true c.index-headings-number.is
