use Rattle.std.proofs.Common.{refl}
use Rattle.partition_reports.proofs.SumLemmas.{no_more_full, pairs_are_counted}
use Rattle.partition_reports.proofs.sums.sum_of.Goals as goal

pub pair_count-requires-clause-full : goal.pair_count-requires-clause-full
pair_count-requires-clause-full c = rw (c.member_count-members.ensures, c.full_count-full.ensures) (no_more_full c.args.base c.args.ports.now)

pub returns : goal.returns
returns c = rw (c.pair_count.ensures, c.member_count-members.ensures, c.full_count-full.ensures, pairs_are_counted c.args.base c.args.ports.now c.requires.base) refl
