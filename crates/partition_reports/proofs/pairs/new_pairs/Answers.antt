use Rattle.std.proofs.Common.{◌∙◌, ap}
use Rattle.partition_reports.specs.ChangedPairs.{new_pairs}
use Rattle.partition_reports.proofs.PairLawLemmas.{pairs_of_members}
use Rattle.partition_reports.proofs.pairs.new_pairs.Goals as goal

pub returns : goal.returns
returns c = c.in_ok-pairs.ensures ∙ ap new_pairs (c.deref-2.ensures.value ∙ c.in_ok-found.ensures) ∙ pairs_of_members c.args.members.now
