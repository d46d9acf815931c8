use Rattle.audit_loads.proofs.EachPairLemmas.{each_pair_counts}
use Rattle.audit_loads.proofs.laws.each_pair_counts.Goals as goal

pub returns : goal.returns
returns c = each_pair_counts
