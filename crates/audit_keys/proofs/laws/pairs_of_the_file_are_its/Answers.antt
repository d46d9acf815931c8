use Rattle.audit_keys.proofs.PairLemmas.{pairs_of_the_file_are_its}
use Rattle.audit_keys.proofs.laws.pairs_of_the_file_are_its.Goals as goal

pub returns : goal.returns
returns c = pairs_of_the_file_are_its
