use Rattle.audit_keys.proofs.PairLemmas.{pairs_of_tables_are_theirs}
use Rattle.audit_keys.proofs.laws.pairs_of_tables_are_theirs.Goals as goal

pub returns : goal.returns
returns c = pairs_of_tables_are_theirs
