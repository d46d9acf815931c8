use Rattle.audit_keys.proofs.LawLemmas.{tables_that_follow_are_clean}
use Rattle.audit_keys.proofs.laws.tables_that_follow_are_clean.Goals as goal

pub returns : goal.returns
returns c = tables_that_follow_are_clean
