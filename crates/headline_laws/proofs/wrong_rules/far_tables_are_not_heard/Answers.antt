use Rattle.headline_laws.proofs.WrongLemmas.{far_tables_are_not_heard}
use Rattle.headline_laws.proofs.wrong_rules.far_tables_are_not_heard.Goals as goal

pub returns : goal.returns
returns c = far_tables_are_not_heard
