use Rattle.audit_keys.proofs.WrongLemmas.{gaps_do_not_end_the_table}
use Rattle.audit_keys.proofs.wrong_rules.gaps_do_not_end_the_table.Goals as goal

pub returns : goal.returns
returns c = gaps_do_not_end_the_table
