use Rattle.audit_routes.proofs.WrongLineLemmas.{missing_tables_do_not_count}
use Rattle.audit_routes.proofs.wrong_rules.missing_tables_do_not_count.Goals as goal

pub returns : goal.returns
returns c = missing_tables_do_not_count
