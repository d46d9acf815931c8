use Rattle.audit_loads.proofs.WrongLemmas.{first_links_count_too}
use Rattle.audit_loads.proofs.wrong_rules.first_links_count_too.Goals as goal

pub returns : goal.returns
returns c = first_links_count_too
