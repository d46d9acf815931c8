use Rattle.audit_loads.proofs.WrongLemmas.{last_links_count_too}
use Rattle.audit_loads.proofs.wrong_rules.last_links_count_too.Goals as goal

pub returns : goal.returns
returns c = last_links_count_too
