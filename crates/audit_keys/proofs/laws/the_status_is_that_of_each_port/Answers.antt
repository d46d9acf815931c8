use Rattle.audit_keys.proofs.LawLemmas.{the_status_is_that_of_each_port}
use Rattle.audit_keys.proofs.laws.the_status_is_that_of_each_port.Goals as goal

pub returns : goal.returns
returns c = the_status_is_that_of_each_port
