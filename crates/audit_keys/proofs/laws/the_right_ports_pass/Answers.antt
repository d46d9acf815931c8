use Rattle.audit_keys.proofs.LawLemmas.{the_right_ports_pass}
use Rattle.audit_keys.proofs.laws.the_right_ports_pass.Goals as goal

pub returns : goal.returns
returns c = the_right_ports_pass
