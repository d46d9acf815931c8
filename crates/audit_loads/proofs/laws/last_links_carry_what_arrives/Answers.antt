use Rattle.audit_loads.proofs.ArrivalLemmas.{last_links_carry_what_arrives}
use Rattle.audit_loads.proofs.laws.last_links_carry_what_arrives.Goals as goal

pub returns : goal.returns
returns c = last_links_carry_what_arrives
