use Rattle.audit_keys.proofs.RankLemmas.{the_widest_come_first}
use Rattle.audit_keys.proofs.laws.the_widest_come_first.Goals as goal

pub returns : goal.returns
returns c = the_widest_come_first
