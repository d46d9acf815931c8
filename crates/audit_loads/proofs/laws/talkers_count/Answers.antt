use Rattle.audit_loads.proofs.TalkLemmas.{talkers_count}
use Rattle.audit_loads.proofs.laws.talkers_count.Goals as goal

pub returns : goal.returns
returns c = talkers_count
