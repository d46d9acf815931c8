use Rattle.audit_net.proofs.WholeLemmas.{ways_are_whole}
use Rattle.audit_net.proofs.laws.ways_are_whole.Goals as goal

pub returns : goal.returns
returns c = ways_are_whole
