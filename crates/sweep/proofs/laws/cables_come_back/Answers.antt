use Rattle.sweep.proofs.UndoneLemmas.{cables_come_back}
use Rattle.sweep.proofs.laws.cables_come_back.Goals as goal

pub returns : goal.returns
returns c = cables_come_back
