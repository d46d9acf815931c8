use Rattle.updn_routes.proofs.CycleLemmas.{no_cycle}
use Rattle.updn_routes.proofs.laws.no_cycle_waits.Goals as goal

pub returns : goal.returns
returns c = λ rows before home pick next cabling order chosen a others. no_cycle rows before home pick next cabling order chosen a others
