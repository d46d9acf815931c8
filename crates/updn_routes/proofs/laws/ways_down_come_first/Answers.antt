use Rattle.updn_routes.proofs.RouteLemmas.{down_first}
use Rattle.updn_routes.proofs.laws.ways_down_come_first.Goals as goal

pub returns : goal.returns
returns c = λ rows before pick next d cabling order chosen s steps down less route walk falls. down_first rows before pick next d cabling chosen s steps down less route walk falls
