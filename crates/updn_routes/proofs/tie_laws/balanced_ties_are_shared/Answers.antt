use Rattle.std.proofs.Common.{mod-lt}
use Rattle.updn_routes.proofs.TurnLemmas.{each_taken, next_place, next_rank, ties_shared}
use Rattle.updn_routes.proofs.tie_laws.balanced_ties_are_shared.Goals as goal

pub returns : goal.returns
returns c = record { names = λ number rank place ties some. mod-lt _ some; each = each_taken; shared = ties_shared; place = next_place; rank = next_rank }
