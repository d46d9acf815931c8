use Rattle.subnet_core.proofs.SameLemmas.{events_decide}
use Rattle.subnet_core.proofs.comparing.are_same_events.Goals as goal

pub returns : goal.returns
returns c = events_decide c.args.events.now c.args.others.now c.eq.result c.eq.ensures
