use Rattle.table_push.proofs.ChangeLemmas.{activates_in, arms_in}
use Rattle.table_push.proofs.ports.round_at.Goals as goal

pub returns-in-Arming-clause-left : goal.returns-in-Arming-clause-left
returns-in-Arming-clause-left g c x stands guid number good takes =
    arms_in _ _ x guid number c.args.change.now c.args.round c.in-Arming.is (c.arm.ensures.left x stands guid number good takes)

pub returns-in-Ok-clause-left : goal.returns-in-Ok-clause-left
returns-in-Ok-clause-left g c x stands guid number good takes =
    activates_in _ _ x guid number c.args.change.now c.args.round c.in-Activating.is (c.in-Ok.ensures.left x stands guid number good takes)

pub returns-in-Err-clause-left : goal.returns-in-Err-clause-left
returns-in-Err-clause-left g c x stands guid number good takes =
    activates_in _ _ x guid number c.args.change.now c.args.round c.in-Activating.is (c.in-Err.ensures.left x stands guid number good takes)
