use Rattle.table_push.proofs.ChangeLemmas.{arms, arms_none, is_read, no_refusal, sets_over}
use Rattle.table_push.proofs.ports.arm.Goals as goal

pub returns-in-Err-clause-left : goal.returns-in-Err-clause-left
returns-in-Err-clause-left g c x stands guid number good takes =
    absurd (no_refusal x c.args.path.now c.args.asked guid number c.args.change.now c.in-Err.fault good takes
    (λ given gives. c.in-Err.ensures.reported x stands given good gives))

pub returns-then-is_held-clause-left : goal.returns-then-is_held-clause-left
returns-then-is_held-clause-left g c x stands guid number good takes =
    let read = (is_read x c.args.path.now c.args.asked guid number c.in-Ok.bytes c.read-held.result good takes.leads
    (λ given gives. c.in-Ok.ensures.reported x stands given good gives) c.read-held.ensures.fields) in
    arms_none x _ c.args.path.now c.args.asked guid number c.args.change.now c.in-Ok.bytes c.read-held.result c.with_lid_and_enforcement-info.result
    c.first_state-state.result good (c.in-Ok.ensures.left x stands good) takes read
    c.with_lid_and_enforcement-info.ensures.reported c.with_lid_and_enforcement-info.ensures.fits c.first_state-state.ensures c.read-held.ensures.fields
    (c.is_held.ensures.state c.if-is_held.true) (c.is_held.ensures.bytes c.if-is_held.true)

pub returns-clause-left : goal.returns-clause-left
returns-clause-left g c x stands guid number good takes =
    let read = (is_read x c.args.path.now c.args.asked guid number c.in-Ok.bytes c.read-held.result good takes.leads
    (λ given gives. c.in-Ok.ensures.reported x stands given good gives) c.read-held.ensures.fields) in
    arms x _ _ _ c.args.path.now c.args.asked guid number c.args.change.now c.in-Ok.bytes c.read-held.result c.with_lid_and_enforcement-info.result c.first_state-state.result
    good (c.in-Ok.ensures.left x stands good) takes read
    c.with_lid_and_enforcement-info.ensures.reported c.with_lid_and_enforcement-info.ensures.fits c.first_state-state.ensures
    (sets_over _ _ _ c.args.path.now c.args.asked c.in-Ok.bytes c.read-held.result c.with_lid_and_enforcement-info.result c.in_state-wanted.result c.first_state-state.result
    read.bytes_are read.fits c.in_state-wanted.ensures.reported c.in_state-wanted.ensures.fits c.set_info.ensures.left)
