use Rattle.std.proofs.Common.{refl}
use Rattle.attr_tables.specs.declared.port_state.PortState.TheVariants.{Active}
use Rattle.table_push.proofs.ChangeLemmas.{activates, activates_none, asks, becomes, is_read, no_refusal, set_first, set_none, set_once, set_twice, sets_over, takes_active}
use Rattle.table_push.proofs.LeadLemmas.{no_fault}
use Rattle.table_push.proofs.ports.activate.Goals as goal

pub returns-then-not-change-clause-left : goal.returns-then-not-change-clause-left
returns-then-not-change-clause-left g c x stands guid number good takes = activates_none _ x guid number c.args.change.now c.if-not-change.true stands good

pub returns-in-Err-clause-left : goal.returns-in-Err-clause-left
returns-in-Err-clause-left g c x stands guid number good takes =
    absurd (no_refusal x c.args.path.now c.args.asked guid number c.args.change.now c.in-Err.fault good takes
    (λ given gives. c.in-Err.ensures.reported x stands given good gives))

pub returns-in-NoChange-clause-left : goal.returns-in-NoChange-clause-left
returns-in-NoChange-clause-left g c x stands guid number good takes =
    let turns = takes_active x c.args.path.now c.args.asked guid number c.args.change.now c.if-not-change.false takes in
    let read = (is_read x c.args.path.now c.args.asked guid number c.in-Ok.bytes c.read-held.result good turns.leads
    (λ given gives. c.in-Ok.ensures.reported x stands given good gives) c.read-held.ensures.fields) in
    let does = asks x c.args.path.now c.args.asked guid number becomes c.in-Ok.bytes c.read-held.result c.read-held.result c.state_asked-state.result turns
    read refl c.read-held.ensures.fits c.state_asked-state.ensures in
    activates _ _ x guid number c.args.change.now c.if-not-change.false
    (set_none x _ c.args.path.now c.args.asked guid number c.read-held.result c.read-held.result c.state_asked-state.result good (c.in-Ok.ensures.left x stands good) turns does c.in-NoChange.is)

pub returns-in-Err-set_whole_info-clause-left : goal.returns-in-Err-set_whole_info-clause-left
returns-in-Err-set_whole_info-clause-left g c x stands guid number good takes =
    let turns = takes_active x c.args.path.now c.args.asked guid number c.args.change.now c.if-not-change.false takes in
    let read = (is_read x c.args.path.now c.args.asked guid number c.in-Ok.bytes c.read-held.result good turns.leads
    (λ given gives. c.in-Ok.ensures.reported x stands given good gives) c.read-held.ensures.fields) in
    let does = asks x c.args.path.now c.args.asked guid number becomes c.in-Ok.bytes c.read-held.result c.read-held.result c.state_asked-state.result turns
    read refl c.read-held.ensures.fits c.state_asked-state.ensures in
    absurd (no_fault c.in-Err-set_whole_info.fault _ x _ (set_first x _ _ _ c.args.path.now c.args.asked guid number becomes c.read-held.result c.read-held.result
    c.state_asked-state.result good (c.in-Ok.ensures.left x stands good) turns does
    (sets_over _ _ _ c.args.path.now c.args.asked c.in-Ok.bytes c.read-held.result c.read-held.result c.in_state-first.result c.state_asked-state.result
    read.bytes_are read.fits c.in_state-first.ensures.reported c.in_state-first.ensures.fits c.in-Err-set_whole_info.ensures.left)))

pub returns-in-Armed-clause-left : goal.returns-in-Armed-clause-left
returns-in-Armed-clause-left g c x stands guid number good takes =
    let turns = takes_active x c.args.path.now c.args.asked guid number c.args.change.now c.if-not-change.false takes in
    let read = (is_read x c.args.path.now c.args.asked guid number c.in-Ok.bytes c.read-held.result good turns.leads
    (λ given gives. c.in-Ok.ensures.reported x stands given good gives) c.read-held.ensures.fields) in
    let does = asks x c.args.path.now c.args.asked guid number becomes c.in-Ok.bytes c.read-held.result c.read-held.result c.state_asked-state.result turns
    read refl c.read-held.ensures.fits c.state_asked-state.ensures in
    activates _ _ x guid number c.args.change.now c.if-not-change.false
    (set_twice x _ _ _ _ _ c.args.path.now c.args.asked guid number becomes c.read-held.result c.read-held.result
    c.state_asked-state.result good (c.in-Ok.ensures.left x stands good) turns does c.in-Armed.is
    (sets_over _ _ _ c.args.path.now c.args.asked c.in-Ok.bytes c.read-held.result c.read-held.result c.in_state-first.result c.state_asked-state.result
    read.bytes_are read.fits c.in_state-first.ensures.reported c.in_state-first.ensures.fits c.in-Ok-set_whole_info.ensures.left)
    (sets_over _ _ _ c.args.path.now c.args.asked c.in-Ok.bytes c.read-held.result c.read-held.result c.in_state-last.result Active
    read.bytes_are read.fits c.in_state-last.ensures.reported c.in_state-last.ensures.fits c.set_whole_info-in-Armed.ensures.left))

pub returns-in_default-state-clause-left : goal.returns-in_default-state-clause-left
returns-in_default-state-clause-left g c x stands guid number good takes =
    let turns = takes_active x c.args.path.now c.args.asked guid number c.args.change.now c.if-not-change.false takes in
    let read = (is_read x c.args.path.now c.args.asked guid number c.in-Ok.bytes c.read-held.result good turns.leads
    (λ given gives. c.in-Ok.ensures.reported x stands given good gives) c.read-held.ensures.fields) in
    let does = asks x c.args.path.now c.args.asked guid number becomes c.in-Ok.bytes c.read-held.result c.read-held.result c.state_asked-state.result turns
    read refl c.read-held.ensures.fits c.state_asked-state.ensures in
    activates _ _ x guid number c.args.change.now c.if-not-change.false
    (set_once x _ _ _ c.args.path.now c.args.asked guid number becomes c.read-held.result c.read-held.result
    c.state_asked-state.result good (c.in-Ok.ensures.left x stands good) turns does refl c.in_default-state.not-Armed
    (sets_over _ _ _ c.args.path.now c.args.asked c.in-Ok.bytes c.read-held.result c.read-held.result c.in_state-first.result c.state_asked-state.result
    read.bytes_are read.fits c.in_state-first.ensures.reported c.in_state-first.ensures.fits c.in-Ok-set_whole_info.ensures.left))
