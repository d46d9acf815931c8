use Rattle.std.proofs.Common.{refl}
use Rattle.std.proofs.lemmas.Bool.{false≢true}
use Rattle.table_push.proofs.pushing.push_all.Goals as goal

pub returns-in-Ok : goal.returns-in-Ok
returns-in-Ok g c x stands of good shows =
    let leaves = c.in-Ok.ensures.left x stands of good shows in
    record { done = refl; stands = leaves.stands; pushed = leaves.pushed }

pub returns-in-Err : goal.returns-in-Err
returns-in-Err g c x stands of good shows = absurd (false≢true (c.in-Err.ensures.left x stands of good shows).done)
