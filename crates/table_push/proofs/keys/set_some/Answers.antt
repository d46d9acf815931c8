use Rattle.table_push.proofs.WantedLemmas.{none_put, some_put}
use Rattle.table_push.proofs.keys.set_some.Goals as goal

pub returns-in-Some-clause-left : goal.returns-in-Some-clause-left
returns-in-Some-clause-left g c x stands guid number good leads =
    some_put _ _ x guid number c.in-Some.table _ c.in-Some.is (c.set_table.ensures.left x stands guid number good leads)

pub returns-in-None-clause-left : goal.returns-in-None-clause-left
returns-in-None-clause-left g c x stands guid number good leads = none_put _ x guid number _ c.in-None.is stands good
