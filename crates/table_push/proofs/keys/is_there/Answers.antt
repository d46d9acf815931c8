use Rattle.table_push.proofs.KeyLemmas.{there_is_told}
use Rattle.table_push.proofs.keys.is_there.Goals as goal

pub returns-clause-reported : goal.returns-clause-reported
returns-clause-reported g c x stands given good gives =
    there_is_told x c.args.path.now c.args.wanted.now c.args.modifier c.get-reported.result _ c.whether_there.ensures
    (c.get-reported.ensures.reported x stands good) given gives
