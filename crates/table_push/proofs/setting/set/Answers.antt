use Rattle.table_push.proofs.SettingLemmas.{is_set}
use Rattle.table_push.proofs.setting.set.Goals as goal

pub returns-clause-left : goal.returns-clause-left
returns-clause-left g c x stands next good takes gives =
    is_set x next c.args.attribute c.args.modifier c.args.path.now c.args.wanted.now c.set-reported.result _ _
    c.meaning.ensures (c.set-reported.ensures.reported x stands good) (c.set-reported.ensures.left x stands good)
    (c.set-reported.ensures.good x good) (c.set-reported.ensures.shape x good) takes gives
