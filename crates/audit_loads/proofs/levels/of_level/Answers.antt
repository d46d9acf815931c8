use Rattle.audit_loads.proofs.LevelLemmas.{levels_are}
use Rattle.audit_loads.proofs.levels.of_level.Goals as goal

pub returns : goal.returns
returns c = levels_are c.args.net.now c.args.levels.now c.args.all.now c.in_ok-some.some.items c.args.level c.args.way c.requires c.in_ok-some.ensures
