use Rattle.std.proofs.lemmas.Slice.Eq.{slice_eq-Decides}
use Rattle.subnet_core.proofs.SameLemmas.{command_decides}
use Rattle.subnet_core.proofs.comparing.are_same_commands.Goals as goal

pub returns : goal.returns
returns c = slice_eq-Decides command_decides c.args.commands.now c.args.others.now c.eq.result c.eq.ensures
