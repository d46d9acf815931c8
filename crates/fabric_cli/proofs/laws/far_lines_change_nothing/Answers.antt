use Rattle.fabric_cli.proofs.PrintedLemmas.{far_lines_change_nothing}
use Rattle.fabric_cli.proofs.laws.far_lines_change_nothing.Goals as goal

pub returns : goal.returns
returns c = far_lines_change_nothing
