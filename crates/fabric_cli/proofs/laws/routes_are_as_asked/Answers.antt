use Rattle.fabric_cli.proofs.RuleLemmas.{routes_are_as_asked}
use Rattle.fabric_cli.proofs.laws.routes_are_as_asked.Goals as goal

pub returns : goal.returns
returns c = routes_are_as_asked
