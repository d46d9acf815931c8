use Rattle.cli_args.proofs.NameLemmas.{routes_are_as_asked}
use Rattle.cli_args.proofs.laws.balanced_routes_are_asked_for.Goals as goal

pub returns : goal.returns
returns c = routes_are_as_asked
