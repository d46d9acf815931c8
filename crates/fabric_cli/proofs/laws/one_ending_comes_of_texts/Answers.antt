use Rattle.fabric_cli.proofs.OneEndingLemmas.{one_ending_comes_of_texts}
use Rattle.fabric_cli.proofs.laws.one_ending_comes_of_texts.Goals as goal

pub returns : goal.returns
returns c = one_ending_comes_of_texts
