use Rattle.rooted_import.proofs.LawLemmas.{roots_are_top_switches}
use Rattle.rooted_import.proofs.laws.roots_are_top_switches.Goals as goal

pub returns : goal.returns
returns c = roots_are_top_switches
