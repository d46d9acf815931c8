use Rattle.subnet_fabric.proofs.OneFateLemmas.{no_path_excludes_coming_up}
use Rattle.subnet_fabric.proofs.laws.no_path_excludes_coming_up.Goals as goal

pub returns : goal.returns
returns c = no_path_excludes_coming_up
