use Rattle.subnet_fabric.proofs.RecabledLemmas.{recabled_is_as_brought_up}
use Rattle.subnet_fabric.proofs.laws.recabled_is_as_brought_up.Goals as goal

pub returns : goal.returns
returns c = recabled_is_as_brought_up
