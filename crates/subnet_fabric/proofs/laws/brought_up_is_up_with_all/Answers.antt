use Rattle.subnet_fabric.proofs.RecabledLemmas.{brought_up_is_up_with_all}
use Rattle.subnet_fabric.proofs.laws.brought_up_is_up_with_all.Goals as goal

pub returns : goal.returns
returns c = brought_up_is_up_with_all
