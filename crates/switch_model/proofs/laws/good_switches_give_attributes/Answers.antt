use Rattle.switch_model.proofs.GoodLemmas.{give_attributes}
use Rattle.switch_model.proofs.laws.good_switches_give_attributes.Goals as goal

pub returns : goal.returns
returns c = give_attributes
