use Rattle.switch_model.proofs.LinkLemmas.{links_keep_good, links_show}
use Rattle.switch_model.proofs.laws.links_show.Goals as goal

pub returns-clause-shown : goal.returns-clause-shown
returns-clause-shown c = links_show

pub returns-clause-kept : goal.returns-clause-kept
returns-clause-kept c = links_keep_good
