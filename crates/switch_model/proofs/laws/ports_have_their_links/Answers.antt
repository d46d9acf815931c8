use Rattle.switch_model.proofs.PortLemmas.{ports_have_links}
use Rattle.switch_model.proofs.laws.ports_have_their_links.Goals as goal

pub returns : goal.returns
returns c = ports_have_links
