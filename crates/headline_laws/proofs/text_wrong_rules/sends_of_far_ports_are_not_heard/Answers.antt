use Rattle.headline_laws.proofs.TextWrongLemmas.{sends_of_far_ports_are_not_heard}
use Rattle.headline_laws.proofs.text_wrong_rules.sends_of_far_ports_are_not_heard.Goals as goal

pub returns : goal.returns
returns c = sends_of_far_ports_are_not_heard
