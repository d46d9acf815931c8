use Rattle.headline_laws.proofs.TextWrongLemmas.{asks_of_far_ports_are_not_heard}
use Rattle.headline_laws.proofs.text_wrong_rules.asks_of_far_ports_are_not_heard.Goals as goal

pub returns : goal.returns
returns c = asks_of_far_ports_are_not_heard
