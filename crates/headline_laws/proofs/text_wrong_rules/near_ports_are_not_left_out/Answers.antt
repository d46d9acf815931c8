use Rattle.headline_laws.proofs.TextWrongLemmas.{near_ports_are_not_left_out}
use Rattle.headline_laws.proofs.text_wrong_rules.near_ports_are_not_left_out.Goals as goal

pub returns : goal.returns
returns c = near_ports_are_not_left_out
