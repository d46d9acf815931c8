use Rattle.headline_laws.proofs.WrongLemmas.{far_ports_are_no_source}
use Rattle.headline_laws.proofs.wrong_rules.far_ports_are_no_source.Goals as goal

pub returns : goal.returns
returns c = far_ports_are_no_source
