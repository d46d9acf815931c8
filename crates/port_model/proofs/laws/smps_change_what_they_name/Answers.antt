use Rattle.port_model.proofs.AgentLemmas.{changes_at_most}
use Rattle.port_model.proofs.laws.smps_change_what_they_name.Goals as goal

pub returns : goal.returns
returns c = changes_at_most
