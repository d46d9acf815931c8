use Rattle.agent_rules.proofs.AgentLemmas.{reads_alike}
use Rattle.switch_model.specs.Agent.{get, set}
use Rattle.switch_model.proofs.laws.smps_are_read_alike.Goals as goal

pub returns : goal.returns
returns c = λ in_port. reads_alike (get in_port) set
