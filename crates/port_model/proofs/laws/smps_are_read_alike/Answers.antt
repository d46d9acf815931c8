use Rattle.agent_rules.proofs.AgentLemmas.{reads_alike}
use Rattle.port_model.specs.Agent.{get, set}
use Rattle.port_model.proofs.laws.smps_are_read_alike.Goals as goal

pub returns : goal.returns
returns c = reads_alike get set
