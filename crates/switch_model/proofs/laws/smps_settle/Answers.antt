use Rattle.agent_rules.proofs.AgentLemmas.{settled}
use Rattle.switch_model.specs.Agent.{get, set}
use Rattle.switch_model.proofs.AgentLemmas.{shows}
use Rattle.switch_model.proofs.laws.smps_settle.Goals as goal

pub returns : goal.returns
returns c = λ in_port. settled (get in_port) set (shows in_port)
