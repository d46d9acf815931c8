use Rattle.agent_rules.proofs.AgentLemmas.{settled}
use Rattle.port_model.specs.Agent.{get, set}
use Rattle.port_model.proofs.AgentLemmas.{shows}
use Rattle.port_model.proofs.laws.smps_settle.Goals as goal

pub returns : goal.returns
returns c = settled get set shows
