use Rattle.agent_rules.proofs.AgentLemmas.{reply_passes}
use Rattle.port_model.specs.Agent.{agent_reply, get, set}
use Rattle.port_model.proofs.laws.unseen_comes_back.Goals as goal

pub returns : goal.returns
unfolding agent_reply
returns c = λ held smp off len value put encoded. reply_passes get set held smp off len value put encoded
