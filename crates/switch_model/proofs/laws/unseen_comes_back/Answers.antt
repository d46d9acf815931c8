use Rattle.agent_rules.proofs.AgentLemmas.{reply_passes}
use Rattle.switch_model.specs.Agent.{agent_reply, get, set}
use Rattle.switch_model.proofs.laws.unseen_comes_back.Goals as goal

pub returns : goal.returns
unfolding agent_reply
returns c = λ held in_port smp off len value put encoded. reply_passes (get in_port) set held smp off len value put encoded
