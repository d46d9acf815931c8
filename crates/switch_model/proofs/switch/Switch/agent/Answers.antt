use Rattle.agent_rules.proofs.AgentLemmas.{refused_stays}
use Rattle.switch_model.specs.Agent.{get, set}
use Rattle.switch_model.proofs.AgentLemmas.{shows}
use Rattle.switch_model.proofs.switch.Switch.agent.Goals as goal

pub returns-clause-refused : goal.returns-clause-refused
returns-clause-refused g c = λ replied status.
    refused_stays (get c.args.in_port) set (shows c.args.in_port) c.args.self.now c.answer-answer.new.self
    c.args.smp.now c.answer-answer.result _ c.answer-answer.ensures.answer c.answer-answer.ensures.held
    c.put_reply.ensures.status status
