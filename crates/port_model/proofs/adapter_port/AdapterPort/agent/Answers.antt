use Rattle.agent_rules.proofs.AgentLemmas.{refused_stays}
use Rattle.port_model.specs.Agent.{get, set}
use Rattle.port_model.proofs.AgentLemmas.{shows}
use Rattle.port_model.proofs.adapter_port.AdapterPort.agent.Goals as goal

pub returns-clause-refused : goal.returns-clause-refused
returns-clause-refused c = λ replied status.
    refused_stays get set shows c.args.self.now c.answer-answer.new.self c.args.smp.now c.answer-answer.result _
    c.answer-answer.ensures.answer c.answer-answer.ensures.held c.put_reply.ensures.status status
