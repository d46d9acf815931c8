use Rattle.std.proofs.Common.{subst, List}
use Rattle.smp_wire.specs.Deliveries.{DeliveryState}
use Rattle.subnet_core.specs.Answering.{AnswersRequests}
use Rattle.subnet_core.specs.Senders.{AreSentBack}
use Rattle.subnet_core.proofs.OnceLemmas.{steps_by_events, steps_by_request}
use Rattle.subnet_core.proofs.answering.sent.Goals as goal

pub returns-in-Events-clause-steps : goal.returns-in-Events-clause-steps
returns-in-Events-clause-steps c =
    steps_by_events c.args.inventory.now c.args.routes.now c.args.administrator.now c.args.fabric.now c.requires c.args.command.now c.in-Events.events
    (rw c.in-Events.is at c.in_ok-events.ensures.comes) (rw c.in-Events.is at c.in_ok-events.ensures.reported)

pub returns-in_ok-given-in-Request-clause-steps : goal.returns-in_ok-given-in-Request-clause-steps
returns-in_ok-given-in-Request-clause-steps c =
    steps_by_request c.args.inventory.now c.args.routes.now c.args.administrator.now c.args.fabric.now c.requires c.args.command.now c.in-Request.deliveries
    (rw c.in-Request.is at c.in_ok-events.ensures.comes) (rw c.in-Request.is at c.in_ok-events.ensures.reported)
    c.in_ok-given-in-Request.given c.answered.new.administrator c.answered.new.fabric c.in_ok-given-in-Request.ensures.stands
    (subst (λ (some : List DeliveryState).
    AnswersRequests c.args.inventory.now c.args.administrator.now c.args.command.now.port_guid some c.in_ok-given-in-Request.given c.answered.new.administrator)
    c.deref.ensures.value c.in_ok-given-in-Request.ensures.answers)
    (subst (λ (some : List DeliveryState). AreSentBack c.answered.new.fabric some c.in_ok-given-in-Request.given.events.items) c.deref.ensures.value
    c.in_ok-given-in-Request.ensures.back)
    c.in_ok-given-in-Request.ensures.cabling
