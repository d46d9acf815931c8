use Rattle.std.proofs.Common.{subst, List, IfOk}
use Rattle.smp_wire.specs.Deliveries.{DeliveryState}
use Rattle.subnet_core.specs.Answering.{AnswersRequests}
use Rattle.subnet_core.specs.Senders.{AreSentBack}
use Rattle.subnet_core.proofs.OnceLemmas.{once_by_events, once_if_ok}
use Rattle.subnet_core.proofs.answering.asked_once.Goals as goal

pub returns-in-Events-clause-once : goal.returns-in-Events-clause-once
returns-in-Events-clause-once c =
    once_by_events c.args.inventory.now c.args.routes.now c.args.administrator.now c.args.fabric.now c.requires c.args.command.now c.in-Events.events
    (rw c.in-Events.is at c.in_ok-events.ensures.comes) (rw c.in-Events.is at c.in_ok-events.ensures.reported)
    c.none.result c.none.ensures.mads c.none.ensures.events

pub returns-in-Request-clause-once : goal.returns-in-Request-clause-once
returns-in-Request-clause-once c =
    once_if_ok c.args.inventory.now c.args.routes.now c.args.administrator.now c.args.fabric.now c.requires c.args.command.now c.in-Request.deliveries
    (rw c.in-Request.is at c.in_ok-events.ensures.comes) (rw c.in-Request.is at c.in_ok-events.ensures.reported)
    c.answered.new.administrator c.answered.new.fabric c.answered.result
    (subst (λ (some : List DeliveryState). IfOk c.answered.result (λ given.
    AnswersRequests c.args.inventory.now c.args.administrator.now c.args.command.now.port_guid some given c.answered.new.administrator))
    c.deref.ensures.value c.answered.ensures.answers)
    (subst (λ (some : List DeliveryState). IfOk c.answered.result (λ given. AreSentBack c.answered.new.fabric some given.events.items))
    c.deref.ensures.value c.answered.ensures.back)
    c.answered.ensures.stands c.answered.ensures.cabling
