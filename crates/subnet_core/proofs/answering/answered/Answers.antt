use Rattle.std.proofs.Common.{◌≡◌, ◌∙◌, ap, refl, subst, sym, List, [], ◌∷◌, Vec, Global}
use Rattle.smp_wire.specs.Deliveries.{DeliveryState}
use Rattle.smp_wire.specs.FabricState.{FabricState}
use Rattle.subnet_core.proofs.AnswerLemmas.{first_none, first_some, is_answered, nothing_came, nothing_matches, stands_after}
use Rattle.subnet_core.specs.Senders.{AreSentBack}
use Rattle.subnet_fabric.specs.declared.event.Event.{Event}
use Rattle.subnet_core.proofs.answering.answered.Goals as goal

pub returns-in_default-clause-answers : goal.returns-in_default-clause-answers
returns-in_default-clause-answers c =
    nothing_came c.args.inventory.now c.args.routes.now c.args.administrator.now c.args.fabric.now c.requires c.args.request.port c.args.request.deliveries.now c.none.result
    c.none.ensures.mads (ap (λ (v : Vec Event Global). v.items) c.none.ensures.events ∙ c.new.ensures.items)
    (first_none c.args.request.deliveries.now (sym c.in_default.ensures.value))

pub returns-in_default-manager_key-clause-answers : goal.returns-in_default-manager_key-clause-answers
returns-in_default-manager_key-clause-answers c =
    let first = first_some c.args.request.deliveries.now c.in-Some.delivery.now (sym c.in-Some.ensures.value) in
    nothing_matches c.args.inventory.now c.args.routes.now c.args.administrator.now c.args.fabric.now c.requires c.args.request.port c.args.request.deliveries.now
    c.none-in_default-manager_key.result c.none-in_default-manager_key.ensures.mads
    (ap (λ (v : Vec Event Global). v.items) c.none-in_default-manager_key.ensures.events ∙ c.new-in_default-manager_key.ensures.items)
    c.in-Some.delivery.now first.0 first.1
    (rw (c.packet-packet.ensures, c.ports.ensures, c.configuration.ensures) at (sym c.in_default-manager_key.ensures))

pub returns-clause-stands : goal.returns-clause-stands
returns-clause-stands c =
    stands_after c.args.inventory.now c.args.routes.now c.args.administrator.now c.args.fabric.now c.requires c.args.request.port c.as_slice.result.now c.in_ok-mads.mads.items
    c.answer.new.administrator c.answer.new.fabric c.in_ok-mads.ensures.answers c.in_ok-mads.ensures.serves

pub returns-clause-answers : goal.returns-clause-answers
returns-clause-answers c =
    let first = first_some c.args.request.deliveries.now c.in-Some.delivery.now (sym c.in-Some.ensures.value) in
    is_answered c.args.inventory.now c.args.routes.now c.args.administrator.now c.args.fabric.now c.requires c.args.request.port c.args.request.deliveries.now
    c.in-Some.delivery.now first.0 first.1 c.in-Some-manager_key.key
    (rw (c.packet-packet.ensures, c.ports.ensures, c.configuration.ensures) at (sym c.in-Some-manager_key.ensures))
    c.in_ok-mads.mads.items c.answer.new.administrator c.answer.new.fabric (returns-clause-stands c)
    (rw (c.as_slice.ensures.value, c.packet-packet.ensures) at c.in_ok-mads.ensures.answers)
    (record { mads = c.in_ok-mads.mads; events = c.in_ok-events.events }) refl (rw c.deref.ensures.value at c.in_ok-events.ensures.reported)

-- ---- what was received is answered by MADs that are sent back
none_back : (left : FabricState) (deliveries : List DeliveryState) (events : List Event) → events ≡ [] → AreSentBack left deliveries events
none_back left [] events none = none
none_back left (request ∷ rest) events none = (0, [], none)

pub returns-in_default-clause-back : goal.returns-in_default-clause-back
returns-in_default-clause-back c =
    none_back c.args.fabric.now c.args.request.deliveries.now c.none.result.events.items (ap (λ (v : Vec Event Global). v.items) c.none.ensures.events ∙ c.new.ensures.items)

pub returns-in_default-manager_key-clause-back : goal.returns-in_default-manager_key-clause-back
returns-in_default-manager_key-clause-back c =
    none_back c.args.fabric.now c.args.request.deliveries.now c.none-in_default-manager_key.result.events.items
    (ap (λ (v : Vec Event Global). v.items) c.none-in_default-manager_key.ensures.events ∙ c.new-in_default-manager_key.ensures.items)

pub returns-clause-back : goal.returns-clause-back
returns-clause-back c =
    let first = first_some c.args.request.deliveries.now c.in-Some.delivery.now (sym c.in-Some.ensures.value) in
    subst (λ (deliveries : List DeliveryState). AreSentBack c.answer.new.fabric deliveries c.in_ok-events.events.items) (sym first.1)
    (c.in-Some-manager_key.key, c.deref.result.now, c.in_ok-events.ensures.comes)
