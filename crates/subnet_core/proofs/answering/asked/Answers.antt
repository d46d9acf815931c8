use Rattle.std.proofs.Common.{ℕ, ◌≡◌, ◌+◌, ◌<◌, ◌∙◌, ap, arith, length, refl, suc, sym, subst, List, [], ◌∷◌, drop, drop-cons, get_or}
use Rattle.std.proofs.lemmas.List.{drop_all}
use Rattle.sa_replies.specs.Asking.{acknowledgements}
use Rattle.subnet_core.proofs.AskLemmas.{Acknowledges, OnTheWay, acknowledges_more, ends, starts_acknowledging}
use Rattle.subnet_fabric.specs.declared.event.Event.{Event}
use Rattle.subnet_core.proofs.answering.asked.Goals as goal

drop_next : (acks : List (List ℕ)) (i : ℕ) → i < length acks → drop i acks ≡ get_or acks i [] ∷ drop (i + 1) acks
drop_next acks i within =
    let next : suc i ≡ i + 1 = omega arith in
    drop-cons acks i [] within ∙ ap (λ (n : ℕ). get_or acks i [] ∷ drop n acks) next

pub loop-ack-init : goal.loop-ack-init
loop-ack-init c =
    starts_acknowledging c.args.inventory.now c.args.routes.now c.args.command.now c.deref-ack-items.result.now c.in_ok-first.first.events.items
    c.asked_once.new.administrator c.asked_once.new.fabric c.in_ok-first.ensures.once.stands

pub loop-ack-preserved : goal.loop-ack-preserved
loop-ack-preserved c =
    let acks = c.deref-ack-items.result.now in
    let i = c.loop-ack.ack-index in
    subst (λ (events : List Event).
    Acknowledges c.args.inventory.now c.args.routes.now c.args.command.now acks c.in_ok-first.first.events.items c.asked_once.new.administrator
    c.asked_once.new.fabric (drop (i + 1) acks) events c.asked_once-in-loop-ack.new.administrator c.asked_once-in-loop-ack.new.fabric)
    (sym c.in_ok-append.ensures.items)
    (acknowledges_more c.args.inventory.now c.args.routes.now c.args.command.now acks c.in_ok-first.first.events.items c.asked_once.new.administrator
    c.asked_once.new.fabric (drop i acks) (get_or acks i []) (drop (i + 1) acks) (drop_next acks i c.loop-ack-test.true)
    c.loop-ack.events.items c.loop-ack.administrator c.asked_once-in-loop-ack.new.administrator c.loop-ack.fabric c.asked_once-in-loop-ack.new.fabric
    c.in_ok-more.more c.loop-ack.invariant c.in_ok-more.ensures.once)

pub returns-clause-steps : goal.returns-clause-steps
returns-clause-steps c =
    let acks : acknowledgements c.in_ok-first.first.mads.items ≡ c.deref-ack-items.result.now =
    sym (c.deref-ack-items.ensures.value ∙ c.in_ok-acks.ensures ∙ ap acknowledgements c.deref.ensures.value) in
    let way = c.loop-ack.invariant.way c.args.administrator.now c.args.fabric.now c.in_ok-first.first acks refl c.in_ok-first.ensures.once in
    ends c.args.inventory.now c.args.routes.now c.args.administrator.now c.args.fabric.now c.args.command.now c.loop-ack.events.items c.loop-ack.administrator
    c.loop-ack.fabric
    (subst (λ (left : List (List ℕ)).
    OnTheWay c.args.inventory.now c.args.routes.now c.args.administrator.now c.args.fabric.now c.args.command.now left c.loop-ack.events.items c.loop-ack.administrator
    c.loop-ack.fabric)
    (drop_all c.loop-ack.ack-index c.deref-ack-items.result.now c.loop-ack-test.false) way)
