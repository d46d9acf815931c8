use Rattle.std.proofs.Common.{◌≡◌, ◌∙◌, Some, ap, refl, subst, sym}
use Rattle.subnet_model.specs.Delivery.{port_with_guid}
use Rattle.sa_replies.specs.Answer.{Answered, answer_to}
use Rattle.sa_replies.specs.Request.{Request}
use Rattle.sa_answer.specs.Answering.{Reacts}
use Rattle.sa_answer.proofs.AnswerLemmas.{answered_as, ignored_as, nobody, somebody}
use Rattle.sa_answer.proofs.MembershipLemmas.{quiet}
use Rattle.sa_answer.proofs.answering.reaction.Goals as goal

pub returns-in_default-clause-reacts : goal.returns-in_default-clause-reacts
returns-in_default-clause-reacts c =
    let state = c.args.store.now in
    let none = nobody state.configuration.ports c.args.port (c.in_default.ensures.none refl) in
    let replies = ap (λ replies. replies.items) c.answered.ensures.replies in
    rw none (quiet _ c.answered.result state state (record { mads_are = replies ∙ c.new.ensures.items; next = refl }) c.answered.ensures.changed refl)

pub returns-in_ok-reaction-in-Some-sa_mad_of-clause-reacts : goal.returns-in_ok-reaction-in-Some-sa_mad_of-clause-reacts
returns-in_ok-reaction-in-Some-sa_mad_of-clause-reacts c =
    let state = c.args.store.now in
    let who = somebody state.configuration.ports c.in-Some.requester.guid c.in-Some.requester.place c.in-Some.ensures.found.0 in
    let found : port_with_guid state.configuration.ports c.args.port ≡ Some who.own =
    sym (ap (port_with_guid state.configuration.ports) c.in-Some.ensures.found.1) ∙ who.found in
    let read = ap (λ (request : Request). answer_to state.configuration.ports who.own request state.administration) c.read.ensures in
    let reported = answered_as state.configuration.ports c.args.port who.own c.in-Some-sa_mad_of.mad.now c.args.payload.now state.administration found c.in-Some-sa_mad_of.ensures in
    subst (λ (answered : Answered). Reacts answered c.in_ok-reaction-in-Some-sa_mad_of.reaction state c.reaction_to.new.store) (read ∙ reported)
    (c.in_ok-reaction-in-Some-sa_mad_of.ensures.reacts who.own who.found)

pub returns-in-None-clause-reacts : goal.returns-in-None-clause-reacts
returns-in-None-clause-reacts c =
    let state = c.args.store.now in
    let who = somebody state.configuration.ports c.in-Some.requester.guid c.in-Some.requester.place c.in-Some.ensures.found.0 in
    let found : port_with_guid state.configuration.ports c.args.port ≡ Some who.own =
    sym (ap (port_with_guid state.configuration.ports) c.in-Some.ensures.found.1) ∙ who.found in
    let reported = ignored_as state.configuration.ports c.args.port who.own c.args.payload.now state.administration found c.in-None.ensures in
    let replies = ap (λ replies. replies.items) c.answered-in-None.ensures.replies in
    rw reported (quiet _ c.answered-in-None.result state state (record { mads_are = replies ∙ c.new-in-None.ensures.items; next = refl }) c.answered-in-None.ensures.changed refl)
