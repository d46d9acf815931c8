use Rattle.std.proofs.Common.{◌≡◌, ◌∙◌, ap, refl, sym}
use Rattle.sa_model.specs.Leaving.{Leave, left}
use Rattle.sa_model.specs.Refusals.{first_refusal}
use Rattle.sa_replies.specs.Joins.{leave_questions, leaving_by, takes_some}
use Rattle.sa_store.specs.Registry.{with_partitions}
use Rattle.sa_answer.proofs.AnswerLemmas.{guid_of_found}
use Rattle.sa_answer.proofs.MembershipLemmas.{asked_by, leave_is_done, leave_refused}
use Rattle.sa_answer.proofs.RequestLemmas.{whole_content}
use Rattle.sa_answer.proofs.group_requests.group_left.Goals as goal

pub returns-in-Some-clause-brings : goal.returns-in-Some-clause-brings
returns-in-Some-clause-brings c own found =
    let state = c.args.store.now.administration.remembered in
    let ports = c.args.store.now.configuration.ports in
    let mask = c.args.mask in
    let asked = c.args.asked.now in
    let leave = c.leave_asked-leave.ensures own (guid_of_found ports c.args.requester.guid own found) in
    let takes = c.takes_some-takes.ensures ∙ ap (λ (one : Leave). takes_some one state.partitions) leave in
    let reported = rw c.port-own.ensures at c.leave_refusal.ensures in
    let questions : c.leave_refusal.result ≡ first_refusal (leave_questions own state mask asked) =
    asked_by (λ one. leaving_by one mask asked c.takes_some-takes.result) c.leave_refusal.result c.kept_at.result.now.port own _ c.kept_at.ensures found reported
    ∙ ap (λ (b : _). first_refusal (leaving_by own mask asked b)) takes in
    rw (leave_refused ports own state mask asked c.args.content.now c.in-Some.status (sym questions ∙ c.in-Some.is)) (refl, refl)

pub returns-clause-brings : goal.returns-clause-brings
returns-clause-brings c own found =
    let state = c.args.store.now.administration.remembered in
    let ports = c.args.store.now.configuration.ports in
    let mask = c.args.mask in
    let asked = c.args.asked.now in
    let leave = c.leave_asked-leave.ensures own (guid_of_found ports c.args.requester.guid own found) in
    let takes = c.takes_some-takes.ensures ∙ ap (λ (one : Leave). takes_some one state.partitions) leave in
    let reported = rw c.port-own.ensures at c.leave_refusal.ensures in
    let questions : c.leave_refusal.result ≡ first_refusal (leave_questions own state mask asked) =
    asked_by (λ one. leaving_by one mask asked c.takes_some-takes.result) c.leave_refusal.result c.kept_at.result.now.port own _ c.kept_at.ensures found reported
    ∙ ap (λ (b : _). first_refusal (leaving_by own mask asked b)) takes in
    let next = c.leave-numbers.ensures.next ∙ ap (λ (one : Leave). with_partitions (left ports one state.partitions) c.args.store.now) leave in
    rw (leave_is_done ports own state mask asked c.args.content.now (sym questions ∙ c.in_default.is))
    (sym (whole_content c.args.content.now c.told-content), (next, c.leave-numbers.ensures.numbers))
