use Rattle.std.proofs.Common.{◌≡◌, ◌==◌, ◌∙◌, ap, bit_and, false, refl, sym, true}
use Rattle.sa_replies.specs.Request.{has_versions, is_response}
use Rattle.sa_answer.proofs.AnswerLemmas.{guid_of_found}
use Rattle.sa_answer.proofs.MembershipLemmas.{quiet, same_replies}
use Rattle.sa_answer.proofs.answering.reaction_to.Goals as goal

pub returns-then-not-has_versions-clause-reacts : goal.returns-then-not-has_versions-clause-reacts
returns-then-not-has_versions-clause-reacts c = λ own found.
    let versions : has_versions c.args.request.now.header ≡ false = sym c.has_versions.ensures ∙ c.if-not-has_versions.true in
    let replies = ap (λ replies. replies.items) c.answered.ensures.replies in
    rw versions (quiet _ c.answered.result c.args.store.now c.args.store.now (record { mads_are = replies ∙ c.in_ok-version_refused.ensures; next = refl }) c.answered.ensures.changed refl)

pub returns-then-is_active-clause-reacts : goal.returns-then-is_active-clause-reacts
returns-then-is_active-clause-reacts c = λ own found.
    let guid = guid_of_found c.args.store.now.configuration.ports c.args.requester.guid own found in
    let versions : has_versions c.args.request.now.header ≡ true = sym c.has_versions.ensures ∙ c.if-not-has_versions.false in
    let active : (bit_and c.args.request.now.rmpp.flags 1 == 1) ≡ true = sym c.is_active.ensures ∙ c.if-is_active.true in
    let replies = ap (λ replies. replies.items) c.answered-then-is_active.ensures.replies in
    rw (versions, active)
    (quiet _ c.answered-then-is_active.result c.args.store.now c.after_rmpp.new.store (same_replies _ _ _ _ _ replies (c.in_ok-after_rmpp.ensures.answers own guid))
    c.answered-then-is_active.ensures.changed refl)

pub returns-then-is_response-clause-reacts : goal.returns-then-is_response-clause-reacts
returns-then-is_response-clause-reacts c = λ own found.
    let versions : has_versions c.args.request.now.header ≡ true = sym c.has_versions.ensures ∙ c.if-not-has_versions.false in
    let passive : (bit_and c.args.request.now.rmpp.flags 1 == 1) ≡ false = sym c.is_active.ensures ∙ c.if-is_active.false in
    let responds : is_response c.args.request.now.header ≡ true = sym c.is_response.ensures ∙ c.if-is_response.true in
    let replies = ap (λ replies. replies.items) c.answered-then-is_response.ensures.replies in
    rw (versions, passive, responds)
    (quiet _ c.answered-then-is_response.result c.args.store.now c.args.store.now (record { mads_are = replies ∙ c.new.ensures.items; next = refl })
    c.answered-then-is_response.ensures.changed refl)

pub returns-clause-reacts : goal.returns-clause-reacts
returns-clause-reacts c = λ own found.
    let versions : has_versions c.args.request.now.header ≡ true = sym c.has_versions.ensures ∙ c.if-not-has_versions.false in
    let passive : (bit_and c.args.request.now.rmpp.flags 1 == 1) ≡ false = sym c.is_active.ensures ∙ c.if-is_active.false in
    let asks : is_response c.args.request.now.header ≡ false = sym c.is_response.ensures ∙ c.if-is_response.false in
    rw (versions, passive, asks) (c.in_ok-reaction.ensures.reacts own found)
