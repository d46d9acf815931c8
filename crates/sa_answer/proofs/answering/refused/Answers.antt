use Rattle.std.proofs.Common.{◌∙◌, ap, refl}
use Rattle.sa_answer.proofs.AnswerLemmas.{refused_answers}
use Rattle.sa_answer.proofs.answering.refused.Goals as goal

pub returns : goal.returns
returns c = λ own state.
    let replies = rw c.refusal_reply.ensures at c.in_ok-replies.ensures in
    refused_answers own c.args.request.now state _ _ c.args.status refl (ap (λ replies. replies.items) c.answered.ensures.replies ∙ replies) c.answered.ensures.changed
