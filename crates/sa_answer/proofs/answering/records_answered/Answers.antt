use Rattle.std.proofs.Common.{◌∙◌, ap}
use Rattle.sa_answer.proofs.AnswerLemmas.{refused_is, replied_answers, replied_is, tabled_answers, tabled_is}
use Rattle.sa_answer.proofs.answering.records_answered.Goals as goal

pub returns-in-Err-clause-reacts : goal.returns-in-Err-clause-reacts
returns-in-Err-clause-reacts c = λ own brought is brings.
    let state = c.args.store.now in
    let refusal = refused_is state.administration.remembered brought c.in-Err.status (rw c.in-Err.is at brings) in
    rw refusal (c.refused.ensures own state)

pub returns-in_ok-replies-in-Ok-Reply-clause-reacts : goal.returns-in_ok-replies-in-Ok-Reply-clause-reacts
returns-in_ok-replies-in-Ok-Reply-clause-reacts c = λ own brought is brings.
    let state = c.args.store.now in
    let replied = replied_is state.administration.remembered brought c.in-Ok-Reply.data (rw (c.in-Ok-Reply.is, c.in-Ok-Reply.field-0-is) at brings) in
    let replies = rw c.reply.ensures at c.in_ok-replies-in-Ok-Reply.ensures in
    replied_answers own c.args.request.now state brought _ c.in-Ok-Reply.data replied (ap (λ replies. replies.items) c.answered.ensures.replies ∙ replies)
    c.answered.ensures.changed

pub returns-in_ok-replies-in-Ok-Table-clause-reacts : goal.returns-in_ok-replies-in-Ok-Table-clause-reacts
returns-in_ok-replies-in-Ok-Table-clause-reacts c = λ own brought is brings.
    let state = c.args.store.now in
    let tabled = tabled_is state.administration.remembered brought c.in-Ok-Table.spacing c.in-Ok-Table.bytes (rw (c.in-Ok-Table.is, c.in-Ok-Table.field-0-is) at brings) in
    let sender = rw (c.table_header.ensures, c.deref.ensures.value) at c.in_ok-sender-in-Ok-Table.ensures in
    let replies = rw (c.segment.ensures.bytes, sender) at c.in_ok-replies-in-Ok-Table.ensures in
    let next = rw (sender, ← is) at c.replace_table.ensures.next in
    tabled_answers own c.args.request.now state c.replace_table.new.self brought _ c.in-Ok-Table.spacing c.in-Ok-Table.bytes.items tabled
    (ap (λ replies. replies.items) c.answered-in-Ok-Table.ensures.replies ∙ replies) next c.answered-in-Ok-Table.ensures.changed
