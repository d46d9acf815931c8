use Rattle.std.proofs.Common.{refl}
use Rattle.sa_answer.proofs.MembershipLemmas.{change_reacts, refused_change}
use Rattle.sa_answer.proofs.answering.change_answered.Goals as goal

pub returns-in-Err : goal.returns-in-Err
returns-in-Err c = λ own brought before after brings.
    let refusal = refused_change before after brought c.in-Err.status (rw c.in-Err.is at brings) in
    rw (refusal.0, refusal.1) (c.refused.ensures own before)

pub returns-in_ok-replies-in-Ok : goal.returns-in_ok-replies-in-Ok
returns-in_ok-replies-in-Ok c = λ own brought before after brings.
    let done = rw c.in-Ok.is at brings in
    change_reacts own c.args.request.now before after brought c.in-Ok.change _ done (rw c.reply.ensures at c.in_ok-replies-in-Ok.ensures) refl
