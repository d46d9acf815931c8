use Rattle.smp_wire.proofs.ReplyToLemmas.{replies_answer}
use Rattle.smp_wire.proofs.laws.replies_answer.Goals as goal

pub returns : goal.returns
returns c = replies_answer
