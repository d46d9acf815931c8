use Rattle.subnet_core.proofs.FateLemmas.{texts_have_one_answer}
use Rattle.subnet_core.proofs.laws.texts_have_one_answer.Goals as goal

pub returns : goal.returns
returns c = texts_have_one_answer
