use Rattle.std.proofs.Common.{arith}
use Rattle.agent_rules.specs.Carried.{words_in}
use Rattle.agent_rules.proofs.CarriedLemmas.{entries_are}
use Rattle.agent_rules.proofs.carried.words_in.Goals as goal

pub returns : goal.returns
unfolding words_in
returns c = entries_are c.args.attribute.now c.read.result.words 16 32 c.read.ensures (omega arith)
