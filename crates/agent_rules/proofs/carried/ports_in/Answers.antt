use Rattle.std.proofs.Common.{arith}
use Rattle.agent_rules.specs.Carried.{ports_in}
use Rattle.agent_rules.proofs.CarriedLemmas.{entries_are}
use Rattle.agent_rules.proofs.carried.ports_in.Goals as goal

pub returns : goal.returns
unfolding ports_in
returns c = entries_are c.args.attribute.now c.read.result.ports 8 64 c.read.ensures.entries (omega arith)
