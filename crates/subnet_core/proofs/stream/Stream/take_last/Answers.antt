use Rattle.subnet_core.proofs.TakeLemmas.{takes_none}
use Rattle.subnet_core.proofs.stream.Stream.take_last.Goals as goal

pub returns-then-is_empty-clause-takes : goal.returns-then-is_empty-clause-takes
returns-then-is_empty-clause-takes g c = takes_none c.args.begun.now c.args.self.now _ (c.if-is_empty.ensures)
