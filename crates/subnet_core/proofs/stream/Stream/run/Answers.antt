use Rattle.std.proofs.Common.{refl}
use Rattle.subnet_core.proofs.StreamLemmas.{carries_out, refuses}
use Rattle.subnet_core.proofs.stream.Stream.run.Goals as goal

pub returns-then-not-is_written_out-clause-exact : goal.returns-then-not-is_written_out-clause-exact
returns-then-not-is_written_out-clause-exact g c =
    refuses c.args.self.now c.requires.text c.requires.taken c.requires.fresh (Unit {0}) c.carry_out-ended.result c.carry_out-ended.new.self _ _ _ _ _ c.carry_out-ended.ensures.reads c.is_written_out.ensures.part

pub returns-clause-exact : goal.returns-clause-exact
returns-clause-exact g c =
    carries_out c.args.self.now c.requires.text c.requires.taken c.requires.fresh (Unit {0}) c.carry_out-ended.result c.carry_out-ended.new.self _ _ _ _ _ c.carry_out-ended.ensures.reads
    (c.if-not-is_written_out.ensures.whole refl)
