use Rattle.std.proofs.Common.{refl}
use Rattle.subnet_core.proofs.PutLemmas.{all_written, part_written}
use Rattle.subnet_core.proofs.stream.Stream.write_out.Goals as goal

pub returns-clause-reports : goal.returns-clause-reports
returns-clause-reports g c =
    rw (← c.self.view_is, c.clear.ensures.items)
    (all_written _ _ _ (rw c.deref.ensures.value at c.if-not-is_written.ensures.whole refl), refl, refl)

pub returns-then-not-is_written-clause-reports : goal.returns-then-not-is_written-clause-reports
returns-then-not-is_written-clause-reports g c =
    rw (← c.self.view_is, c.clear.ensures.items) (part_written _ _ _ (rw c.deref.ensures.value at c.write_whole-is_written.ensures.part))
