use Rattle.std.proofs.Common.{refl, sym}
use Rattle.sa_answer.proofs.path.path_record.Goals as goal

pub returns-clause-value : goal.returns-clause-value
returns-clause-value c =
    c.path_between.ensures.value (record { origin = c.args.origin.now; destination = c.args.destination.now; key = c.args.key }) refl refl refl refl (sym c.bits.ensures)
