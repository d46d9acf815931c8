use Rattle.std.proofs.Common.{ℕ, ◌<◌, ◌==◌, ◌||◌, length, arith, ap, ◌∙◌}
use Rattle.topo_file.specs.Rounds.{is_marked}
use Rattle.audit_net.proofs.MarkLemmas.{marked_more}
use Rattle.audit_net.proofs.lids.mark.Goals as goal

pub returns-clause-marked : goal.returns-clause-marked
returns-clause-marked c other =
    let within : c.from.result < length c.args.marks.now = omega (arith, c.ranges.lid.fits, c.requires, c.from.ensures) in
    marked_more c.args.marks.now c.from.result other within ∙ ap (λ (n : ℕ). is_marked c.args.marks.now other || (n == other)) c.from.ensures
