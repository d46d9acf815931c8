use Rattle.std.proofs.Common.{◌∙◌, sym}
use Rattle.audit_loops.proofs.CycleLemmas.{beq_is, same_marks}
use Rattle.audit_loops.proofs.cycle.are_same.Goals as goal

pub returns : goal.returns
returns c same = same_marks _ beq_is c.args.a.now c.args.b.now (sym c.eq.ensures ∙ same)
