use Rattle.std.proofs.Common.{sym, ◌∙◌}
use Rattle.audit_loops.proofs.WaitLemmas.{depends_here}
use Rattle.audit_loops.proofs.channels.depends.Goals as goal

pub returns-then-leads_to : goal.returns-then-leads_to
returns-then-leads_to c =
    depends_here c.args.net.now c.args.courses.now c.args.first c.args.second c.is_taken.result (sym c.leads_to.ensures ∙ c.if-leads_to.true)
    (c.is_taken.ensures.value ∙ c.requires c.args.first.port c.args.second.port c.is_taken.ensures.number c.is_taken.ensures.next)
