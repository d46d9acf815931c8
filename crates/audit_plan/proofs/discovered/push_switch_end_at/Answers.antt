use Rattle.std.proofs.Common.{append-nil, sym}
use Rattle.std.proofs.lemmas.Bool.{ltb-false}
use Rattle.std.proofs.lemmas.Option.{slice_get_past}
use Rattle.audit_plan.proofs.discovered.push_switch_end_at.Goals as goal

pub returns-in-None : goal.returns-in-None
returns-in-None c =
    rw (slice_get_past c.args.nodes.now c.args.place (ltb-false _ _ (sym c.in-None.ensures.lookup.0))) (sym (append-nil c.args.ends.now.items))
