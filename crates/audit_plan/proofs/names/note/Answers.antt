use Rattle.std.proofs.Common.{refl}
use Rattle.audit_plan.proofs.NameLemmas.{names_more}
use Rattle.audit_plan.proofs.names.note.Goals as goal

pub returns : goal.returns
returns c before knows =
    names_more c.args.names.now c.insert.new.self before c.args.node.now c.in_ok-name.name _ (rw c.as_bytes.ensures at c.in_ok-name.ensures.items) knows
    (rw c.contains_key-alone.ensures refl) c.in_ok-insert.ensures.updates.0
