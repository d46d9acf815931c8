use Rattle.std.proofs.Common.{◌∙◌, ap}
use Rattle.audit_plan.specs.Tops.{top_switches}
use Rattle.rooted_import.proofs.roots.tops_of.Goals as goal

pub returns : goal.returns
returns c = c.in_ok-tops.ensures ∙ ap top_switches c.in_ok-plan.ensures
