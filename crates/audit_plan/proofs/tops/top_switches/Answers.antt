use Rattle.std.proofs.Common.{◌∙◌, ap}
use Rattle.audit_plan.specs.Tops.{top_switches}
use Rattle.audit_plan.proofs.tops.top_switches.Goals as goal

pub returns : goal.returns
returns c = c.in_ok-tops.ensures ∙ ap top_switches c.in_ok-links.ensures
