use Rattle.std.proofs.Common.{ℕ, List, ◌++◌, ap, ◌∙◌}
use Rattle.audit_routes.proofs.LineLemmas.{all_unreported}
use Rattle.audit_routes.proofs.lines.push_unreported_lines.Goals as goal

pub returns : goal.returns
returns c = c.in_ok-push_unreported_below.ensures ∙ ap (λ (more : List ℕ). c.args.text.now.items ++ more) (all_unreported c.args.net.now c.args.aims.now)
