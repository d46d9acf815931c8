use Rattle.std.proofs.Common.{◌∙◌, ap}
use Rattle.audit_plan.specs.FarEnds.{all_ends}
use Rattle.audit_plan.proofs.FarEndLemmas.{known_end_by}
use Rattle.audit_plan.proofs.links.Links.known_end.Goals as goal

pub returns : goal.returns
returns c = known_end_by c.args.self.now c.deref.result.now c.args.here c.end_at.result (c.deref.ensures.value ∙ c.self.invariant ∙ ap all_ends c.self.view_is) c.end_at.ensures
