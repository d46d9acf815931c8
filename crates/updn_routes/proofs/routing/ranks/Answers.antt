use Rattle.std.proofs.Common.{Bool, List, subst, ◌∙◌}
use Rattle.std.proofs.lemmas.Result.{IfOk-weaker}
use Rattle.updn_routes.specs.Order.{AreDistances}
use Rattle.updn_routes.specs.Rounds.{is_marked}
use Rattle.updn_routes.proofs.AnswerLemmas.{marks_roots}
use Rattle.updn_routes.proofs.routing.ranks.Goals as goal

pub distances-requires-clause-count : goal.distances-requires-clause-count
distances-requires-clause-count c =
    rw (c.deref.ensures.value, c.in_ok-marks.ensures) (marks_roots c.args.rows.now c.args.guids.now c.args.roots.now c.requires).count

pub distances-requires-clause-some : goal.distances-requires-clause-some
distances-requires-clause-some c =
    rw (c.deref.ensures.value, c.in_ok-marks.ensures) (marks_roots c.args.rows.now c.args.guids.now c.args.roots.now c.requires).some

pub returns : goal.returns
returns c =
    IfOk-weaker c.distances.result _ _
    (λ found are. (marks_roots c.args.rows.now c.args.guids.now c.args.roots.now c.requires).same found.items
    (subst (λ (marks : List Bool). AreDistances c.args.rows.now (is_marked marks) found.items) (c.deref.ensures.value ∙ c.in_ok-marks.ensures) are)) c.distances.ensures
