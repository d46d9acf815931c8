use Rattle.std.proofs.Common.{inr, refl}
use Rattle.std.proofs.lemmas.Bool.{false≢true}
use Rattle.std.proofs.lemmas.Result.{err_from_is_err_and}
use Rattle.subnet_fabric.proofs.managing.set_up_over.Goals as goal
use Rattle.table_push.specs.Pushed.{all_pushed}

pub returns-in_err-graph-clause-over : goal.returns-in_err-graph-clause-over
returns-in_err-graph-clause-over g c fabric is sweepable =
    let given = err_from_is_err_and c.from_residual.result c.from_residual.ensures.1 in
    rw (given.1, given.2) (inr (c.in_err-graph.ensures.fault fabric is sweepable c.args.roots.now), c.graph_over.ensures.left fabric is sweepable.good)

pub returns-in_err-routes-clause-over : goal.returns-in_err-routes-clause-over
returns-in_err-routes-clause-over g c fabric is sweepable =
    let given = err_from_is_err_and c.from_residual-in_err-routes.result c.from_residual-in_err-routes.ensures.1 in
    rw (given.1, given.2)
    (c.in_err-routes.ensures.over fabric (c.in_ok-graph.ensures.found fabric is sweepable), c.graph_over.ensures.left fabric is sweepable.good)

pub known_to_lead_home-requires : goal.known_to_lead_home-requires
known_to_lead_home-requires g c = c.in_ok-routes.ensures.asked.reached

pub returns-in-Ok-clause-managed : goal.returns-in-Ok-clause-managed
returns-in-Ok-clause-managed g c = record { asked = c.in_ok-routes.ensures.asked; home = c.known_to_lead_home.ensures }

pub returns-in-Ok-clause-over : goal.returns-in-Ok-clause-over
returns-in-Ok-clause-over g c fabric is sweepable =
    let are = c.in_ok-routes.ensures.over fabric (c.in_ok-graph.ensures.found fabric is sweepable) in
    let leaves = c.in-Ok.ensures.left fabric (c.graph_over.ensures.left fabric is sweepable.good) are.found.of sweepable.good sweepable.links in (
      record {
        after = all_pushed c.in_ok-routes.routes c.args.keys.now fabric;
        stands = leaves.stands;
        set_up = record { are = are; home = c.known_to_lead_home.ensures; pushed = leaves.pushed; is = refl };
      },
      c.in-Ok.ensures.all fabric (c.graph_over.ensures.left fabric is sweepable.good) are.found.of sweepable.good sweepable.links,
    )

pub returns-in-Err-clause-over : goal.returns-in-Err-clause-over
returns-in-Err-clause-over g c fabric is sweepable =
    let are = c.in_ok-routes.ensures.over fabric (c.in_ok-graph.ensures.found fabric is sweepable) in
    let leaves = c.in-Err.ensures.left fabric (c.graph_over.ensures.left fabric is sweepable.good) are.found.of sweepable.good sweepable.links in
    absurd (false≢true leaves.done)
