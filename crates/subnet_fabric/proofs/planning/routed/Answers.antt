use Rattle.std.proofs.Common.{subst, sym}
use Rattle.subnet_fabric.proofs.StandingReachLemmas.{none_is_without}
use Rattle.subnet_fabric.specs.SetUp.{AreAssigned, IsLaidOut}
use Rattle.updn_routes.specs.Routes.{AreRoutes}
use Rattle.subnet_fabric.proofs.planning.routed.Goals as goal

pub returns-in-Ok-clause-all : goal.returns-in-Ok-clause-all
returns-in-Ok-clause-all c fabric good laid =
    let made = c.in-Ok.ensures in
    let assigned : AreAssigned c.args.graph c.in_ok-lids.lids = record { lids = c.in_ok-lids.ensures.lids; order = c.in_ok-lids.ensures.order } in (
      none_is_without fabric c.args.graph c.in_ok-lids.lids c.args.roots.now c.in-Ok.routes.between good laid assigned made.made made.reached,
      record {
        laid = subst (IsLaidOut fabric) (sym made.graph) laid;
        assigned = rw (made.graph, made.lids) assigned;
        made = rw (made.graph, made.lids) made.made;
        reached = rw (made.graph, made.lids) made.reached;
        chosen = record {
          of = c.known_of_graph.ensures;
          ranks = rw made.graph made.made.ranks_are;
          chosen = subst AreRoutes c.between.ensures c.known_routes.ensures;
        };
      },
    )
