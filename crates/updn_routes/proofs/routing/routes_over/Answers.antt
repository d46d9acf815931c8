use Rattle.std.proofs.Common.{List, subst}
use Rattle.fabric_parts.specs.declared.cable.PortRef.{PortRef}
use Rattle.updn_routes.specs.declared.link.Link.{Link}
use Rattle.updn_routes.specs.Routes.{AllReached, order_of}
use Rattle.updn_routes.proofs.routing.routes_over.Goals as goal

pub returns-in-None-clause-reached : goal.returns-in-None-clause-reached
returns-in-None-clause-reached c =
    let made = c.in_ok-routes.ensures.made in
    subst (λ (r : List (List Link)). AllReached r (order_of c.in_ok-routes.routes) c.args.homes.items) made.rows_are
    (subst (λ (h : List PortRef). AllReached c.in_ok-routes.routes.rows (order_of c.in_ok-routes.routes) h) made.homes_are (c.first_gap.ensures.none c.in-None.is))
