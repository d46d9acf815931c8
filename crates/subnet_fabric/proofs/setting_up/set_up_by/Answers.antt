use Rattle.std.proofs.Common.{ap, Some}
use Rattle.std.proofs.lemmas.Option.{same_Some}
use Rattle.smp_wire.specs.FabricState.{FabricState}
use Rattle.std.proofs.lemmas.Result.{err_from_is_err_and}
use Rattle.subnet_fabric.proofs.RootLemmas.{are_named}
use Rattle.subnet_fabric.proofs.setting_up.set_up_by.Goals as goal

pub returns-in_err-graph-clause-all : goal.returns-in_err-graph-clause-all
returns-in_err-graph-clause-all c =
    let given = err_from_is_err_and c.from_residual.result c.from_residual.ensures.1 in
    rw (given.1, given.2) (c.in_err-graph.ensures.fault c.args.roots.now, c.graph_of.ensures.left)

pub routes_by-requires-clause-named : goal.routes_by-requires-clause-named
routes_by-requires-clause-named c =
    are_named c.args.fabric.now c.in_ok-graph.graph c.args.roots.now c.in_ok-graph.ensures.found.of.layout c.requires.roots

pub known_to_lead_home-requires : goal.known_to_lead_home-requires
known_to_lead_home-requires c = (c.in_ok-routes.ensures.all c.args.fabric.now c.in_ok-graph.ensures.found c.requires.planned).reached

pub returns-in-Ok-clause-all : goal.returns-in-Ok-clause-all
returns-in-Ok-clause-all c =
    let are = c.in_ok-routes.ensures.all c.args.fabric.now c.in_ok-graph.ensures.found c.requires.planned in
    let leaves = c.push_all.ensures c.args.fabric.now (ap (λ (fabric : FabricState). Some fabric) c.graph_of.ensures.left)
    are.found.of c.requires.swept.good c.requires.swept.links in
    record { are = are; home = c.known_to_lead_home.ensures; pushed = leaves.pushed; is = same_Some _ _ leaves.stands }
