use Rattle.std.proofs.Common.{ap, arith, length, subst}
use Rattle.sweep.specs.Graph.{GraphState, IsGraph}
use Rattle.table_push.proofs.CableLemmas.{switch_at}
use Rattle.table_push.proofs.LeadLemmas.{no_fault}
use Rattle.table_push.proofs.PortCableLemmas.{changes_along, own_change, own_reported, switch_reported}
use Rattle.table_push.proofs.ports.to_switch.Goals as goal

pub returns-in-Err-clause-left : goal.returns-in-Err-clause-left
returns-in-Err-clause-left g c fabric there of good shows stands =
    let graph = c.args.routes.now.graph in
    let home = switch_at graph c.graph-graph.result.now c.switches.result.now c.args.place _ c.index-switches-place.result c.graph-graph.ensures c.switches.ensures
    (omega (arith, c.requires, ap length c.switches.ensures, ap (λ (g : GraphState). length g.switches) c.graph-graph.ensures)) c.index-switches-place.is in
    absurd (no_fault c.in-Err.fault _ fabric _
    (own_reported _ _ _ _ fabric c.args.routes.now there c.args.place c.index-switches-place.result _ good shows (subst IsGraph c.graph-graph.ensures c.known_graph.ensures) of home
    (omega (arith, c.known_distinct.ensures.few, ap length c.lids-lids.ensures)) (own_change c.index-switches-place.result.guid _ _ _ c.lid_of.ensures c.lids-lids.ensures) stands
    (changes_along _ _ _ _ _ _ _ _ c.as_slice-path.ensures.value c.in-Err.ensures.left)))

pub returns-clause-left : goal.returns-clause-left
returns-clause-left g c fabric there of good shows stands =
    let graph = c.args.routes.now.graph in
    let home = switch_at graph c.graph-graph.result.now c.switches.result.now c.args.place _ c.index-switches-place.result c.graph-graph.ensures c.switches.ensures
    (omega (arith, c.requires, ap length c.switches.ensures, ap (λ (g : GraphState). length g.switches) c.graph-graph.ensures)) c.index-switches-place.is in
    let own = own_reported _ _ _ _ fabric c.args.routes.now there c.args.place c.index-switches-place.result _ good shows (subst IsGraph c.graph-graph.ensures c.known_graph.ensures) of home
    (omega (arith, c.known_distinct.ensures.few, ap length c.lids-lids.ensures)) (own_change c.index-switches-place.result.guid _ _ _ c.lid_of.ensures c.lids-lids.ensures) stands
    (changes_along _ _ _ _ _ _ _ _ c.as_slice-path.ensures.value c.in-Ok.ensures.left) in
    switch_reported _ _ _ fabric c.args.routes.now there c.args.place (c.to_links.ensures.left fabric _ of good shows own.stands)
