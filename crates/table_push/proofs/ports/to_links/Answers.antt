use Rattle.std.proofs.Common.{refl, ◌∙◌, ap, arith, get_or, length, subst, sym}
use Rattle.std.proofs.lemmas.Option.{slice_get-get_or}
use Rattle.sweep.specs.Graph.{GraphState, IsGraph}
use Rattle.sweep.specs.declared.graph.GraphSwitch.{GraphSwitch}
use Rattle.table_push.specs.Keys.{guid_of}
use Rattle.table_push.proofs.CableLemmas.{switch_at}
use Rattle.table_push.proofs.LeadLemmas.{no_fault}
use Rattle.table_push.proofs.PortCableLemmas.{changes_along, links_begin, links_end, links_more, no_link, row_at, row_within}
use Rattle.table_push.proofs.ports.to_links.Goals as goal

pub loop-index-init : goal.loop-index-init
loop-index-init g c = record {
  left = λ fabric there of good shows stands. links_begin c.args.round _ fabric c.args.routes.now there (guid_of c.args.routes.now.graph.switches c.args.place) stands;
  same_wire = refl;
}

pub returns-in-Err-clause-left : goal.returns-in-Err-clause-left
returns-in-Err-clause-left g c fabric there of good shows stands =
    let graph = c.args.routes.now.graph in
    let given = c.graph-graph.result.now in
    let within = row_within graph given c.rows.result.now c.args.place c.known_graph.ensures c.graph-graph.ensures c.rows.ensures c.requires in
    let home = switch_at graph given c.switches.result.now c.args.place _ c.index-switches-place.result c.graph-graph.ensures c.switches.ensures
    (omega (arith, c.requires, ap length c.switches.ensures, ap (λ (g : GraphState). length g.switches) c.graph-graph.ensures)) c.index-switches-place.is in
    let has = row_at graph given c.rows.result.now c.args.place _ c.index-rows-place.result c.as_slice-links.result.now c.graph-graph.ensures c.rows.ensures within
    c.index-rows-place.is c.as_slice-links.ensures in
    absurd (no_fault c.in-Err.fault _ fabric _
    (links_more _ _ _ _ fabric c.args.routes.now there c.args.place c.loop-index.index c.index-switches-place.result c.as_slice-links.result.now
    (get_or c.as_slice-links.result.now c.loop-index.index no_link) good shows (subst IsGraph c.graph-graph.ensures c.known_graph.ensures) of home has
    (slice_get-get_or c.as_slice-links.result.now c.loop-index.index no_link c.loop-index-test.true) c.loop-index-test.true
    (c.loop-index.invariant.left fabric there of good shows stands)
    (changes_along _ _ _ _ _ _ _ _ (c.as_slice-path.ensures.value ∙ ap (λ (one : GraphSwitch). one.path) (sym c.index-switches-place.is)) c.in-Err.ensures.left)))

pub loop-index-preserved : goal.loop-index-preserved
loop-index-preserved g c = record {
  left = λ fabric there of good shows stands.
      let graph = c.args.routes.now.graph in
      let given = c.graph-graph.result.now in
      let within = row_within graph given c.rows.result.now c.args.place c.known_graph.ensures c.graph-graph.ensures c.rows.ensures c.requires in
      let home = switch_at graph given c.switches.result.now c.args.place _ c.index-switches-place.result c.graph-graph.ensures c.switches.ensures
      (omega (arith, c.requires, ap length c.switches.ensures, ap (λ (g : GraphState). length g.switches) c.graph-graph.ensures)) c.index-switches-place.is in
      let has = row_at graph given c.rows.result.now c.args.place _ c.index-rows-place.result c.as_slice-links.result.now c.graph-graph.ensures c.rows.ensures within
      c.index-rows-place.is c.as_slice-links.ensures in
      (links_more _ _ _ _ fabric c.args.routes.now there c.args.place c.loop-index.index c.index-switches-place.result c.as_slice-links.result.now
      (get_or c.as_slice-links.result.now c.loop-index.index no_link) good shows (subst IsGraph c.graph-graph.ensures c.known_graph.ensures) of home has
      (slice_get-get_or c.as_slice-links.result.now c.loop-index.index no_link c.loop-index-test.true) c.loop-index-test.true
      (c.loop-index.invariant.left fabric there of good shows stands)
      (changes_along _ _ _ _ _ _ _ _ (c.as_slice-path.ensures.value ∙ ap (λ (one : GraphSwitch). one.path) (sym c.index-switches-place.is)) c.in-Ok.ensures.left)).stands;
  same_wire = c.set_port.ensures.same_wire ∙ c.loop-index.invariant.same_wire;
}

pub returns-clause-left : goal.returns-clause-left
returns-clause-left g c fabric there of good shows stands =
    let graph = c.args.routes.now.graph in
    let given = c.graph-graph.result.now in
    let within = row_within graph given c.rows.result.now c.args.place c.known_graph.ensures c.graph-graph.ensures c.rows.ensures c.requires in
    let has = row_at graph given c.rows.result.now c.args.place _ c.index-rows-place.result c.as_slice-links.result.now c.graph-graph.ensures c.rows.ensures within
    c.index-rows-place.is c.as_slice-links.ensures in
    links_end _ _ fabric c.args.routes.now there c.args.place c.loop-index.index c.as_slice-links.result.now has
    (omega (arith, c.loop-index-test.false, c.loop-index.auto.index-end)) (c.loop-index.invariant.left fabric there of good shows stands)
