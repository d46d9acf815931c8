use Rattle.std.proofs.Common.{refl, ◌∙◌, ap, arith, length, sym}
use Rattle.sweep.specs.Graph.{GraphState}
use Rattle.sweep.specs.declared.graph.GraphSwitch.{GraphSwitch}
use Rattle.table_push.proofs.CableLemmas.{place_within, switch_at}
use Rattle.table_push.proofs.LeadLemmas.{graph_leads, no_fault}
use Rattle.table_push.proofs.TopLemmas.{greatest, top_along, tops_begin, tops_end, tops_more}
use Rattle.table_push.proofs.tops.set_tops.Goals as goal

pub loop-place-init : goal.loop-place-init
loop-place-init g c = record {
  left = λ fabric stands of good. tops_begin _ fabric (length c.args.routes.now.lids) c.args.routes.now.graph.switches stands good;
  same_wire = refl;
}

pub returns-in-Err-clause-left : goal.returns-in-Err-clause-left
returns-in-Err-clause-left g c x stands of good =
    let graph = c.args.routes.now.graph in
    let switch = c.index-switches-place.result in
    let within = place_within graph c.graph-graph.result.now c.switches-switches.result.now c.loop-place.place c.graph-graph.ensures c.switches-switches.ensures c.loop-place-test.true in
    let home = switch_at graph c.graph-graph.result.now c.switches-switches.result.now c.loop-place.place _ switch c.graph-graph.ensures c.switches-switches.ensures
    c.loop-place-test.true c.index-switches-place.is in
    let path = c.as_slice-path.ensures.value ∙ ap (λ (one : GraphSwitch). one.path) (sym c.index-switches-place.is) in
    let lid = greatest graph c.graph-graph.result.now c.switches-switches.result.now c.ports.result.now c.args.routes.now.lids c.known_of_graph.ensures.lids_are
    c.graph-graph.ensures c.switches-switches.ensures c.ports.ensures in
    absurd (no_fault c.in-Err.fault _ x _
    (tops_more _ _ _ x (length c.args.routes.now.lids) c.loop-place.place graph.switches switch within home (graph_leads x graph c.loop-place.place switch of home)
    (c.loop-place.invariant.left x stands of good) (top_along _ _ _ _ _ _ _ path lid c.in-Err.ensures.left)))

pub loop-place-preserved : goal.loop-place-preserved
loop-place-preserved g c = record {
  left = λ x stands of good.
      let graph = c.args.routes.now.graph in
      let switch = c.index-switches-place.result in
      let within = place_within graph c.graph-graph.result.now c.switches-switches.result.now c.loop-place.place c.graph-graph.ensures c.switches-switches.ensures c.loop-place-test.true in
      let home = switch_at graph c.graph-graph.result.now c.switches-switches.result.now c.loop-place.place _ switch c.graph-graph.ensures c.switches-switches.ensures
      c.loop-place-test.true c.index-switches-place.is in
      let path = c.as_slice-path.ensures.value ∙ ap (λ (one : GraphSwitch). one.path) (sym c.index-switches-place.is) in
      let lid = greatest graph c.graph-graph.result.now c.switches-switches.result.now c.ports.result.now c.args.routes.now.lids c.known_of_graph.ensures.lids_are
      c.graph-graph.ensures c.switches-switches.ensures c.ports.ensures in
      (tops_more _ _ _ x (length c.args.routes.now.lids) c.loop-place.place graph.switches switch within home (graph_leads x graph c.loop-place.place switch of home)
      (c.loop-place.invariant.left x stands of good) (top_along _ _ _ _ _ _ _ path lid c.in-Ok.ensures.left)).stands;
  same_wire = c.set_top.ensures.same_wire ∙ c.loop-place.invariant.same_wire;
}

pub returns-clause-left : goal.returns-clause-left
returns-clause-left g c x stands of good =
    let count = ap length c.switches-switches.ensures in
    let long = ap (λ (graph : GraphState). length graph.switches) c.graph-graph.ensures in
    tops_end _ x c.args.routes.now.graph (length c.args.routes.now.lids) c.loop-place.place of
    (omega (arith, c.loop-place-test.false, c.loop-place.auto.place-end, count, long)) (c.loop-place.invariant.left x stands of good)
