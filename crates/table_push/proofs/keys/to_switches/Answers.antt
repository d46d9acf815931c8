use Rattle.std.proofs.Common.{◌∙◌, refl, ap, arith, length}
use Rattle.sweep.specs.Graph.{GraphState, IsGraph}
use Rattle.std.proofs.Common.{subst}
use Rattle.table_push.proofs.CableLemmas.{place_within, puts_along, switch_at, switches_begin, switches_end, switches_more}
use Rattle.table_push.proofs.LeadLemmas.{no_fault}
use Rattle.table_push.proofs.keys.to_switches.Goals as goal

pub loop-place-init : goal.loop-place-init
loop-place-init g c = record {
  left = λ fabric stands of good. switches_begin _ fabric c.args.routes.now c.args.keys.now stands good;
  same_wire = refl;
}

pub returns-in-Err-clause-left : goal.returns-in-Err-clause-left
returns-in-Err-clause-left g c x stands of good =
    let switch = c.index-switches-place.result in
    let there = switch_at c.args.routes.now.graph c.graph-graph.result.now c.switches-switches.result.now c.loop-place.place _ switch c.graph-graph.ensures
    c.switches-switches.ensures c.loop-place-test.true c.index-switches-place.is in
    let within = place_within c.args.routes.now.graph c.graph-graph.result.now c.switches-switches.result.now c.loop-place.place c.graph-graph.ensures
    c.switches-switches.ensures c.loop-place-test.true in
    let path = c.as_slice.ensures.value in
    absurd (no_fault c.in-Err.fault _ x _
    (switches_more _ _ _ x c.args.routes.now c.args.keys.now c.loop-place.place switch c.table_of-table.result (subst IsGraph c.graph-graph.ensures c.known_graph.ensures) of within there
    c.table_of-table.ensures (c.loop-place.invariant.left x stands of good) (puts_along _ _ _ _ _ 0 c.table_of-table.result path c.in-Err.ensures.left)))

pub loop-place-preserved : goal.loop-place-preserved
loop-place-preserved g c = record {
  left = λ x stands of good.
      let switch = c.index-switches-place.result in
      let there = switch_at c.args.routes.now.graph c.graph-graph.result.now c.switches-switches.result.now c.loop-place.place _ switch c.graph-graph.ensures
      c.switches-switches.ensures c.loop-place-test.true c.index-switches-place.is in
      let within = place_within c.args.routes.now.graph c.graph-graph.result.now c.switches-switches.result.now c.loop-place.place c.graph-graph.ensures
      c.switches-switches.ensures c.loop-place-test.true in
      let path = c.as_slice.ensures.value in
      (switches_more _ _ _ x c.args.routes.now c.args.keys.now c.loop-place.place switch c.table_of-table.result (subst IsGraph c.graph-graph.ensures c.known_graph.ensures) of within there
      c.table_of-table.ensures (c.loop-place.invariant.left x stands of good) (puts_along _ _ _ _ _ 0 c.table_of-table.result path c.in-Ok.ensures.left)).stands;
  same_wire = c.set_some.ensures.same_wire ∙ c.loop-place.invariant.same_wire;
}

pub returns-clause-left : goal.returns-clause-left
returns-clause-left g c x stands of good =
    let long = ap (λ (graph : GraphState). length graph.switches) c.graph-graph.ensures in
    let count = ap length c.switches-switches.ensures in
    switches_end _ x c.args.routes.now c.args.keys.now c.loop-place.place (omega (arith, c.loop-place-test.false, c.loop-place.auto.place-end, long, count))
    (c.loop-place.invariant.left x stands of good)
