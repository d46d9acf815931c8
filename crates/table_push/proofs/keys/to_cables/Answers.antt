use Rattle.std.proofs.Common.{◌∙◌, refl, ◌<◌, ap, arith, get_or, length}
use Rattle.std.proofs.lemmas.Option.{slice_get-get_or}
use Rattle.sweep.specs.Graph.{GraphState}
use Rattle.sweep.proofs.AdapterLemmas.{no_port}
use Rattle.table_push.proofs.CableLemmas.{at_first, cables_begin, cables_end, cables_more}
use Rattle.table_push.proofs.LeadLemmas.{no_fault}
use Rattle.table_push.proofs.keys.to_cables.Goals as goal

pub loop-place-init : goal.loop-place-init
loop-place-init g c = record {
  left = λ fabric of good stands. cables_begin _ fabric c.args.routes.now c.args.keys.now stands;
  same_wire = refl;
}

pub returns-in-Err-clause-left : goal.returns-in-Err-clause-left
returns-in-Err-clause-left g c fabric of good stands =
    let ports = c.args.routes.now.graph.ports in
    let place = c.loop-place.place in
    let within : place < length ports =
    omega (arith, c.loop-place-test.true, ap length c.ports-place-end.ensures, ap (λ (graph : GraphState). length graph.ports) c.graph-graph.ensures) in
    absurd (no_fault c.in-Err.fault _ fabric _
    (c.in-Err.ensures.left fabric (at_first c.args.routes.now place) (get_or ports place no_port) of good (slice_get-get_or ports place no_port within)
    (c.loop-place.invariant.left fabric of good stands)))

pub loop-place-preserved : goal.loop-place-preserved
loop-place-preserved g c = record {
  left = λ fabric of good stands.
      let ports = c.args.routes.now.graph.ports in
      let place = c.loop-place.place in
      let within : place < length ports =
      omega (arith, c.loop-place-test.true, ap length c.ports-place-end.ensures, ap (λ (graph : GraphState). length graph.ports) c.graph-graph.ensures) in
      let there = slice_get-get_or ports place no_port within in
      (cables_more _ _ fabric c.args.routes.now c.args.keys.now place (get_or ports place no_port) within there
      (c.in-Ok.ensures.left fabric (at_first c.args.routes.now place) (get_or ports place no_port) of good there (c.loop-place.invariant.left fabric of good stands))).stands;
  same_wire = c.to_cable.ensures.same_wire ∙ c.loop-place.invariant.same_wire;
}

pub returns-clause-left : goal.returns-clause-left
returns-clause-left g c fabric of good stands =
    let long = ap (λ (graph : GraphState). length graph.ports) c.graph-graph.ensures in
    let count = ap length c.ports-place-end.ensures in
    cables_end _ fabric c.args.routes.now c.args.keys.now c.loop-place.place (omega (arith, c.loop-place-test.false, c.loop-place.auto.place-end, long, count))
    (c.loop-place.invariant.left fabric of good stands)
