use Rattle.std.proofs.Common.{◌<◌, ◌∙◌, ap, arith, get_or, length, refl}
use Rattle.std.proofs.lemmas.Option.{slice_get-get_or}
use Rattle.sweep.specs.Graph.{GraphState}
use Rattle.sweep.proofs.AdapterLemmas.{no_port}
use Rattle.table_push.proofs.LeadLemmas.{no_fault}
use Rattle.table_push.proofs.PortCableLemmas.{at_first, cables_begin, cables_end, cables_more}
use Rattle.table_push.proofs.SettingLemmas.{all_do, counts_none, counts_one}
use Rattle.table_push.proofs.ports.to_cables.Goals as goal

pub loop-place-init : goal.loop-place-init
loop-place-init g c = record {
  few = omega arith;
  all = λ fabric of good shows stands. (refl, cables_begin c.args.round _ fabric c.args.routes.now stands);
  same_wire = refl;
}

pub returns-in-Err-clause-left : goal.returns-in-Err-clause-left
returns-in-Err-clause-left g c fabric of good shows stands =
    let ports = c.args.routes.now.graph.ports in
    let place = c.loop-place.place in
    let within : place < length ports =
    omega (arith, c.loop-place-test.true, ap length c.ports-place-end.ensures, ap (λ (graph : GraphState). length graph.ports) c.graph-graph.ensures) in
    absurd (no_fault c.in-Err.fault _ fabric _
    (c.in-Err.ensures.left (get_or ports place no_port) (slice_get-get_or ports place no_port within) fabric (at_first c.args.routes.now place) of good shows
    (c.loop-place.invariant.all fabric of good shows stands).1))

pub overflow_add-count : goal.overflow_add-count
overflow_add-count g c =
    let few = c.loop-place.invariant.few in
    let one = counts_one c.in-Ok.taken in
    omega (arith, few, one, c.count-count.ensures, c.loop-place-test.true)

pub loop-place-preserved : goal.loop-place-preserved
loop-place-preserved g c =
    let few = c.loop-place.invariant.few in
    let one = counts_one c.in-Ok.taken in
    record {
      few = omega (arith, few, one, c.count-count.ensures);
      all = λ fabric of good shows stands.
          let ports = c.args.routes.now.graph.ports in
          let place = c.loop-place.place in
          let within : place < length ports =
          omega (arith, c.loop-place-test.true, ap length c.ports-place-end.ensures, ap (λ (graph : GraphState). length graph.ports) c.graph-graph.ensures) in
          let there = slice_get-get_or ports place no_port within in
          let before = c.loop-place.invariant.all fabric of good shows stands in
          let leaves = c.in-Ok.ensures.left (get_or ports place no_port) there fabric (at_first c.args.routes.now place) of good shows before.1 in
          let none = before.0 in
          let no_more = counts_none c.in-Ok.taken leaves.done in (
            omega (arith, none, no_more, c.count-count.ensures),
            (cables_more _ _ _ fabric c.args.routes.now place (get_or ports place no_port) within there leaves).stands,
          );
      same_wire = c.to_cable.ensures.same_wire ∙ c.loop-place.invariant.same_wire;
    }

pub returns-clause-left : goal.returns-clause-left
returns-clause-left g c fabric of good shows stands =
    let all = c.loop-place.invariant.all fabric of good shows stands in
    let long = ap (λ (graph : GraphState). length graph.ports) c.graph-graph.ensures in
    let count = ap length c.ports-place-end.ensures in
    all_do _ _ fabric _ all.0
    (cables_end _ _ fabric c.args.routes.now c.loop-place.place (omega (arith, c.loop-place-test.false, c.loop-place.auto.place-end, long, count)) all.1)

pub returns-clause-few : goal.returns-clause-few
returns-clause-few g c =
    let long = ap (λ (graph : GraphState). length graph.ports) c.graph-graph.ensures in
    let count = ap length c.ports-place-end.ensures in
    let few = c.loop-place.invariant.few in
    omega (arith, few, c.loop-place.auto.place-end, long, count)
