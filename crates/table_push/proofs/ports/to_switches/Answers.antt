use Rattle.std.proofs.Common.{◌∙◌, refl, ap, arith, length}
use Rattle.sweep.specs.Graph.{GraphState}
use Rattle.table_push.specs.Ports.{at_switches_before}
use Rattle.table_push.proofs.LeadLemmas.{no_fault}
use Rattle.table_push.proofs.PortCableLemmas.{switches_begin, switches_end, switches_more}
use Rattle.table_push.proofs.ports.to_switches.Goals as goal

pub loop-place-init : goal.loop-place-init
loop-place-init g c = record {
  left = λ fabric stands of good shows. switches_begin c.args.round _ fabric c.args.routes.now stands good;
  same_wire = refl;
}

pub returns-in-Err-clause-left : goal.returns-in-Err-clause-left
returns-in-Err-clause-left g c x stands of good shows =
    absurd (no_fault c.in-Err.fault _ x _
    (c.in-Err.ensures.left x (at_switches_before c.args.routes.now.graph c.loop-place.place) of good shows (c.loop-place.invariant.left x stands of good shows)))

pub loop-place-preserved : goal.loop-place-preserved
loop-place-preserved g c = record {
  left = λ x stands of good shows.
      (switches_more _ _ _ x c.args.routes.now c.loop-place.place
      (c.in-Ok.ensures.left x (at_switches_before c.args.routes.now.graph c.loop-place.place) of good shows (c.loop-place.invariant.left x stands of good shows))).stands;
  same_wire = c.to_switch.ensures.same_wire ∙ c.loop-place.invariant.same_wire;
}

pub returns-clause-left : goal.returns-clause-left
returns-clause-left g c x stands of good shows =
    let long = ap (λ (graph : GraphState). length graph.switches) c.graph-graph.ensures in
    let count = ap length c.switches-place-end.ensures in
    switches_end _ _ x c.args.routes.now c.loop-place.place (length c.args.routes.now.graph.switches)
    (omega (arith, c.loop-place-test.false, c.loop-place.auto.place-end, long, count)) (c.loop-place.invariant.left x stands of good shows)
