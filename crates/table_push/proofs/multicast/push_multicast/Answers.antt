use Rattle.step_results.proofs.DistinctLemmas.{left_part}
use Rattle.std.proofs.Common.{refl, ℕ, ◌≡◌, ◌==◌, ◌+◌, ◌<◌, ◌∙◌, ap, sym, subst, arith, List, map, length, slice_get, Some, Result, Option, Ok, rules}
use Rattle.std.specs.List.{IsDistinct}
use Rattle.std.proofs.lemmas.Option.{slice_get-get_or}
use Rattle.sweep.specs.Graph.{GraphState, end_guids}
use Rattle.sweep.specs.declared.graph.GraphSwitch.{GraphSwitch}
use Rattle.smp_wire.specs.FabricState.{FabricState}
use Rattle.table_push.specs.Masks.{masks_before, masks_pushed, receives_of, wanted_range}
use Rattle.table_push.specs.Nodes.{with_switches}
use Rattle.table_push.specs.Pushes.{LeadsToSwitch, Leaves}
use Rattle.table_push.specs.declared.fault.PushFault.{PushFault}
use Rattle.table_push.proofs.LeadLemmas.{graph_leads, no_fault}
use Rattle.table_push.proofs.MlidRangeLemmas.{push_begins, push_ends, push_more}
use Rattle.table_push.proofs.multicast.push_multicast.Goals as goal

pub loop-place-init : goal.loop-place-init
loop-place-init g c = record {
  left = λ fabric stands of good. push_begins _ fabric c.args.routes.now c.args.partition (receives_of c.args.receivers.now) (ap g.W.SmpWire.fabric c.new-session.ensures.wire ∙ stands) good;
  same_wire = refl;
}

pub returns-in-Err : goal.returns-in-Err
returns-in-Err g c x stands of good =
    let switches : c.switches-switches.result.now ≡ c.args.routes.now.graph.switches =
    c.switches-switches.ensures ∙ ap (λ (graph : GraphState). graph.switches) c.graph-graph.ensures in
    let long = ap length switches in
    let switch = c.index-switches-place.result in
    let there : slice_get c.args.routes.now.graph.switches c.loop-place.place ≡ Some switch =
    subst (λ (some : List GraphSwitch). slice_get some c.loop-place.place ≡ Some switch) switches
    (slice_get-get_or c.switches-switches.result.now c.loop-place.place switch c.loop-place-test.true ∙ ap (λ (one : GraphSwitch). Some one) (sym c.index-switches-place.is)) in
    let path : c.as_slice.result.now ≡ switch.path = c.as_slice.ensures.value ∙ ap (λ (one : GraphSwitch). one.path) (sym c.index-switches-place.is) in
    let own : IsDistinct (λ a b. a == b) (map (λ one. one.guid) c.args.routes.now.graph.switches) =
    left_part (λ a b. a == b) _ _ (subst (λ (graph : GraphState). IsDistinct (λ a b. a == b) (end_guids graph.switches graph.ports)) c.graph-graph.ensures c.known_graph.ensures.guids) in
    let less : c.loop-place.place < length c.args.routes.now.graph.switches = omega (arith, c.loop-place-test.true, long) in
    let right : c.blocks_of-blocks.result ≡ wanted_range c.args.routes.now c.args.partition (receives_of c.args.receivers.now) c.loop-place.place =
    c.blocks_of-blocks.ensures ∙ c.put_range.ensures c.loop-place.place less in
    absurd (no_fault c.in-Err.fault _ x _ (subst (λ (result : Result (Unit {0}) PushFault). Leaves result (g.W.SmpWire.fabric c.set_range.new.session.wire.now) x (with_switches (masks_before c.args.routes.now c.args.partition (receives_of c.args.receivers.now) (c.loop-place.place + 1)) x)) c.in-Err.is
    (push_more _ _ _ x c.args.routes.now c.args.partition (receives_of c.args.receivers.now) c.loop-place.place switch c.blocks_of-blocks.result
    less there own right
    (graph_leads x c.args.routes.now.graph c.loop-place.place switch of there) (c.loop-place.invariant.left x stands of good)
    (λ fabric is guid well leads. c.set_range.ensures.left fabric is guid well (subst (λ (some : List ℕ). LeadsToSwitch fabric some guid) (sym path) leads)))))

pub loop-place-preserved : goal.loop-place-preserved
loop-place-preserved g c = record {
  left = λ x stands of good.
      let switches : c.switches-switches.result.now ≡ c.args.routes.now.graph.switches =
      c.switches-switches.ensures ∙ ap (λ (graph : GraphState). graph.switches) c.graph-graph.ensures in
      let long = ap length switches in
      let switch = c.index-switches-place.result in
      let there : slice_get c.args.routes.now.graph.switches c.loop-place.place ≡ Some switch =
      subst (λ (some : List GraphSwitch). slice_get some c.loop-place.place ≡ Some switch) switches
      (slice_get-get_or c.switches-switches.result.now c.loop-place.place switch c.loop-place-test.true ∙ ap (λ (one : GraphSwitch). Some one) (sym c.index-switches-place.is)) in
      let path : c.as_slice.result.now ≡ switch.path = c.as_slice.ensures.value ∙ ap (λ (one : GraphSwitch). one.path) (sym c.index-switches-place.is) in
      let own : IsDistinct (λ a b. a == b) (map (λ one. one.guid) c.args.routes.now.graph.switches) =
      left_part (λ a b. a == b) _ _ (subst (λ (graph : GraphState). IsDistinct (λ a b. a == b) (end_guids graph.switches graph.ports)) c.graph-graph.ensures c.known_graph.ensures.guids) in
      let less : c.loop-place.place < length c.args.routes.now.graph.switches = omega (arith, c.loop-place-test.true, long) in
      let right : c.blocks_of-blocks.result ≡ wanted_range c.args.routes.now c.args.partition (receives_of c.args.receivers.now) c.loop-place.place =
      c.blocks_of-blocks.ensures ∙ c.put_range.ensures c.loop-place.place less in
      (push_more _ _ _ x c.args.routes.now c.args.partition (receives_of c.args.receivers.now) c.loop-place.place switch c.blocks_of-blocks.result
      less there own right
      (graph_leads x c.args.routes.now.graph c.loop-place.place switch of there) (c.loop-place.invariant.left x stands of good)
      (λ fabric is guid well leads. c.set_range.ensures.left fabric is guid well (subst (λ (some : List ℕ). LeadsToSwitch fabric some guid) (sym path) leads))).stands;
  same_wire = c.set_range.ensures.same_wire ∙ c.loop-place.invariant.same_wire;
}

pub returns : goal.returns
returns g c x stands of good =
    let long = ap (λ (graph : GraphState). length graph.switches) c.graph-graph.ensures in
    let count = ap length c.switches-switches.ensures in
    let all = push_ends _ x c.args.routes.now c.args.partition (receives_of c.args.receivers.now) c.loop-place.place (omega (arith, c.loop-place-test.false, c.loop-place.auto.place-end, long, count)) (c.loop-place.invariant.left x stands of good) in
    subst (λ (next : Option FabricState). Leaves (Ok (tt {0})) next x (masks_pushed c.args.routes.now c.args.partition (receives_of c.args.receivers.now) x)) (search rules) all
