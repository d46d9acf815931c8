use Rattle.step_results.proofs.DistinctLemmas.{left_part}
use Rattle.std.proofs.Common.{ℕ, ◌≡◌, ◌==◌, ◌+◌, ◌<◌, ◌∙◌, ap, refl, sym, subst, arith, List, map, length, slice_get, Some, Result, Option}
use Rattle.std.specs.List.{IsDistinct, range_with_len, sum_by}
use Rattle.std.specs.Result.{IsOk}
use Rattle.std.proofs.lemmas.Bool.{false≢true}
use Rattle.std.proofs.lemmas.Option.{slice_get-get_or}
use Rattle.sweep.specs.Graph.{GraphState, end_guids}
use Rattle.sweep.specs.declared.graph.GraphSwitch.{GraphSwitch}
use Rattle.table_push.specs.Changes.{blocks_changed, changed_at}
use Rattle.table_push.specs.Masks.{receives_of, wanted_range, masks_before}
use Rattle.table_push.specs.Nodes.{with_switches}
use Rattle.table_push.specs.Pushes.{Stands}
use Rattle.smp_wire.specs.FabricState.{FabricState}
use Rattle.table_push.specs.declared.fault.PushFault.{PushFault}
use Rattle.table_push.proofs.PortLemmas.{element}
use Rattle.table_push.proofs.ChangedLemmas.{more_counted, none_changed, place_more, place_stays}
use Rattle.table_push.proofs.MlidRangeLemmas.{push_begins, push_ends}
use Rattle.table_push.proofs.changes.push_blocks.Goals.{then-is_marked+in-Ok, else-is_marked}
use Rattle.table_push.proofs.changes.push_blocks.Goals as goal

pub loop-place-init : goal.loop-place-init
loop-place-init g c = record {
  stands = λ fabric stands of good has. push_begins _ fabric c.args.routes.now c.args.change.partition (receives_of c.args.change.after.now) stands good;
  counted = refl;
  few = omega arith;
  same_wire = refl;
}

pub returns-in-Err-clause-pushed : goal.returns-in-Err-clause-pushed
returns-in-Err-clause-pushed g c x stands of good slice =
    let switches : c.switches-switches.result.now ≡ c.args.routes.now.graph.switches =
    c.switches-switches.ensures ∙ ap (λ (graph : GraphState). graph.switches) c.graph-graph.ensures in
    let long = ap length switches in
    let switch = c.index-switches-place.result in
    let there : slice_get c.args.routes.now.graph.switches c.loop-place.place ≡ Some switch =
    subst (λ (some : List GraphSwitch). slice_get some c.loop-place.place ≡ Some switch) switches
    (slice_get-get_or c.switches-switches.result.now c.loop-place.place switch c.loop-place-test.true ∙ ap (λ (one : GraphSwitch). Some one) (sym c.index-switches-place.is)) in
    let path : c.as_slice-path.result.now ≡ switch.path = c.as_slice-path.ensures.value ∙ ap (λ (one : GraphSwitch). one.path) (sym c.index-switches-place.is) in
    let own : IsDistinct (λ a b. a == b) (map (λ one. one.guid) c.args.routes.now.graph.switches) =
    left_part (λ a b. a == b) _ _ (subst (λ (graph : GraphState). IsDistinct (λ a b. a == b) (end_guids graph.switches graph.ports)) c.graph-graph.ensures c.known_graph.ensures.guids) in
    let less : c.loop-place.place < length c.args.routes.now.graph.switches = omega (arith, c.loop-place-test.true, long) in
    let had : c.at-blocks_before.result ≡ wanted_range c.args.routes.now c.args.change.partition (receives_of c.args.change.before.now) c.loop-place.place =
    c.at-blocks_before.ensures in
    let has : c.at-blocks_after.result ≡ wanted_range c.args.routes.now c.args.change.partition (receives_of c.args.change.after.now) c.loop-place.place =
    c.at-blocks_after.ensures in
    let leaves = place_more _ _ _ x c.args.routes.now c.args.change.partition (receives_of c.args.change.before.now) (receives_of c.args.change.after.now) c.loop-place.place switch c.as_slice-path.result.now
    c.at-blocks_before.result c.at-blocks_after.result less there own path had has of slice (c.loop-place.invariant.stands x stands of good slice) c.set_changed.ensures.pushed in
    absurd (false≢true (subst (λ (result : Result ℕ PushFault). IsOk result) c.in-Err.is leaves.done))

pub loop-place-preserved : goal.loop-place-preserved
loop-place-preserved g c =
    let test = changed_at c.args.routes.now c.args.change.partition (receives_of c.args.change.before.now) (receives_of c.args.change.after.now) in
    elim c.if-is_marked.branch [
      | then-is_marked+in-Ok w ↦
          let switches : c.switches-switches.result.now ≡ c.args.routes.now.graph.switches =
          c.switches-switches.ensures ∙ ap (λ (graph : GraphState). graph.switches) c.graph-graph.ensures in
          let long = ap length switches in
          let switch = w.index-switches-place.result in
          let there : slice_get c.args.routes.now.graph.switches c.loop-place.place ≡ Some switch =
          subst (λ (some : List GraphSwitch). slice_get some c.loop-place.place ≡ Some switch) switches
          (slice_get-get_or c.switches-switches.result.now c.loop-place.place switch c.loop-place-test.true ∙ ap (λ (one : GraphSwitch). Some one) (sym w.index-switches-place.is)) in
          let path : w.as_slice-path.result.now ≡ switch.path = w.as_slice-path.ensures.value ∙ ap (λ (one : GraphSwitch). one.path) (sym w.index-switches-place.is) in
          let own : IsDistinct (λ a b. a == b) (map (λ one. one.guid) c.args.routes.now.graph.switches) =
          left_part (λ a b. a == b) _ _ (subst (λ (graph : GraphState). IsDistinct (λ a b. a == b) (end_guids graph.switches graph.ports)) c.graph-graph.ensures c.known_graph.ensures.guids) in
          let less : c.loop-place.place < length c.args.routes.now.graph.switches = omega (arith, c.loop-place-test.true, long) in
          let had : w.at-blocks_before.result ≡ wanted_range c.args.routes.now c.args.change.partition (receives_of c.args.change.before.now) c.loop-place.place =
          w.at-blocks_before.ensures in
          let has : w.at-blocks_after.result ≡ wanted_range c.args.routes.now c.args.change.partition (receives_of c.args.change.after.now) c.loop-place.place =
          w.at-blocks_after.ensures in
          record {
            stands = λ fabric stands of good slice.
                subst (λ (stood : Option FabricState). Stands stood fabric (with_switches (masks_before c.args.routes.now c.args.change.partition (receives_of c.args.change.after.now) (c.loop-place.place + 1)) fabric))
                (ap (λ session. g.W.SmpWire.fabric session.wire.now) (sym w.session-is))
                (place_more _ _ _ fabric c.args.routes.now c.args.change.partition (receives_of c.args.change.before.now) (receives_of c.args.change.after.now) c.loop-place.place switch w.as_slice-path.result.now
                w.at-blocks_before.result w.at-blocks_after.result less there own path had has of slice (c.loop-place.invariant.stands fabric stands of good slice)
                w.set_changed.ensures.pushed).stands;
            counted = w.count-is ∙ more_counted test c.loop-place.count c.loop-place.place w.in-Ok.more (w.in-Ok.ensures.count ∙ (λ i. blocks_changed (had i) (has i))) c.loop-place.invariant.counted;
            few = omega (arith, w.count-is, c.loop-place.invariant.few, w.in-Ok.ensures.few);
            same_wire = ap (λ session. session.wire.ghost_name) w.session-is ∙ w.set_changed.ensures.same_wire ∙ c.loop-place.invariant.same_wire;
          }
      | else-is_marked w ↦
          let switches : c.switches-switches.result.now ≡ c.args.routes.now.graph.switches =
          c.switches-switches.ensures ∙ ap (λ (graph : GraphState). graph.switches) c.graph-graph.ensures in
          let long = ap length switches in
          let own : IsDistinct (λ a b. a == b) (map (λ one. one.guid) c.args.routes.now.graph.switches) =
          left_part (λ a b. a == b) _ _ (subst (λ (graph : GraphState). IsDistinct (λ a b. a == b) (end_guids graph.switches graph.ports)) c.graph-graph.ensures c.known_graph.ensures.guids) in
          let less : c.loop-place.place < length c.args.routes.now.graph.switches = omega (arith, c.loop-place-test.true, long) in
          let there = element c.args.routes.now.graph.switches c.loop-place.place less in
          let graph_long = ap (λ (graph : GraphState). length graph.switches) c.graph-graph.ensures in
          let low : c.loop-place.place < 64 = omega (arith, less, c.known_graph.ensures.few_switches, graph_long) in
          let same : wanted_range c.args.routes.now c.args.change.partition (receives_of c.args.change.before.now) c.loop-place.place
          ≡ wanted_range c.args.routes.now c.args.change.partition (receives_of c.args.change.after.now) c.loop-place.place =
          c.requires.of.marked c.loop-place.place low (sym c.is_marked.ensures ∙ w.if-is_marked.false) in
          let none : test c.loop-place.place ≡ 0 = none_changed _ _ same in
          let zero : c.loop-place.count ≡ c.loop-place.count + 0 = omega arith in
          record {
            stands = λ fabric stands of good slice.
                subst (λ (stood : Option FabricState). Stands stood fabric (with_switches (masks_before c.args.routes.now c.args.change.partition (receives_of c.args.change.after.now) (c.loop-place.place + 1)) fabric))
                (ap (λ session. g.W.SmpWire.fabric session.wire.now) (sym w.session-is))
                (place_stays _ fabric c.args.routes.now c.args.change.partition (receives_of c.args.change.before.now) (receives_of c.args.change.after.now) c.loop-place.place there.0 less there.1 own same slice
                (c.loop-place.invariant.stands fabric stands of good slice));
            counted = w.count-is ∙ zero ∙ more_counted test c.loop-place.count c.loop-place.place 0 (sym none) c.loop-place.invariant.counted;
            few = omega (arith, w.count-is, c.loop-place.invariant.few);
            same_wire = ap (λ session. session.wire.ghost_name) w.session-is ∙ c.loop-place.invariant.same_wire;
          }
    ]

pub returns-clause-pushed : goal.returns-clause-pushed
returns-clause-pushed g c x stands of good slice =
    let long = ap (λ (graph : GraphState). length graph.switches) c.graph-graph.ensures in
    let count = ap length c.switches-switches.ensures in
    let all = push_ends _ x c.args.routes.now c.args.change.partition (receives_of c.args.change.after.now) c.loop-place.place (omega (arith, c.loop-place-test.false, c.loop-place.auto.place-end, long, count))
    (c.loop-place.invariant.stands x stands of good slice) in
    record { done = refl; stands = all.stands }

pub returns-clause-count : goal.returns-clause-count
returns-clause-count g c =
    let long = ap (λ (graph : GraphState). length graph.switches) c.graph-graph.ensures in
    let count = ap length c.switches-switches.ensures in
    let whole : c.loop-place.place ≡ length c.args.routes.now.graph.switches = omega (arith, c.loop-place-test.false, c.loop-place.auto.place-end, long, count) in
    c.loop-place.invariant.counted
    ∙ ap (λ (n : ℕ). sum_by (changed_at c.args.routes.now c.args.change.partition (receives_of c.args.change.before.now) (receives_of c.args.change.after.now)) (range_with_len 0 n)) whole
