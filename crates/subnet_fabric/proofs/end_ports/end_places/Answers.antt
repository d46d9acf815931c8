use Rattle.std.proofs.Common.{◌≡◌, ◌<◌, ◌≤◌, length, get_or, sym, ◌∙◌, ap, arith}
use Rattle.std.specs.List.{enumerate_from, flat_map}
use Rattle.std.proofs.lemmas.List.{take_all}
use Rattle.std.proofs.lemmas.List.FromFn.{length-enumerate_from}
use Rattle.subnet_fabric.specs.Ports.{end_places, end_places_at}
use Rattle.subnet_fabric.proofs.PortLemmas.{end_places_more, large_end_places}
use Rattle.subnet_fabric.proofs.end_ports.end_places.Goals as goal

pub loop-place-preserved : goal.loop-place-preserved
loop-place-preserved c =
    let plan = c.args.topology.now in
    let node = c.node-item.result in
    let nodes = c.nodes-node-items.ensures.value in
    let inside : c.loop-place.place < length plan.nodes = rw nodes at c.loop-place-test.true in
    let here : get_or plan.nodes c.loop-place.place node ≡ node = sym (rw nodes at c.node-item.is) in
    rw (c.in_ok-push_end_places.ensures, c.loop-place.invariant) (sym (end_places_more plan c.loop-place.place node inside here))

pub returns-clause-value : goal.returns-clause-value
returns-clause-value c =
    let plan = c.args.topology.now in
    let past : length plan.nodes ≤ c.loop-place.place = rw c.nodes-node-items.ensures.value at c.loop-place-test.false in
    c.loop-place.invariant
    ∙ ap (flat_map (end_places_at plan)) (take_all c.loop-place.place (enumerate_from 0 plan.nodes) (omega (arith, length-enumerate_from 0 plan.nodes)))

pub returns-clause-few : goal.returns-clause-few
returns-clause-few c =
    let plan = c.args.topology.now in
    let limits = rw c.nodes-node-items.ensures.value at c.nodes-node-items.ensures.limits in
    let whole : c.loop-place.all.items ≡ end_places plan = returns-clause-value c in
    rw whole (large_end_places plan limits.0 limits.1)
