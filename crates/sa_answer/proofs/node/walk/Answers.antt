use Rattle.std.proofs.Common.{◌≡◌, ◌∷◌, [], ◌∙◌, refl, sym, arith}
use Rattle.std.proofs.lemmas.Result.{err_from_is_err_and}
use Rattle.std.specs.List.{flat_map}
use Rattle.sa_answer.specs.Asked.{node_reported}
use Rattle.sa_answer.proofs.TakenLemmas.{at_first, done_all, passed_one, stops_at, taken_one}
use Rattle.sa_answer.proofs.node.walk.Goals.{then-is_reported+in_ok-take, else-is_reported}
use Rattle.sa_answer.proofs.node.walk.Goals as goal

pub loop-node-init : goal.loop-node-init
loop-node-init c = at_first (flat_map (node_reported c.args.own.now c.args.mask c.args.asked.now) c.args.nodes.now) c.args.taken.now

pub returns-in_err-take : goal.returns-in_err-take
returns-in_err-take c =
    let reported = node_reported c.args.own.now c.args.mask c.args.asked.now in
    let nodes = c.args.nodes.now in
    let yes = sym c.is_reported.ensures ∙ c.if-is_reported.true in
    let here : reported c.node-item.result ≡ c.bytes.result.now ∷ [] = rw (yes, c.bytes.ensures) refl in
    let out = err_from_is_err_and c.from_residual.result c.from_residual.ensures.1 in
    rw out.1
    (stops_at reported nodes c.loop-node.node-index c.node-item.result (flat_map reported nodes) c.args.taken.now c.loop-node.taken c.loop-node-test.true c.node-item.is c.loop-node.invariant
    (c.bytes.result.now ∷ []) here c.in_err-take.ensures)

pub loop-node-preserved : goal.loop-node-preserved
loop-node-preserved c =
    let reported = node_reported c.args.own.now c.args.mask c.args.asked.now in
    let nodes = c.args.nodes.now in
    let i = c.loop-node.node-index in
    let node = c.node-item.result in
    elim c.if-is_reported.branch [
      | then-is_reported+in_ok-take w ↦
          let yes = sym c.is_reported.ensures ∙ w.if-is_reported.true in
          let here : reported node ≡ w.bytes.result.now ∷ [] = rw (yes, w.bytes.ensures) refl in
          rw w.taken-is
          (taken_one reported nodes i node (flat_map reported nodes) c.args.taken.now c.loop-node.taken c.loop-node-test.true c.node-item.is c.loop-node.invariant
          (w.bytes.result.now ∷ []) w.take.new.self here w.in_ok-take.ensures)
      | else-is_reported w ↦
          let no = sym c.is_reported.ensures ∙ w.if-is_reported.false in
          let here : reported node ≡ [] = rw no refl in
          rw w.taken-is
          (passed_one reported nodes i node (flat_map reported nodes) c.args.taken.now c.loop-node.taken c.loop-node-test.true c.node-item.is c.loop-node.invariant here)
    ]

pub returns : goal.returns
returns c =
    let reported = node_reported c.args.own.now c.args.mask c.args.asked.now in
    done_all reported c.args.nodes.now c.loop-node.node-index (flat_map reported c.args.nodes.now) c.args.taken.now c.loop-node.taken (omega (arith, c.loop-node-test.false)) c.loop-node.invariant
