use Rattle.std.proofs.Common.{◌+◌, drop, sym, ◌∙◌}
use Rattle.std.proofs.lemmas.List.{drop_all}
use Rattle.topology_import.proofs.LoopLemmas.{cut_at, named_next, named_over}
use Rattle.topology_import.proofs.names.named.Goals as goal

pub loop-node-preserved : goal.loop-node-preserved
loop-node-preserved c =
    let i = c.loop-node.node-index in
    let nodes = c.args.nodes.now in
    record {
      same = c.loop-node.invariant.same
          ∙ named_next c.args.found.now c.loop-node.list c.push_named.new.nodes _ (drop i nodes) (drop (i + 1) nodes)
          (cut_at nodes i _ c.loop-node-test.true) c.in_ok-push_named.ensures.added;
      knows = c.in_ok-push_named.ensures.tried;
    }

pub returns : goal.returns
returns c =
    sym (c.loop-node.invariant.same
    ∙ named_over c.args.found.now c.loop-node.list (drop c.loop-node.node-index c.args.nodes.now)
    (drop_all c.loop-node.node-index c.args.nodes.now c.loop-node-test.false))
