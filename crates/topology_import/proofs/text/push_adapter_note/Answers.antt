use Rattle.topology_import.specs.Text.{next_note}
use Rattle.topology_import.proofs.LoopLemmas.{one_more_behind}
use Rattle.topology_import.proofs.text.push_adapter_note.Goals as goal

pub loop-before-preserved : goal.loop-before-preserved
loop-before-preserved c =
    rw (c.in_ok-push_next_note.ensures, c.loop-before.invariant)
    (one_more_behind (next_note c.args.nodes.now c.args.ends.now c.args.guid) c.args.text.now.items c.loop-before.before)
