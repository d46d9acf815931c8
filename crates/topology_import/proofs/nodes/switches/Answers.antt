use Rattle.topology_import.specs.Nodes.{switch_at}
use Rattle.topology_import.proofs.LoopLemmas.{one_more_number}
use Rattle.topology_import.proofs.nodes.switches.Goals as goal

pub loop-place-preserved : goal.loop-place-preserved
loop-place-preserved c =
    rw (c.in_ok-push_switch_at.ensures, c.loop-place.invariant) (one_more_number (switch_at c.args.nodes.now) c.loop-place.place)
