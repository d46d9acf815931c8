use Rattle.topology_import.specs.Cables.{cable_at}
use Rattle.topology_import.proofs.LoopLemmas.{one_more}
use Rattle.topology_import.proofs.cables.push_all.Goals as goal

pub loop-line-preserved : goal.loop-line-preserved
loop-line-preserved c =
    rw (c.in_ok-push_at.ensures, c.loop-line.invariant)
    (one_more (cable_at c.args.discovery.now c.args.ends.now) c.args.lines.now c.loop-line.line-index _ c.args.list.now.items c.loop-line-test.true)
