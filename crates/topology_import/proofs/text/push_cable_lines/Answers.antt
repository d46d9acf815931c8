use Rattle.topology_import.specs.Text.{cable_line}
use Rattle.topology_import.proofs.LoopLemmas.{one_more}
use Rattle.topology_import.proofs.text.push_cable_lines.Goals as goal

pub loop-cable-preserved : goal.loop-cable-preserved
loop-cable-preserved c =
    rw (c.in_ok-push_cable_line.ensures, c.loop-cable.invariant)
    (one_more (cable_line c.args.nodes.now) c.args.cables.now c.loop-cable.cable-index _ c.args.text.now.items c.loop-cable-test.true)
