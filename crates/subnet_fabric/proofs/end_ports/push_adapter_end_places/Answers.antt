use Rattle.std.proofs.Common.{append_assoc}
use Rattle.subnet_fabric.proofs.PortLemmas.{adapter_end_places_more}
use Rattle.subnet_fabric.proofs.end_ports.push_adapter_end_places.Goals as goal

pub loop-index-preserved : goal.loop-index-preserved
loop-index-preserved c =
    rw (adapter_end_places_more c.args.topology.now c.args.place c.args.node.now c.loop-index.index, c.in_ok-push_if_cabled.ensures, c.loop-index.invariant, append_assoc)
