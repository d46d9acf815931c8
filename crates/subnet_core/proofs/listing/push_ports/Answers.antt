use Rattle.std.proofs.Common.{sym}
use Rattle.subnet_core.specs.Listing.{port_line}
use Rattle.subnet_core.proofs.ListingLemmas.{one_more}
use Rattle.subnet_core.proofs.listing.push_ports.Goals as goal

pub loop-port-preserved : goal.loop-port-preserved
loop-port-preserved c =
    rw (c.in_ok-push_port_line.ensures, c.loop-port.invariant) (one_more port_line c.args.ports.now c.loop-port.port-index c.port-item.result c.args.text.now.items c.loop-port-test.true (sym c.port-item.is))
