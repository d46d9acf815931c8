use Rattle.std.proofs.Common.{sym}
use Rattle.subnet_core.specs.Listing.{member_text}
use Rattle.subnet_core.proofs.ListingLemmas.{one_more}
use Rattle.subnet_core.proofs.listing.push_members.Goals as goal

pub loop-port-preserved : goal.loop-port-preserved
loop-port-preserved c =
    rw (c.in_ok-push_member.ensures, c.loop-port.invariant) (one_more (member_text c.args.base) c.args.ports.now c.loop-port.port-index c.port-item.result c.args.text.now.items c.loop-port-test.true (sym c.port-item.is))
