use Rattle.std.proofs.Common.{◌+◌, ◌*◌, subst}
use Rattle.attr_tables.specs.declared.smp_attribute.SmpAttribute.TheVariants.{MulticastForwardingTable}
use Rattle.table_push.proofs.LeadLemmas.{SetsAt}
use Rattle.table_push.proofs.multicast.set_block.Goals as goal

pub returns-clause-set : goal.returns-clause-set
returns-clause-set g c =
    subst (SetsAt (g.W.SmpWire.fabric c.args.session.now.wire.now) (g.W.SmpWire.fabric c.set.new.session.wire.now) c.set.result c.args.path.now MulticastForwardingTable (c.args.position * 268435456 + c.args.partition))
    c.block_bytes-masks.ensures.bytes c.set.ensures.left
