use Rattle.std.proofs.Common.{subst}
use Rattle.attr_tables.specs.declared.smp_attribute.SmpAttribute.TheVariants.{PortInfo as PortInfoAsked}
use Rattle.table_push.proofs.LeadLemmas.{SetsAt}
use Rattle.table_push.proofs.ports.set_info.Goals as goal

pub returns-clause-left : goal.returns-clause-left
returns-clause-left g c x stands next good takes gives =
    (subst (SetsAt _ _ _ c.args.path.now PortInfoAsked c.args.asked) c.put_over.ensures c.set_port_info.ensures.left) x stands next good takes gives
