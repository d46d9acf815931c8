use Rattle.audit_net.specs.Lids.{is_known_lid}
use Rattle.audit_net.proofs.LidLemmas.{aims_more}
use Rattle.audit_net.proofs.lid_index.LidIndex.aims_below.Goals as goal

pub loop-lid-preserved : goal.loop-lid-preserved
loop-lid-preserved c = aims_more c.args.self.now (is_known_lid c.args.self.now) c.loop-lid.lid c.loop-lid.aims.items c.push_aim.new.aims.items c.loop-lid.invariant c.in_ok-push_aim.ensures
