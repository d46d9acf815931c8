use Rattle.std.proofs.Common.{None}
use Rattle.audit_lanes.proofs.SetLemmas.{aims_more}
use Rattle.audit_lanes.proofs.tables.by_lid.Goals as goal

pub loop-index-preserved : goal.loop-index-preserved
loop-index-preserved c =
    aims_more c.loop-index.known c.insert.new.self c.args.aims.now c.loop-index.index (record { lid = 0; guid = None; end = None })
    c.loop-index-test.true c.loop-index.auto.index c.loop-index.invariant c.in_ok-insert.ensures.updates.0
