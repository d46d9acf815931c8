use Rattle.audit_plan.proofs.PlanLemmas.{ends_more}
use Rattle.audit_plan.proofs.ends.ports_by_guid.Goals as goal

pub loop-index-preserved : goal.loop-index-preserved
loop-index-preserved c =
    ends_more c.loop-index.ports c.insert.new.self c.args.ends.now c.loop-index.index (record { guid = 0; port = record { node = 0; port = 0 } })
    c.loop-index-test.true c.loop-index.auto.index c.loop-index.invariant c.in_ok-insert.ensures.updates.0
