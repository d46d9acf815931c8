use Rattle.audit_plan.proofs.FarEndLemmas.{far_end_more}
use Rattle.audit_plan.proofs.far_ends.far_ends.Goals as goal

pub loop-index-preserved : goal.loop-index-preserved
loop-index-preserved c =
    far_end_more c.loop-index.far_ends c.insert.new.self c.insert-in-loop-index.new.self c.args.cables.now c.loop-index.index
    (record { first = record { node = 0; port = 0 }; second = record { node = 0; port = 0 } }) c.loop-index-test.true c.loop-index.auto.index c.loop-index.invariant
    c.in_ok-insert.ensures.updates.0 c.in_ok-insert-2.ensures.updates.0
