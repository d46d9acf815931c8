use Rattle.fabric_loads.proofs.RowLemmas.{rows_more}
use Rattle.fabric_loads.proofs.rows.rows_of.Goals as goal

pub loop-index-preserved : goal.loop-index-preserved
loop-index-preserved c =
    λ nodes guids are.
    rows_more nodes c.args.held.now guids c.args.all.now c.loop-index.index _ c.loop-index.rows.items c.push_row.new.rows.items are c.loop-index-test.true
    (c.loop-index.invariant nodes guids are) c.in_ok-push_row.ensures
