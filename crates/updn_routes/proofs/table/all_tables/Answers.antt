use Rattle.updn_routes.proofs.WriteLemmas.{tables_more, tables_none}
use Rattle.updn_routes.proofs.table.all_tables.Goals as goal

pub loop-target-init : goal.loop-target-init
loop-target-init c = rw c.new-tables.ensures.items (tables_none c.args.downs.now c.args.ups.now)

pub loop-target-preserved : goal.loop-target-preserved
loop-target-preserved c =
    rw c.in_ok-push.ensures.items (tables_more c.args.downs.now c.args.ups.now c.loop-target.target c.loop-target.tables.items c.in_ok-table_towards.field-0 c.loop-target.invariant c.in_ok-table_towards.ensures)
