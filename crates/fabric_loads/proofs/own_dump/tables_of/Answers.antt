use Rattle.std.proofs.Common.{[]}
use Rattle.audit_plan.proofs.RangeLemmas.{flat_onto}
use Rattle.fabric_loads.specs.OwnDump.{own_table_at}
use Rattle.fabric_loads.proofs.own_dump.tables_of.Goals as goal

pub loop-place-preserved : goal.loop-place-preserved
loop-place-preserved c =
    flat_onto (own_table_at c.args.owners.nodes.now c.args.owners.guids.now c.args.held.now) [] c.loop-place.tables.items c.push_table_at.new.tables.items c.loop-place.place
    c.loop-place.invariant c.in_ok-push_table_at.ensures
