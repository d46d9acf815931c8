use Rattle.updn_routes.specs.Tables.{AreTables}
use Rattle.updn_routes.proofs.table.all_tables.Given as goal

abbrev pub invariant-loop-target : goal.invariant-loop-target
invariant-loop-target l = AreTables l.downs l.ups l.target l.tables.items
