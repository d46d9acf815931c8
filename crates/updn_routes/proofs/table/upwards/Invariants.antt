use Rattle.std.proofs.Common.{◌+◌}
use Rattle.updn_routes.specs.Tables.{IsUpTo}
use Rattle.updn_routes.proofs.table.upwards.Given as goal

abbrev pub invariant-loop-place : goal.invariant-loop-place
invariant-loop-place l = IsUpTo l.ups l.fn.table.items l.place (l.target + l.place) l.table.items
