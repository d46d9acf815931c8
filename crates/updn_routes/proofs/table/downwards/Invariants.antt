use Rattle.std.proofs.Common.{◌-◌}
use Rattle.updn_routes.specs.Tables.{IsDownFrom}
use Rattle.updn_routes.proofs.table.downwards.Given as goal

abbrev pub invariant-loop-turn : goal.invariant-loop-turn
invariant-loop-turn l = IsDownFrom l.downs l.target (l.target - l.turn) l.turn l.table.items
