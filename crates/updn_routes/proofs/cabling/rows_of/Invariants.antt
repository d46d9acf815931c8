use Rattle.std.proofs.Common.{◌≡◌, map, take}
use Rattle.updn_routes.specs.Subnet.{row_of}
use Rattle.updn_routes.proofs.cabling.rows_of.Given as goal

abbrev pub invariant-loop-row : goal.invariant-loop-row
invariant-loop-row l = l.rows.items ≡ map row_of (take l.row-index l.of_graph)
