use Rattle.std.proofs.Common.{◌≡◌, map}
use Rattle.std.specs.List.{range_with_len}
use Rattle.updn_routes.specs.Tables.{ups_at}
use Rattle.updn_routes.proofs.place.all_ups.Given as goal

abbrev pub invariant-loop-place : goal.invariant-loop-place
invariant-loop-place l = l.ups.items ≡ map (ups_at l.rows l.places) (range_with_len 0 l.place)
