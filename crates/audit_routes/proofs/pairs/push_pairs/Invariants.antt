use Rattle.std.proofs.Common.{◌≡◌, ◌++◌, flat_map, take}
use Rattle.audit_routes.specs.Pairs.{pair_at}
use Rattle.audit_routes.proofs.pairs.push_pairs.Given as goal

abbrev pub invariant-loop-aim : goal.invariant-loop-aim
invariant-loop-aim l = l.pairs.items ≡ l.fn.pairs.items ++ flat_map (pair_at l.net l.place) (take l.aim-index l.aims)
