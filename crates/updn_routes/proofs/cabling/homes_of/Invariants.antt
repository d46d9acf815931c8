use Rattle.std.proofs.Common.{◌≡◌, map, take}
use Rattle.updn_routes.specs.Subnet.{home_in}
use Rattle.updn_routes.proofs.cabling.homes_of.Given as goal

abbrev pub invariant-loop-before : goal.invariant-loop-before
invariant-loop-before l = l.homes.items ≡ map (home_in l.graph) (take l.before l.lids)
