use Rattle.std.proofs.Common.{◌≡◌, take}
use Rattle.fabric_loads.proofs.own_dump.guids_of.Given as goal

abbrev pub invariant-loop-before : goal.invariant-loop-before
invariant-loop-before l = l.guids.items ≡ take l.before l.lids
