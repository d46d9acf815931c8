use Rattle.std.proofs.Common.{◌≡◌, flat_map, take}
use Rattle.audit_lanes.specs.Records.{owned_of}
use Rattle.audit_lanes.proofs.owned.owned.Given as goal

abbrev pub invariant-loop-aim : goal.invariant-loop-aim
invariant-loop-aim l = l.all.items ≡ flat_map (owned_of l.net) (take l.aim-index l.aims)
