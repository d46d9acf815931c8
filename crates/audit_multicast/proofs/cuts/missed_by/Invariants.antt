use Rattle.std.proofs.Common.{◌≡◌, flat_map, take}
use Rattle.audit_multicast.specs.Spreading.{unless_met}
use Rattle.audit_multicast.proofs.cuts.missed_by.Given as goal

abbrev pub invariant-loop-there : goal.invariant-loop-there
invariant-loop-there l = l.missed.items ≡ flat_map (unless_met l.net l.masks l.met) (take l.there-index l.places)
