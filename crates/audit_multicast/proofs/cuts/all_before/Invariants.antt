use Rattle.std.proofs.Common.{◌≡◌, map, take}
use Rattle.audit_multicast.specs.Spreading.{places_before}
use Rattle.audit_multicast.proofs.cuts.all_before.Given as goal

abbrev pub invariant-loop-out : goal.invariant-loop-out
invariant-loop-out l = l.before.items ≡ map (places_before l.net l.all) (take l.out-index l.all)
