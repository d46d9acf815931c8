use Rattle.std.proofs.Common.{◌≡◌, flat_map, take}
use Rattle.audit_multicast.specs.Copies.{next_outs}
use Rattle.audit_multicast.proofs.copies.hop.Given as goal

abbrev pub invariant-loop-at : goal.invariant-loop-at
invariant-loop-at l = l.next.items ≡ flat_map (next_outs l.net l.masks) (take l.at-index l.front)
