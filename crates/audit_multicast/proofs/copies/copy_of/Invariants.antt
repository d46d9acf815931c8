use Rattle.std.proofs.Common.{◌≡◌, drop}
use Rattle.audit_multicast.specs.Copies.{entrances, first_copy}
use Rattle.audit_multicast.proofs.copies.copy_of.Given as goal

abbrev pub invariant-loop-place : goal.invariant-loop-place
invariant-loop-place l = first_copy l.net l.masks (drop l.place-index l.places) ≡ first_copy l.net l.masks (entrances l.net)
