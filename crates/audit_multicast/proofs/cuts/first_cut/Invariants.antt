use Rattle.std.proofs.Common.{◌≡◌, drop}
use Rattle.audit_multicast.specs.Cuts.{cut_of, first_cut, member_switches}
use Rattle.audit_multicast.specs.Loops.{all_outs}
use Rattle.audit_multicast.proofs.cuts.first_cut.Given as goal

abbrev pub invariant-loop-place : goal.invariant-loop-place
invariant-loop-place l = first_cut l.net l.masks (all_outs l.net l.masks) (member_switches l.net l.masks) (drop l.place-index l.places) ≡ cut_of l.net l.masks
