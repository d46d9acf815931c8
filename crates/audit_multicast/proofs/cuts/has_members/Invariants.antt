use Rattle.std.proofs.Common.{◌≡◌}
use Rattle.topo_file.specs.Node.{ports_at}
use Rattle.audit_plan.proofs.AttachedLemmas.{some_left}
use Rattle.audit_multicast.specs.Cuts.{has_members, is_member}
use Rattle.audit_multicast.proofs.cuts.has_members.Given as goal

abbrev pub invariant-loop-number : goal.invariant-loop-number
invariant-loop-number l = some_left (is_member l.net l.masks) l.place l.number (ports_at l.net.plan.nodes l.place) ≡ has_members l.net l.masks l.place
