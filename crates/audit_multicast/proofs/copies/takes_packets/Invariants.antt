use Rattle.std.proofs.Common.{◌≡◌}
use Rattle.topo_file.specs.Node.{ports_at}
use Rattle.audit_plan.proofs.AttachedLemmas.{some_left}
use Rattle.audit_multicast.specs.Copies.{leads_to_end, takes_packets}
use Rattle.audit_multicast.proofs.copies.takes_packets.Given as goal

abbrev pub invariant-loop-number : goal.invariant-loop-number
invariant-loop-number l = some_left (leads_to_end l.net) l.place l.number (ports_at l.net.plan.nodes l.place) ≡ takes_packets l.net l.place
