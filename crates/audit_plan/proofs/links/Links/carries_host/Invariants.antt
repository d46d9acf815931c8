use Rattle.std.proofs.Common.{◌≡◌}
use Rattle.topo_file.specs.Node.{ports_at}
use Rattle.audit_plan.specs.Attached.{carries_host, leads_to_host}
use Rattle.audit_plan.proofs.AttachedLemmas.{some_left}
use Rattle.audit_plan.proofs.links.Links.carries_host.Given as goal

abbrev pub invariant-loop-number : goal.invariant-loop-number
invariant-loop-number l = some_left (leads_to_host l.self) l.place l.number (ports_at l.self.nodes l.place) ≡ carries_host l.self l.place
