use Rattle.std.proofs.Common.{◌≡◌, ◌-◌}
use Rattle.audit_net.specs.Following.{switch_total}
use Rattle.audit_plan.specs.Plan.{is_on}
use Rattle.audit_net.specs.Ways.{way, way_within}
use Rattle.audit_net.proofs.net.Net.is_on_way.Given as goal

abbrev pub invariant-loop : goal.invariant-loop
invariant-loop l = is_on l.there (way_within l.self l.lid (switch_total l.self - l.counter) l.at) ≡ is_on l.there (way l.self l.lid l.from)
