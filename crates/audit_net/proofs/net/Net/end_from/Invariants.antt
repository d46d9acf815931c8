use Rattle.std.proofs.Common.{◌≡◌, ◌-◌}
use Rattle.audit_net.specs.Following.{end_from, end_within, switch_total}
use Rattle.audit_net.proofs.net.Net.end_from.Given as goal

abbrev pub invariant-loop : goal.invariant-loop
invariant-loop l = end_within l.self l.lid (switch_total l.self - l.counter) l.at ≡ end_from l.self l.lid l.place
