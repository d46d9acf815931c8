use Rattle.std.proofs.Common.{◌≡◌, ◌-◌, is_some}
use Rattle.audit_net.specs.Following.{back, loop_from, switch_total}
use Rattle.audit_net.proofs.net.Net.comes_back.Given as goal

abbrev pub invariant-loop : goal.invariant-loop
invariant-loop l = is_some (back l.self l.lid l.home (switch_total l.self - l.counter) l.at) ≡ is_some (loop_from l.self l.lid l.home)
