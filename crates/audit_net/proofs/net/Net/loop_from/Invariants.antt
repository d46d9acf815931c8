use Rattle.std.proofs.Common.{◌≡◌, ◌-◌, ◌++◌, option_map}
use Rattle.audit_net.specs.Following.{back, loop_from, switch_total}
use Rattle.audit_net.proofs.net.Net.loop_from.Given as goal

abbrev pub invariant-loop : goal.invariant-loop
invariant-loop l =
    option_map (λ rest. l.places.items ++ rest) (back l.self l.lid l.home (switch_total l.self - l.counter) l.at) ≡ loop_from l.self l.lid l.home
