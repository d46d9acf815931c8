use Rattle.std.proofs.Common.{◌≡◌, map, take}
use Rattle.fabric_wire.proofs.delivery.at_each.Given as goal

abbrev pub invariant-loop-receiver : goal.invariant-loop-receiver
invariant-loop-receiver l =
    l.deliveries.items ≡ map (λ one. record { port = one.guid; packet = l.packet }) (take l.receiver-index l.receivers)
