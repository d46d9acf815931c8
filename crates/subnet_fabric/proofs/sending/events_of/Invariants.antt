use Rattle.std.proofs.Common.{◌≡◌, map}
use Rattle.subnet_fabric.specs.declared.event.Event.TheVariants.{Received}
use Rattle.subnet_fabric.proofs.sending.events_of.Given as goal

abbrev pub invariant-loop-delivery : goal.invariant-loop-delivery
invariant-loop-delivery l = l.events.items ≡ map Received l.yielded
