use Rattle.std.proofs.Common.{◌≡◌, map}
use Rattle.std.specs.List.{range_with_len}
use Rattle.sa_replies.specs.Asking.{ack_mad}
use Rattle.subnet_core.proofs.acknowledging.acks_of.Given as goal

abbrev pub invariant-loop-done : goal.invariant-loop-done
invariant-loop-done l = l.acks.items ≡ map (ack_mad l.segment l.count) (range_with_len 1 l.done)
