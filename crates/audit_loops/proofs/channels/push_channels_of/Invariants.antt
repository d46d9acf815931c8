use Rattle.std.proofs.Common.{◌≡◌, ◌++◌, flat_map}
use Rattle.std.specs.List.{range_with_len}
use Rattle.audit_loops.specs.Waits.{channel_behind}
use Rattle.audit_loops.proofs.channels.push_channels_of.Given as goal

abbrev pub invariant-loop-number : goal.invariant-loop-number
invariant-loop-number l = l.channels.items ≡ l.fn.channels.items ++ flat_map (channel_behind l.net l.place) (range_with_len 0 l.number)
