use Rattle.std.proofs.Common.{◌≡◌, ◌++◌, flat_map, map}
use Rattle.std.specs.List.{range_with_len}
use Rattle.audit_loops.specs.Channels.{nexts}
use Rattle.audit_loops.specs.Waits.{channel_behind}
use Rattle.audit_loops.proofs.channels.push_dependencies.Given as goal

abbrev pub invariant-loop-number : goal.invariant-loop-number
invariant-loop-number l = l.graph.items ≡ l.fn.graph.items ++ map (nexts l.net l.courses) (flat_map (channel_behind l.net l.place) (range_with_len 0 l.number))
