use Rattle.std.proofs.Common.{◌≡◌, ◌++◌, flat_map}
use Rattle.std.specs.List.{range_with_len}
use Rattle.audit_multicast.specs.Scanning.{out_behind}
use Rattle.audit_multicast.proofs.ways.push_outs.Given as goal

abbrev pub invariant-loop-number : goal.invariant-loop-number
invariant-loop-number l = l.ports.items ≡ l.fn.ports.items ++ flat_map (out_behind l.net l.masks l.here) (range_with_len 0 l.number)
