use Rattle.std.proofs.Common.{◌≡◌, flat_map, take}
use Rattle.audit_loops.specs.Waits.{next_if}
use Rattle.audit_loops.proofs.channels.nexts.Given as goal

abbrev pub invariant-loop-second : goal.invariant-loop-second
invariant-loop-second l = l.nexts.items ≡ flat_map (next_if l.net l.courses l.first) (take l.second-index l.group)
