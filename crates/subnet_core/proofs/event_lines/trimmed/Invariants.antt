use Rattle.std.proofs.Common.{◌≡◌, ◌≤◌, length, take}
use Rattle.subnet_core.specs.EventLines.{trimmed}
use Rattle.subnet_core.proofs.event_lines.trimmed.Given as goal

-- what was cut off changes nothing
abbrev pub invariant-loop-end : goal.invariant-loop-end
invariant-loop-end l = (l.end ≤ length l.bytes) × (trimmed (take l.end l.bytes) ≡ trimmed l.bytes)

abbrev pub decreases-loop-end : goal.decreases-loop-end
decreases-loop-end l = l.end
