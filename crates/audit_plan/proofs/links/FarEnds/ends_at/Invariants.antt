use Rattle.std.proofs.Common.{◌≡◌, ◌+◌, map}
use Rattle.std.specs.List.{range_with_len}
use Rattle.fabric_parts.specs.Cable.{far_end, port}
use Rattle.audit_plan.proofs.links.FarEnds.ends_at.Given as goal

abbrev pub invariant-loop-number : goal.invariant-loop-number
invariant-loop-number l = l.ends.items ≡ map (λ number. far_end l.self.cables (port l.place (number + 1))) (range_with_len 0 l.number)
