use Rattle.std.proofs.Common.{◌≡◌, map}
use Rattle.std.specs.List.{range_with_len}
use Rattle.audit_plan.specs.FarEnds.{ends_at}
use Rattle.audit_plan.proofs.links.FarEnds.all_ends.Given as goal

abbrev pub invariant-loop-place : goal.invariant-loop-place
invariant-loop-place l = l.all.items ≡ map (ends_at l.self) (range_with_len 0 l.place)
