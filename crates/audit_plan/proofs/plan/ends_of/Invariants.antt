use Rattle.std.proofs.Common.{◌≡◌, flat_map}
use Rattle.std.specs.List.{range_with_len}
use Rattle.audit_plan.specs.Plan.{ends_at}
use Rattle.audit_plan.proofs.plan.ends_of.Given as goal

abbrev pub invariant-loop-place : goal.invariant-loop-place
invariant-loop-place l = l.ends.items ≡ flat_map (ends_at l.nodes) (range_with_len 0 l.place)
