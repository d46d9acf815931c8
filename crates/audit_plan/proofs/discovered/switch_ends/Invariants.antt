use Rattle.std.proofs.Common.{◌≡◌, flat_map}
use Rattle.std.specs.List.{range_with_len}
use Rattle.audit_plan.specs.Plan.{switch_end_at}
use Rattle.audit_plan.proofs.discovered.switch_ends.Given as goal

abbrev pub invariant-loop-place : goal.invariant-loop-place
invariant-loop-place l = l.ends.items ≡ flat_map (switch_end_at l.nodes) (range_with_len 0 l.place)
