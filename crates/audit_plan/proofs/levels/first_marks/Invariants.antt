use Rattle.std.proofs.Common.{◌≡◌, map}
use Rattle.std.specs.List.{range_with_len}
use Rattle.audit_plan.specs.Attached.{carries_host}
use Rattle.audit_plan.proofs.levels.first_marks.Given as goal

abbrev pub invariant-loop-place : goal.invariant-loop-place
invariant-loop-place l = l.marks.items ≡ map (carries_host l.links) (range_with_len 0 l.place)
