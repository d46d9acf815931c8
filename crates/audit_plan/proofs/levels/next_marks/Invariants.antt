use Rattle.std.proofs.Common.{◌≡◌, map}
use Rattle.std.specs.List.{range_with_len}
use Rattle.audit_plan.specs.Levels.{is_next}
use Rattle.audit_plan.proofs.levels.next_marks.Given as goal

abbrev pub invariant-loop-place : goal.invariant-loop-place
invariant-loop-place l = l.next.items ≡ map (is_next l.links l.marks) (range_with_len 0 l.place)
