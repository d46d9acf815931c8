use Rattle.std.proofs.Common.{◌≡◌, map}
use Rattle.std.specs.List.{range_with_len}
use Rattle.audit_plan.specs.Levels.{marks_of}
use Rattle.audit_plan.proofs.levels.rounds.Given as goal

abbrev pub invariant-loop-count : goal.invariant-loop-count
invariant-loop-count l = (l.marks.items ≡ marks_of l.links l._count) × (l.rounds.items ≡ map (marks_of l.links) (range_with_len 0 l._count))
