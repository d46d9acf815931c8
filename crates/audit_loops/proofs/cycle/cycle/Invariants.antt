use Rattle.std.proofs.Common.{◌≡◌, ◌-◌, length}
use Rattle.std.specs.List.{range_with_len}
use Rattle.audit_loops.specs.Cycle.{cycle, first_cycle}
use Rattle.audit_loops.proofs.cycle.cycle.Given as goal

abbrev pub invariant-loop-place : goal.invariant-loop-place
invariant-loop-place l = first_cycle l.graph (range_with_len l.place (length l.graph - l.place)) ≡ cycle l.graph
