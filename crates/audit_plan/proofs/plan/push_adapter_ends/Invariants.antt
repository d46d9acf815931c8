use Rattle.std.proofs.Common.{◌≡◌, ◌++◌, flat_map}
use Rattle.std.specs.List.{range_with_len}
use Rattle.audit_plan.specs.Plan.{adapter_end}
use Rattle.audit_plan.proofs.plan.push_adapter_ends.Given as goal

abbrev pub invariant-loop-before : goal.invariant-loop-before
invariant-loop-before l = l.ends.items ≡ l.fn.ends.items ++ flat_map (adapter_end l.fn.place l.fn.node.guid) (range_with_len 0 l.before)
