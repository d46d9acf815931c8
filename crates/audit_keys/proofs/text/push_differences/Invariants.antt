use Rattle.std.proofs.Common.{◌≡◌, ◌++◌, take}
use Rattle.std.specs.List.{flat_map}
use Rattle.audit_keys.specs.Text.{difference_line}
use Rattle.audit_keys.proofs.text.push_differences.Given as goal

abbrev pub invariant-loop-difference : goal.invariant-loop-difference
invariant-loop-difference l = l.text.items ≡ l.fn.text.items ++ flat_map (difference_line l.fn.nodes) (take l.difference-index l.fn.list)
