use Rattle.std.proofs.Common.{◌≡◌, ◌++◌, flat_map, take}
use Rattle.audit_keys.specs.Apart.{wide_line}
use Rattle.audit_keys.proofs.apart.push_each.Given as goal

abbrev pub invariant-loop-one : goal.invariant-loop-one
invariant-loop-one l = l.text.items ≡ l.fn.text.items ++ flat_map (wide_line l.fn.total) (take l.one-index l.fn.all)
