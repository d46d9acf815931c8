use Rattle.std.proofs.Common.{◌≡◌, ◌++◌, take}
use Rattle.audit_keys.specs.Differences.{each}
use Rattle.audit_keys.proofs.differences.push_each.Given as goal

abbrev pub invariant-loop-key : goal.invariant-loop-key
invariant-loop-key l = l.list.items ≡ l.fn.list.items ++ each l.fn.kind l.fn.port l.fn.opensms (take l.key-index l.fn.keys)
