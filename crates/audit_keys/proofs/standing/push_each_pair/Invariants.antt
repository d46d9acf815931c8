use Rattle.std.proofs.Common.{◌≡◌, ◌++◌, take}
use Rattle.std.specs.List.{flat_map}
use Rattle.audit_keys.specs.Standing.{pair_line}
use Rattle.audit_keys.proofs.standing.push_each_pair.Given as goal

abbrev pub invariant-loop-pair : goal.invariant-loop-pair
invariant-loop-pair l = l.text.items ≡ l.fn.text.items ++ flat_map (pair_line l.fn.nodes l.fn.sign l.fn.base) (take l.pair-index l.fn.pairs)
