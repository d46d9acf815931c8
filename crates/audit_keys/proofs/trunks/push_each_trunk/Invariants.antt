use Rattle.std.proofs.Common.{◌≡◌, ◌++◌, take}
use Rattle.std.specs.List.{flat_map}
use Rattle.audit_keys.specs.Text.{trunk_line}
use Rattle.audit_keys.proofs.trunks.push_each_trunk.Given as goal

abbrev pub invariant-loop-lack : goal.invariant-loop-lack
invariant-loop-lack l = l.text.items ≡ l.fn.text.items ++ flat_map (trunk_line l.fn.nodes) (take l.lack-index l.fn.lacks)
