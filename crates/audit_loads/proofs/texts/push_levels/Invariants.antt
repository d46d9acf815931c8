use Rattle.std.proofs.Common.{◌≡◌, ◌++◌, flat_map}
use Rattle.std.specs.List.{range_with_len}
use Rattle.audit_loads.specs.Text.{level_text}
use Rattle.audit_loads.proofs.texts.push_levels.Given as goal

abbrev pub invariant-loop-level : goal.invariant-loop-level
invariant-loop-level l = l.text.items ≡ l.fn.text.items ++ flat_map (level_text l.net l.all) (range_with_len 0 l.level)
