use Rattle.std.proofs.Common.{◌≡◌, ◌++◌, flat_map}
use Rattle.std.specs.List.{range_with_len}
use Rattle.audit_lanes.specs.Lines.{crossings_by}
use Rattle.audit_lanes.proofs.lines.push_crossings_at.Given as goal

abbrev pub invariant-loop-input : goal.invariant-loop-input
invariant-loop-input l = l.crossings.items ≡ l.fn.crossings.items ++ flat_map (crossings_by l.net l.place) (range_with_len 0 l.input)
