use Rattle.std.proofs.Common.{◌≡◌, ◌++◌, take}
use Rattle.std.specs.List.{flat_map}
use Rattle.cable_cuts.specs.Texts.{change_line}
use Rattle.cable_cuts.proofs.texts.push_changes.Given as goal

abbrev pub invariant-loop-change : goal.invariant-loop-change
invariant-loop-change l = l.text.items ≡ l.fn.text.items ++ flat_map (change_line l.fn.ports) (take l.change-index l.fn.changes)
