use Rattle.std.proofs.Common.{◌≡◌, ◌++◌, take}
use Rattle.std.specs.List.{enumerate_from, flat_map}
use Rattle.cable_cuts.specs.Masks.{mask_change_at, mask_held}
use Rattle.cable_cuts.proofs.masks.push_changes_at.Given as goal

abbrev pub invariant-loop-number : goal.invariant-loop-number
invariant-loop-number l =
    l.all.items ≡ l.fn.all.items
    ++ flat_map (mask_change_at (mask_held l.fn.before) (mask_held l.fn.after) l.fn.switch)
    (take l.number (enumerate_from 0 l.fn.configuration.partitions))
