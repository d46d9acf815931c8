use Rattle.std.proofs.Common.{◌≡◌, take}
use Rattle.std.specs.List.{flat_map}
use Rattle.cable_cuts.specs.Masks.{mask_changes_at, mask_held}
use Rattle.cable_cuts.proofs.masks.changes_between.Given as goal

abbrev pub invariant-loop-switch : goal.invariant-loop-switch
invariant-loop-switch l =
    l.all.items ≡ flat_map (mask_changes_at l.fn.configuration.partitions (mask_held l.fn.before) (mask_held l.fn.after))
    (take l.switch-index l.fn.configuration.ports)
