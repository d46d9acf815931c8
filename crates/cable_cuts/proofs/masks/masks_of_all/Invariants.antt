use Rattle.std.proofs.Common.{take}
use Rattle.cable_cuts.specs.Masks.{AreMasksOfAll}
use Rattle.cable_cuts.proofs.masks.masks_of_all.Given as goal

-- of the first partitions
abbrev pub invariant-loop-heading : goal.invariant-loop-heading
invariant-loop-heading l = AreMasksOfAll l.fn.configuration.ports l.fn.routes (take l.heading-index l.heading-items) l.all.items
