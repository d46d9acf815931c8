use Rattle.std.proofs.Common.{take}
use Rattle.cable_cuts.specs.Needed.{AreNeeded}
use Rattle.cable_cuts.proofs.keeping.needed.Given as goal

-- of the first cables
abbrev pub invariant-loop-cable : goal.invariant-loop-cable
invariant-loop-cable l = AreNeeded l.fn.topology (take l.cable-index l.cable-items) l.all.items
