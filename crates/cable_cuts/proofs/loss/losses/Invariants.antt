use Rattle.std.proofs.Common.{filter, take}
use Rattle.cable_cuts.specs.Cables.{joins_switches}
use Rattle.cable_cuts.specs.Outcomes.{AreLossesOf}
use Rattle.cable_cuts.proofs.loss.losses.Given as goal

-- those of the first cables
abbrev pub invariant-loop-cable : goal.invariant-loop-cable
invariant-loop-cable l =
    AreLossesOf l.fn.topology l.fn.configuration l.fn.routes (filter (joins_switches l.fn.topology.nodes) (take l.cable-index l.cable-items)) l.all.items
