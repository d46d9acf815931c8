use Rattle.std.proofs.Common.{◌≡◌, take}
use Rattle.std.specs.List.{flat_map}
use Rattle.cable_cuts.specs.Texts.{loss_line}
use Rattle.cable_cuts.specs.declared.loss.Loss.{Loss}
use Rattle.cable_cuts.proofs.texts.lines_of.Given as goal

abbrev pub invariant-loop-loss : goal.invariant-loop-loss
invariant-loop-loss l =
    l.text.items ≡ flat_map (λ (loss : Loss). loss_line l.fn.topology.nodes l.fn.ports loss.cable loss.outcome) (take l.loss-index l.fn.losses)
