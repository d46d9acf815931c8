use Rattle.std.proofs.lemmas.Result.{IfOk-weaker}
use Rattle.cable_cuts.proofs.loss.outcome.Goals as goal

pub returns : goal.returns
returns c =
    IfOk-weaker c.outcome_of.result _ _
    (λ outcome is. record { fate = c.in_ok-fate.fate; fate_is = c.in_ok-fate.ensures; outcome_is = is }) c.outcome_of.ensures
