use Rattle.std.proofs.Common.{◌∙◌}
use Rattle.std.proofs.lemmas.Result.{IfOk-weaker}
use Rattle.cable_cuts.proofs.MaskHeldLemmas.{changes_held}
use Rattle.cable_cuts.proofs.masks.mask_changes.Goals as goal

pub returns : goal.returns
returns c =
    IfOk-weaker c.changes_between.result _ _
    (λ all is. is ∙ changes_held c.args.configuration.now c.args.routes.now c.args.others.now c.in_ok-before.before c.in_ok-after.after c.in_ok-before.ensures
    c.in_ok-after.ensures) c.changes_between.ensures
