use Rattle.std.proofs.Common.{◌∙◌, sym}
use Rattle.sweep.proofs.AskLemmas.{named}
use Rattle.sweep.proofs.asking.name_of.Goals as goal

pub returns-in-Ok-clause-reported : goal.returns-in-Ok-clause-reported
returns-in-Ok-clause-reported g c x stands good =
    rw c.read.ensures (named _ c.args.path.now _ (λ fabric at is. sym c.in-Ok.is ∙ c.get.ensures.reported fabric at is) x stands good)

pub returns-in-Err-clause-reported : goal.returns-in-Err-clause-reported
returns-in-Err-clause-reported g c x stands good =
    named _ c.args.path.now _ (λ fabric at is. sym c.in-Err.is ∙ c.get.ensures.reported fabric at is) x stands good
