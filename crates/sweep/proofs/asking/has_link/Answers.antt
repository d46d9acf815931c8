use Rattle.std.proofs.Common.{◌∙◌, ap, sym, Bool, Ok}
use Rattle.sweep.proofs.LinkLemmas.{link_reported, not_linked}
use Rattle.sweep.proofs.asking.has_link.Goals as goal

pub returns-in-Ok-clause-reported : goal.returns-in-Ok-clause-reported
returns-in-Ok-clause-reported g c x stands at good links ends switch is_there =
    ap (λ (b : Bool). Ok b)
    (link_reported x at c.args.path.now c.in-Ok.bytes c.args.number c.code.result c.read.result c.code.ensures good links ends switch is_there
    (sym c.in-Ok.is ∙ c.get.ensures.reported x stands good) c.read.ensures.fields)

pub returns-in-Err-clause-reported : goal.returns-in-Err-clause-reported
returns-in-Err-clause-reported g c x stands at good links ends switch is_there =
    absurd (not_linked x at c.args.path.now c.args.number c.in-Err.fault good links ends switch is_there
    (sym c.in-Err.is ∙ c.get.ensures.reported x stands good))
