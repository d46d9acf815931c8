use Rattle.std.proofs.Common.{◌∙◌, sym}
use Rattle.sweep.proofs.SeenLemmas.{no_type}
use Rattle.sweep.proofs.seen.seen_of.Goals as goal

pub returns-in_default : goal.returns-in_default
returns-in_default c = sym (no_type c.args.info.now (λ kind code. sym c.in_default.is ∙ c.from_code.ensures.every kind code))
