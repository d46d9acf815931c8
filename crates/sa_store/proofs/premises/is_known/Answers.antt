use Rattle.std.proofs.Common.{◌∙◌}
use Rattle.sa_store.proofs.PremiseLemmas.{any_base}
use Rattle.sa_store.proofs.premises.is_known.Goals as goal

pub returns : goal.returns
returns c = rw c.base.ensures.value at c.is_base_in.ensures ∙ any_base c.args.key c.args.headings.now
