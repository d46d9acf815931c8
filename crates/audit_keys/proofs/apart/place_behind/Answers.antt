use Rattle.std.proofs.Common.{◌∙◌, nat_lt, sym}
use Rattle.audit_keys.proofs.RankLemmas.{no_place}
use Rattle.audit_keys.proofs.apart.place_behind.Goals as goal

pub returns-in-None-clause-value : goal.returns-in-None-clause-value
returns-in-None-clause-value c = no_place (λ one. nat_lt one.count c.args.count) c.args.all.now (sym c.first_narrower.ensures.value ∙ c.in-None.is)
