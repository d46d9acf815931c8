use Rattle.std.proofs.Common.{◌≡◌, ◌==◌, true, sym, ◌∙◌, refl}
use Rattle.std.proofs.lemmas.Bool.{eq-eqb}
use Rattle.sa_store.proofs.KeyLemmas.{in_base}
use Rattle.sa_store.proofs.members.is_in.Goals as goal

pub returns-else-base-ne0 : goal.returns-else-base-ne0
returns-else-base-ne0 c =
    let none : (c.args.base == 0) ≡ true = eq-eqb c.args.base 0 c.if-base-ne0.false in
    rw none (sym (in_base c.args.own.now c.args.base c.requires ∙ rw none refl))
