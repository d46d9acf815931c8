use Rattle.std.proofs.Common.{ℕ, ◌∙◌, ◌==◌, ap, sym, Some, None, refl}
use Rattle.pkey_rules.proofs.StoredKeyLemmas.{held}
use Rattle.pkey_rules.proofs.stored_keys.stored_holds.Goals as goal

pub returns-in-Some : goal.returns-in-Some
returns-in-Some c =
    held c.args.key c.base.result c.args.words.now (Some c.in-Some.word) _ c.base.ensures.value c.base.ensures.valid
    (sym c.in-Some.is ∙ c.first_of_base.ensures) (ap (λ (bits : ℕ). c.in-Some.word == bits) c.bits.ensures)

pub returns-in-None : goal.returns-in-None
returns-in-None c =
    held c.args.key c.base.result c.args.words.now None _ c.base.ensures.value c.base.ensures.valid
    (sym c.in-None.is ∙ c.first_of_base.ensures) refl
