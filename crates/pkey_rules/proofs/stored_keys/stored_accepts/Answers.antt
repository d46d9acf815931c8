use Rattle.std.proofs.Common.{ℕ, ◌∙◌, ap, sym, Some, None, refl}
use Rattle.pkey_rules.specs.PKey.{matches}
use Rattle.pkey_rules.proofs.StoredKeyLemmas.{accepted, no_match}
use Rattle.pkey_rules.proofs.stored_keys.stored_accepts.Goals as goal

pub returns-in-Ok : goal.returns-in-Ok
returns-in-Ok c =
    accepted c.args.key c.base.result c.args.words.now (Some c.in-Some.word) c.matches.result c.base.ensures.value
    c.base.ensures.valid (sym c.in-Some.is ∙ c.first_of_base.ensures)
    (c.matches.ensures ∙ ap (λ (one : ℕ). matches one c.args.key) c.in-Ok.ensures.value)

pub returns-in-Err : goal.returns-in-Err
returns-in-Err c =
    accepted c.args.key c.base.result c.args.words.now (Some c.in-Some.word) _ c.base.ensures.value
    c.base.ensures.valid (sym c.in-Some.is ∙ c.first_of_base.ensures)
    (no_match c.in-Some.word c.args.key _ refl (λ some. let refused = c.in-Err.ensures.valid.1 some in cc))

pub returns-in-None : goal.returns-in-None
returns-in-None c =
    accepted c.args.key c.base.result c.args.words.now None _ c.base.ensures.value c.base.ensures.valid
    (sym c.in-None.is ∙ c.first_of_base.ensures) refl
