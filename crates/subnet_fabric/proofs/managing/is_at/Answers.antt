use Rattle.std.proofs.Common.{◌∙◌, ap, sym, Some, ℕ}
use Rattle.std.proofs.lemmas.Bool.{eq-eqb, eqb-true}
use Rattle.std.proofs.lemmas.Option.{same_Some}
use Rattle.subnet_fabric.proofs.managing.is_at.Goals as goal

pub returns-in-Some-clause-yes : goal.returns-in-Some-clause-yes
returns-in-Some-clause-yes c same = sym c.guid_at.ensures ∙ c.in-Some.is ∙ ap (λ (guid : ℕ). Some guid) (eqb-true _ _ same)

pub returns-in-Some-clause-no : goal.returns-in-Some-clause-no
returns-in-Some-clause-no c there = eq-eqb _ _ (same_Some _ _ (sym c.in-Some.is ∙ c.guid_at.ensures ∙ there))
