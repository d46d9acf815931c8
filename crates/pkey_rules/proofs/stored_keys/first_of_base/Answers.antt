use Rattle.std.proofs.Common.{ℕ, ◌==◌, ◌∙◌, ap, sym, rules, find, List}
use Rattle.std.proofs.lemmas.List.{nil_from_length}
use Rattle.pkey_rules.specs.PKey.{base_of}
use Rattle.pkey_rules.proofs.StoredKeyLemmas.{at_block, past_block}
use Rattle.pkey_rules.proofs.stored_keys.first_of_base.Goals as goal

pub loop-some-init : goal.loop-some-init
loop-some-init c = (search rules, tt, search rules, search rules)

pub loop-some-preserved : goal.loop-some-preserved
loop-some-preserved c =
    let steps = c.in-Some.ensures.steps in (
      search rules,
      tt,
      steps.0 ∙ c.loop-some.invariant.2,
      sym (past_block c.args.base c.in-Some.some.now _ (search rules))
          ∙ ap (λ (words : List ℕ). find (λ word. base_of word == c.args.base) words) (sym steps.1.0)
          ∙ c.loop-some.invariant.3,
    )

pub returns-then-has_base : goal.returns-then-has_base
returns-then-has_base c =
    let steps = c.in-Some.ensures.steps in
    c.first_in.ensures
    ∙ at_block c.args.base c.in-Some.some.now _ (search rules)
    ∙ ap (λ (words : List ℕ). find (λ word. base_of word == c.args.base) words) (sym steps.1.0)
    ∙ c.loop-some.invariant.3

pub returns : goal.returns
returns c =
    let none = nil_from_length _ c.in-None.ensures.steps.1.0 in rw none at c.loop-some.invariant.3
