use Rattle.std.proofs.Common.{◌-◌, ◌∙◌, ℕ, List, ap, get_or, arith}
use Rattle.updn_routes.specs.Tables.{place_at}
use Rattle.updn_routes.proofs.AnswerLemmas.{number_few, place_few}
use Rattle.updn_routes.proofs.answer.SwitchRoutes.tie_at.Goals as goal

pub tie_of-requires-clause-few_lids : goal.tie_of-requires-clause-few_lids
tie_of-requires-clause-few_lids c =
    let few = number_few _ c.self.invariant c.args.lid in
    let is = c.number_at-number.ensures ∙ ap (λ (numbers : List ℕ). get_or numbers (c.args.lid - 1) 0) c.deref.ensures.value in
    omega (arith, few, is)

pub tie_of-requires-clause-few : goal.tie_of-requires-clause-few
tie_of-requires-clause-few c =
    let few = place_few _ c.self.invariant c.args.switch in
    let is = c.place_at-place.ensures ∙ ap (λ (places : List ℕ). place_at places c.args.switch) c.deref-2.ensures.value in
    omega (arith, few, is)
