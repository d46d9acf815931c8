use Rattle.std.proofs.Common.{◌≡◌, List, Some, None, position, sym, subst, ap, ◌∙◌, get_or}
use Rattle.fabric_parts.specs.declared.cable.PortRef.{PortRef}
use Rattle.updn_routes.specs.Routes.{AreRoutes, SwitchRoutesState, is_gap}
use Rattle.updn_routes.proofs.AnswerLemmas.{all_reached, first_unreached, gap_there}
use Rattle.updn_routes.proofs.answer.SwitchRoutes.first_gap.Goals as goal

pub returns-in_err-from-clause-none : goal.returns-in_err-from-clause-none
returns-in_err-from-clause-none c = λ gone.
    all_reached c.args.self.now (subst AreRoutes c.self.view_is c.self.invariant) (sym c.first_from.ensures ∙ c.in_err-from.was)

pub returns-in_err-to-clause-none : goal.returns-in_err-to-clause-none
returns-in_err-to-clause-none c = λ gone.
    let homes : c.deref-homes.result.now ≡ c.args.self.now.homes = c.deref-homes.ensures.value ∙ ap (λ (r : SwitchRoutesState). r.homes) c.self.view_is in
    absurd (gap_there c.args.self.now (subst AreRoutes c.self.view_is c.self.invariant) c.in_ok-from.from (sym c.first_from.ensures ∙ c.in_ok-from.was)
    (subst (λ (hs : List PortRef). position (is_gap c.args.self.now (get_or hs c.in_ok-from.from (record { node = 0; port = 0 })).node) c.args.self.now.homes ≡ None) homes (sym c.first_to.ensures ∙ c.in_err-to.was)))

pub returns-clause-some : goal.returns-clause-some
returns-clause-some c =
    let homes : c.deref-homes.result.now ≡ c.args.self.now.homes = c.deref-homes.ensures.value ∙ ap (λ (r : SwitchRoutesState). r.homes) c.self.view_is in
    first_unreached c.args.self.now (subst AreRoutes c.self.view_is c.self.invariant) c.in_ok-from.from c.in_ok-to.to (sym c.first_from.ensures ∙ c.in_ok-from.was)
    (subst (λ (hs : List PortRef). position (is_gap c.args.self.now (get_or hs c.in_ok-from.from (record { node = 0; port = 0 })).node) c.args.self.now.homes ≡ Some c.in_ok-to.to) homes (sym c.first_to.ensures ∙ c.in_ok-to.was))
