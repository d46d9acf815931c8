use Rattle.std.proofs.Common.{◌≡◌, ◌∙◌, ℕ, List, length, ap, subst, sym, ◌<◌, Some, arith, rules, true}
use Rattle.updn_routes.specs.declared.link.Link.{Link}
use Rattle.updn_routes.specs.Cabling.{is_next_to}
use Rattle.updn_routes.specs.Tables.{place_at}
use Rattle.updn_routes.proofs.AnswerLemmas.{number_is, place_low}
use Rattle.updn_routes.proofs.answer.SwitchRoutes.channel_number.Goals as goal

pub number-requires-clause-there : goal.number-requires-clause-there
number-requires-clause-there c =
    let yes : c.is_next_to.result ≡ true = search rules in
    let beside : is_next_to c.self.inside.rows.items c.args.switch c.args.next ≡ true =
    subst (λ (r : List (List Link)). is_next_to r c.args.switch c.args.next ≡ true) c.deref.ensures.value (sym c.is_next_to.ensures ∙ yes) in
    let low : place_at c.self.inside.places.items c.args.switch < length c.self.inside.rows.items = place_low _ c.self.invariant c.args.switch c.args.next beside in
    let count : c.len-count.result ≡ length c.self.inside.rows.items = c.len-count.ensures ∙ (sym c.deref.ensures.len ∙ ap length c.deref.ensures.value) in
    let place : c.place_at-place.result ≡ place_at c.self.inside.places.items c.args.switch = c.place_at-place.ensures ∙ ap (λ (ps : List ℕ). place_at ps c.args.switch) c.deref-2.ensures.value in
    omega (arith, low, count, place)

pub returns : goal.returns
returns c =
    let yes : c.is_next_to.result ≡ true = search rules in
    let beside : is_next_to c.self.inside.rows.items c.args.switch c.args.next ≡ true =
    subst (λ (r : List (List Link)). is_next_to r c.args.switch c.args.next ≡ true) c.deref.ensures.value (sym c.is_next_to.ensures ∙ yes) in
    let count : c.len-count.result ≡ length c.self.inside.rows.items = c.len-count.ensures ∙ (sym c.deref.ensures.len ∙ ap length c.deref.ensures.value) in
    let place : c.place_at-place.result ≡ place_at c.self.inside.places.items c.args.switch = c.place_at-place.ensures ∙ ap (λ (ps : List ℕ). place_at ps c.args.switch) c.deref-2.ensures.value in
    let other : c.place_at-other.result ≡ place_at c.self.inside.places.items c.args.next = c.place_at-other.ensures ∙ ap (λ (ps : List ℕ). place_at ps c.args.next) c.deref-3.ensures.value in
    let number = c.number.ensures in
    rw (← c.self.view_is) (rw (number_is _ c.self.invariant c.args.switch c.args.next beside, ← place, ← other, ← count) (ap Some number))
