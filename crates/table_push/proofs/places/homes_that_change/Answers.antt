use Rattle.std.proofs.Common.{◌≡◌, ◌+◌, ◌∙◌, ap, sym, subst, arith, Some, slice_get}
use Rattle.std.proofs.lemmas.Option.{slice_get_within}
use Rattle.table_push.specs.MaskSteps.{is_attached_to}
use Rattle.table_push.specs.PlaceSteps.{IsNext}
use Rattle.table_push.proofs.PlaceLemmas.{both_more, come_more, gone_more, none_there, same_as, same_to_the_end}
use Rattle.table_push.proofs.places.homes_that_change.Goals.{in-Both, in-Gone, in-Come}
use Rattle.table_push.proofs.places.homes_that_change.Goals as goal

pub loop-turn-preserved : goal.loop-turn-preserved
loop-turn-preserved c =
    let homes = c.args.routes.now.between.homes in
    let before = c.args.before.now in
    let after = c.args.after.now in
    let gone = c.loop-turn.gone in
    let come = c.loop-turn.come in
    elim c.match-next_of.branch [
      | in-Both w ↦
          let next = subst (IsNext c.receiver_at.result c.receiver_at-in-loop-turn.result) w.in-Both.is c.next_of.ensures in
          let there : slice_get before gone ≡ Some next.0 = sym c.receiver_at.ensures ∙ next.1 in
          let too : slice_get after come ≡ Some next.0 = sym c.receiver_at-in-loop-turn.ensures ∙ next.2 in
          let within = slice_get_within before gone next.0 there in
          let below = slice_get_within after come next.0 too in
          record {
            gone = omega (arith, w.gone-is, within);
            come = omega (arith, w.come-is, below);
            far = omega (arith, w.gone-is, w.come-is, c.loop-turn.invariant.far);
            same = same_as homes before after (gone + 1) (come + 1) c.loop-turn.places _ _ _ w.gone-is w.come-is w.places-is
                (both_more homes before after gone come c.loop-turn.places next.0 there too c.loop-turn.invariant.same);
          }
      | in-Gone w ↦
          let next = subst (IsNext c.receiver_at.result c.receiver_at-in-loop-turn.result) w.in-Gone.is c.next_of.ensures in
          let there : slice_get before gone ≡ Some next.0 = sym c.receiver_at.ensures ∙ next.1 in
          let within = slice_get_within before gone next.0 there in
          record {
            gone = omega (arith, w.gone-is, within);
            come = omega (arith, w.come-is, c.loop-turn.invariant.come);
            far = omega (arith, w.gone-is, w.come-is, c.loop-turn.invariant.far);
            same = same_as homes before after (gone + 1) come _ _ _ _ w.gone-is w.come-is w.places-is
                (gone_more homes before after gone come c.loop-turn.places w.home_bit-places.result next.0
                (λ s low. w.home_bit-places.ensures s low ∙ ap (λ lid. is_attached_to homes lid s) (sym next.2)) c.loop-turn.invariant.same there);
          }
      | in-Come w ↦
          let next = subst (IsNext c.receiver_at.result c.receiver_at-in-loop-turn.result) w.in-Come.is c.next_of.ensures in
          let there : slice_get after come ≡ Some next.0 = sym c.receiver_at-in-loop-turn.ensures ∙ next.1 in
          let within = slice_get_within after come next.0 there in
          record {
            gone = omega (arith, w.gone-is, c.loop-turn.invariant.gone);
            come = omega (arith, w.come-is, within);
            far = omega (arith, w.gone-is, w.come-is, c.loop-turn.invariant.far);
            same = same_as homes before after gone (come + 1) _ _ _ _ w.gone-is w.come-is w.places-is
                (come_more homes before after gone come c.loop-turn.places w.home_bit-places-in-Come.result next.0
                (λ s low. w.home_bit-places-in-Come.ensures s low ∙ ap (λ lid. is_attached_to homes lid s) (sym next.2)) c.loop-turn.invariant.same there);
          }
    ]

pub returns : goal.returns
returns c =
    same_to_the_end c.args.routes.now.between.homes c.args.before.now c.args.after.now c.loop-turn.gone c.loop-turn.come c.loop-turn.places
    (omega (arith, c.loop-turn-test.false, c.loop-turn.invariant.gone, c.loop-turn.invariant.come, c.loop-turn.invariant.far))
    (omega (arith, c.loop-turn-test.false, c.loop-turn.invariant.gone, c.loop-turn.invariant.come, c.loop-turn.invariant.far)) c.loop-turn.invariant.same

pub returns-in-Neither : goal.returns-in-Neither
returns-in-Neither c =
    let before = c.args.before.now in
    let after = c.args.after.now in
    let next = subst (IsNext c.receiver_at.result c.receiver_at-in-loop-turn.result) c.in-Neither.is c.next_of.ensures in
    same_to_the_end c.args.routes.now.between.homes before after c.loop-turn.gone c.loop-turn.come c.loop-turn.places
    (none_there before c.loop-turn.gone (sym c.receiver_at.ensures ∙ next.0)) (none_there after c.loop-turn.come (sym c.receiver_at-in-loop-turn.ensures ∙ next.1))
    c.loop-turn.invariant.same
