use Rattle.std.proofs.Common.{◌≡◌, ◌∙◌, ◌<◌, ◌+◌, ◌-◌, Option, List, ℕ, ap, sym, length, arith}
use Rattle.sweep.specs.Joined.{is_next_to}
use Rattle.sweep.specs.Rounds.{found_at, is_behind, is_exactly, or_further}
use Rattle.sweep.specs.declared.graph.GraphLink.{GraphLink}
use Rattle.std.specs.List.{list_any, range_with_len}
use Rattle.std.proofs.Common.{◌==◌}
use Rattle.sweep.proofs.RoundLemmas.{place_passed, place_spread, same_behind, same_test}
use Rattle.sweep.proofs.whole.spread.Goals as goal
use Rattle.sweep.proofs.whole.spread.Goals.{then-eq, else-eq}

pub loop-place-preserved : goal.loop-place-preserved
loop-place-preserved c =
    elim c.if-eq.branch [
      | then-eq w ↦
          (let rows = c.args.rows.now in
          let first = c.args.found.now in
          let round = c.args.round in
          let place = c.loop-place.place in
          let within : place < length c.loop-place.found = omega arith in
          let same : (s : ℕ) → s < length c.loop-place.found → is_exactly (found_at c.loop-place.found s) round ≡ is_exactly (found_at first s) round = c.loop-place.invariant.same in
          let is = sym (same place within) ∙ (same_test (found_at c.loop-place.found place) round ∙ sym c.eq.ensures ∙ w.if-eq.true) in
          let reached : (t : ℕ) → t < length c.loop-place.found → found_at c.if-eq.found t ≡ or_further (found_at c.loop-place.found t) (is_next_to rows place t) (round + 1) =
          (λ t less. ap (λ (found : List (Option ℕ)). found_at found t) w.found-is ∙ w.reach.ensures t less
          ∙ ap (λ (links : List GraphLink). or_further (found_at c.loop-place.found t) (list_any (λ link. link.to.node == t) links) (round + 1)) w.links_at.ensures) in
          record {
            same = λ s less. ap (λ (o : Option ℕ). is_exactly o round) (reached s (omega (arith, less))) ∙ same_behind (found_at c.loop-place.found s) (is_next_to rows place s) round ∙ same s (omega (arith, less));
            more = λ t less. place_spread rows first c.loop-place.found c.if-eq.found round place (length rows) t _ c.loop-place-test.true is (reached t (omega (arith, less)))
                (c.loop-place.invariant.more t (omega (arith, less)));
          })
      | else-eq w ↦
          (let rows = c.args.rows.now in
          let first = c.args.found.now in
          let round = c.args.round in
          let place = c.loop-place.place in
          let within : place < length c.loop-place.found = omega arith in
          let same : (s : ℕ) → s < length c.loop-place.found → is_exactly (found_at c.loop-place.found s) round ≡ is_exactly (found_at first s) round = c.loop-place.invariant.same in
          let is = sym (same place within) ∙ (same_test (found_at c.loop-place.found place) round ∙ sym c.eq.ensures ∙ w.if-eq.false) in
          let kept : (t : ℕ) → found_at c.if-eq.found t ≡ found_at c.loop-place.found t = (λ t. ap (λ (found : List (Option ℕ)). found_at found t) w.found-is) in
          record {
            same = λ s less. ap (λ (o : Option ℕ). is_exactly o round) (kept s) ∙ same s (omega (arith, less));
            more = λ t less. place_passed rows first c.loop-place.found round place (length rows) t _ c.loop-place-test.true is
                (c.loop-place.invariant.more t (omega (arith, less)))
                ∙ ap (λ (o : Option ℕ). or_further o (is_behind rows first round (range_with_len (place + 1) (length rows - (place + 1))) t) (round + 1)) (sym (kept t));
          })
    ]
