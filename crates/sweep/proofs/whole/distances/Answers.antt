use Rattle.std.proofs.Common.{◌≡◌, ◌+◌, ◌∙◌, ◌++◌, ap, rules, List, Option, None, Some, ℕ, drop, length, replicate, slice_set, subst, sym, take, arith}
use Rattle.std.proofs.Math.Seq.{take-append_seam}
use Rattle.sweep.specs.Rounds.{AreFound, further, is_exactly}
use Rattle.sweep.proofs.RoundLemmas.{found_all, found_early, found_first, found_more}
use Rattle.sweep.proofs.whole.distances.Goals as goal
use Rattle.sweep.proofs.whole.distances.Goals.{else-loop-round-test, then-loop-round-test+then-not-is_come_to}
use Rattle.std.specs.List.{list_any}

pub loop-round-init : goal.loop-round-init
loop-round-init c =
    let items : c.in_ok-found.found.items ≡ replicate (length c.args.rows.now) None = c.in_ok-found.ensures.items_if_clones_equal (λ y h. search rules) in
    subst (λ (found : List (Option ℕ)). AreFound c.args.rows.now c.args.from 0 (slice_set found c.args.from (Some 0))) (sym items)
    (found_first c.args.rows.now c.args.from c.requires.there)

pub loop-round-preserved : goal.loop-round-preserved
loop-round-preserved c =
    let found : List (Option ℕ) = c.loop-round.found.items in
    let next : List (Option ℕ) = c.spread.new.found in
    let value = c.deref_mut.ensures.value in
    let kept : length next ≡ length found = c.spread.auto.found ∙ ap length value in
    let size : c.loop-round.found.len ≡ length next = c.loop-round.found.ok.0 ∙ sym kept in
    let whole : take c.loop-round.found.len (next ++ drop (length next) found) ≡ next =
    ap (λ (n : ℕ). take n (next ++ drop (length next) found)) size ∙ take-append_seam next (drop (length next) found) in
    subst (λ (found : List (Option ℕ)). AreFound c.args.rows.now c.args.from (c.loop-round.round + 1) found) (sym whole)
    (found_more c.args.rows.now c.args.from c.loop-round.round found next c.requires.inside c.loop-round.invariant kept
    (λ t less. c.spread.ensures t (rw value less) ∙ ap (λ (old : List (Option ℕ)). further c.args.rows.now old c.loop-round.round t) value))

pub returns : goal.returns
returns c =
    elim c.loop-round-test.branch [
      | else-loop-round-test w ↦
          (let same : c.loop-round.round ≡ length c.args.rows.now = omega (arith, w.loop-round-test.false, c.loop-round.auto.round-end) in
          found_all c.args.rows.now c.args.from c.loop-round.found.items
          (subst (λ (k : ℕ). AreFound c.args.rows.now c.args.from k c.loop-round.found.items) same c.loop-round.invariant))
      | then-loop-round-test+then-not-is_come_to w ↦
          (let value = w.deref.ensures.value in
          found_early c.args.rows.now c.args.from c.loop-round.round c.loop-round.found.items c.loop-round.invariant
          (ap (λ (found : List (Option ℕ)). list_any (λ one. is_exactly one c.loop-round.round) found) (sym value)
          ∙ sym w.is_come_to.ensures ∙ w.if-not-is_come_to.true))
    ]
