use Rattle.std.proofs.Common.{ℕ, ◌≡◌, ap, arith, length, List, map, subst, take}
use Rattle.table_push.specs.Keys.{held_as}
use Rattle.table_push.proofs.WordLemmas.{words_end}
use Rattle.table_push.proofs.keys.words_of.Goals as goal

pub returns : goal.returns
returns c =
    let long = ap length c.as_slice-held.ensures.value in
    words_end c.args.full c.args.keys.now c.loop-place.words c.loop-place.place (omega (arith, long, c.loop-place-test.false, c.loop-place.auto.place-end))
    (subst (λ (keys : List ℕ). take c.loop-place.place c.loop-place.words ≡ map (held_as c.args.full) (take c.loop-place.place keys)) c.as_slice-held.ensures.value c.loop-place.invariant.done)
    c.loop-place.invariant.rest
