use Rattle.std.proofs.Common.{◌≡◌, ◌+◌, arith}
use Rattle.std.proofs.lemmas.List.FromFn.{map-range_with_len_more}
use Rattle.updn_routes.specs.Tables.{ups_at}
use Rattle.updn_routes.proofs.place.all_ups.Goals as goal

pub loop-place-preserved : goal.loop-place-preserved
loop-place-preserved c =
    let same : 0 + c.loop-place.place ≡ c.loop-place.place = omega arith in
    let more = map-range_with_len_more (ups_at c.args.rows.now c.args.places.now) 0 c.loop-place.place c.loop-place.place same in
    cc (more, c.in_ok-push.ensures.items, c.push.ensures.items, c.of.ensures, c.in_ok-ups_at.ensures, c.loop-place.invariant)
