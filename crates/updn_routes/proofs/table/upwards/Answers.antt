use Rattle.std.proofs.Common.{false, ◌≡◌, ℕ, ◌+◌, subst, arith, slice_set}
use Rattle.updn_routes.specs.Cabling.{links_of}
use Rattle.updn_routes.specs.Tables.{IsUpTo, best_of, entry_at, or_up}
use Rattle.updn_routes.proofs.WriteLemmas.{up_step}
use Rattle.updn_routes.proofs.table.upwards.Goals as goal

pub loop-place-preserved : goal.loop-place-preserved
loop-place-preserved c =
    let is : c.down_or_up-way.result ≡ or_up (entry_at c.loop-place.table.items c.loop-place.place) (best_of false c.loop-place.table.items (links_of c.args.ups.now c.loop-place.place)) = cc (c.down_or_up-way.ensures, c.deref.ensures.value) in
    let more : c.args.target + c.loop-place.place + 1 ≡ c.args.target + (c.loop-place.place + 1) = omega arith in
    subst (λ (k : ℕ). IsUpTo c.args.ups.now c.args.table.items (c.loop-place.place + 1) k (slice_set c.loop-place.table.items c.loop-place.place c.down_or_up-way.result)) more
    (up_step c.args.ups.now c.args.table.items c.loop-place.table.items c.loop-place.place (c.args.target + c.loop-place.place) c.down_or_up-way.result c.requires.up (omega arith) is c.loop-place.invariant)
