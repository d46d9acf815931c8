use Rattle.std.proofs.Common.{true, ◌≡◌, ℕ, ◌-◌, ◌+◌, suc, subst, arith, map, length, slice_set}
use Rattle.std.specs.List.{range_with_len}
use Rattle.updn_routes.specs.Cabling.{links_of}
use Rattle.updn_routes.specs.Tables.{IsDownFrom, best_of, entry_first}
use Rattle.updn_routes.proofs.WriteLemmas.{down_first, down_more}
use Rattle.updn_routes.proofs.table.downwards.Goals as goal

pub loop-turn-init : goal.loop-turn-init
loop-turn-init c =
    let same : c.args.target ≡ c.args.target - 0 = omega arith in
    rw c.in_ok-table.ensures (subst (λ (k : ℕ). IsDownFrom c.args.downs.now c.args.target k 0 (map (entry_first c.args.target) (range_with_len 0 (length c.args.downs.now)))) same (down_first c.args.downs.now c.args.target c.requires.there))

pub loop-turn-preserved : goal.loop-turn-preserved
loop-turn-preserved c =
    let first : c.args.target - c.loop-turn.turn ≡ suc (c.args.target - 1 - c.loop-turn.turn) = omega arith in
    let last : c.args.target - 1 - c.loop-turn.turn ≡ c.args.target - (c.loop-turn.turn + 1) = omega arith in
    let is : c.best-way.result ≡ best_of true c.loop-turn.table.items (links_of c.args.downs.now (c.args.target - 1 - c.loop-turn.turn)) = cc (c.best-way.ensures, c.deref.ensures.value, c.links_of.ensures) in
    subst (λ (k : ℕ). IsDownFrom c.args.downs.now c.args.target k (c.loop-turn.turn + 1) (slice_set c.loop-turn.table.items (c.args.target - 1 - c.loop-turn.turn) c.best-way.result)) last
    (down_more c.args.downs.now c.args.target (c.args.target - 1 - c.loop-turn.turn) c.loop-turn.turn c.loop-turn.table.items c.best-way.result c.requires.down (omega arith) c.requires.there is
    (subst (λ (k : ℕ). IsDownFrom c.args.downs.now c.args.target k c.loop-turn.turn c.loop-turn.table.items) first c.loop-turn.invariant))
