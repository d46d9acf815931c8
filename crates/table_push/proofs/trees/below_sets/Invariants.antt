use Rattle.std.proofs.Common.{ℕ, ◌≡◌, ◌<◌, get_or, length}
use Rattle.switch_model.proofs.MulticastLemmas.{AreBits}
use Rattle.updn_routes.specs.Sides.{is_below}
use Rattle.table_push.proofs.trees.below_sets.Given as goal

-- of the first switches
abbrev pub invariant-loop-other : goal.invariant-loop-other
invariant-loop-other l = record {
  long : length l.sets ≡ 64;
  are : (s : ℕ) → s < 64 → AreBits (get_or l.sets s 0) l.other (is_below l.fn.routes.between.rows l.fn.routes.between.depths s);
}
