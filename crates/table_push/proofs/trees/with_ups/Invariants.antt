use Rattle.std.proofs.Common.{ℕ, ◌≡◌, ◌<◌, bit_or, length, get_or}
use Rattle.table_push.specs.TreeSteps.{where_meets}
use Rattle.table_push.proofs.trees.with_ups.Given as goal

abbrev pub invariant-loop-switch : goal.invariant-loop-switch
invariant-loop-switch l = record {
  long : length l.masks ≡ 64;
  are : (s : ℕ) → s < l.switch → get_or l.masks s 0 ≡ bit_or (get_or l.fn.row s 0) (where_meets l.fn.switches (get_or l.fn.tree.outside s 0) (get_or l.fn.tree.ups s 0));
}
