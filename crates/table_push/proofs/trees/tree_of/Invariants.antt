use Rattle.std.proofs.Common.{◌≡◌, length}
use Rattle.table_push.specs.TreeSteps.{IsTree}
use Rattle.table_push.proofs.trees.tree_of.Given as goal

abbrev pub invariant-loop-switch : goal.invariant-loop-switch
invariant-loop-switch l = record {
  below : length l.tree.below ≡ 64;
  outside : length l.tree.outside ≡ 64;
  parents : length l.tree.parents ≡ 64;
  ups : length l.tree.ups ≡ 64;
  ends : length l.tree.ends ≡ 64;
  are : IsTree l.fn.routes l.tree l.switch;
}
