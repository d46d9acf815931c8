use Rattle.std.proofs.Common.{◌≡◌, length}
use Rattle.table_push.specs.TreeSteps.{AreSpread}
use Rattle.table_push.proofs.trees.put_masks.Given as goal

abbrev pub invariant-loop-slot : goal.invariant-loop-slot
invariant-loop-slot l = record {
  long : length l.masks ≡ 32;
  are : AreSpread l.fn.tree l.fn.ports l.fn.switches l.slot l.masks;
}
