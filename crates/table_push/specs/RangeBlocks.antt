-- The blocks of a partition's MLID range, before and after a change of receivers.
use Rattle.std.specs.Prelude.{ℕ, List, get_or}
use Rattle.subnet_model.specs.declared.group_receiver.GroupReceiver.{GroupReceiver}
use Rattle.table_push.specs.Changes.{AllChangesMarked}
use Rattle.table_push.specs.Masks.{LiesInTable, receives_of}
use Rattle.table_push.specs.MaskSteps.{AreReceiversBits, is_attached_to}
use Rattle.table_push.specs.TreeSteps.{AreMasksOf, IsTree}
use Rattle.table_push.specs.declared.range_blocks.Change.{Change}
use Rattle.table_push.specs.declared.range_blocks.RangeBlocks.{RangeBlocks}
use Rattle.table_push.specs.declared.range_blocks.RangeBlocks.TheVariants.{Masks, Walked}
use Rattle.updn_routes.specs.Subnet.{RoutesState}

-- the partition has an MLID range, the tree is that of the routes, and every switch whose blocks differ is marked
pub record IsChangeOf (routes : RoutesState) (change : Change) : Type 0 where
  pub partition : LiesInTable change.partition
  pub tree : IsTree routes change.tree.now 64
  pub marked : AllChangesMarked routes change.partition (receives_of change.before.now) (receives_of change.after.now) change.places

-- the blocks for these receivers are found so
abbrev pub AreRangeBlocks : RoutesState → (partition : ℕ) → List GroupReceiver → RangeBlocks → Type 0
AreRangeBlocks routes partition receivers (Walked switches) =
    AreReceiversBits 64 partition receivers (is_attached_to routes.between.homes) (λ i. get_or switches i 0)
AreRangeBlocks routes partition receivers (Masks masks) = AreMasksOf routes partition (receives_of receivers) masks
