use Rattle.std.proofs.Common.{◌≡◌, ◌≤◌, ◌*◌, Some}
use Rattle.std.specs.List.{range_with_len, sum_by}
use Rattle.smp_wire.specs.FabricState.{FabricState}
use Rattle.smp_wire.specs.Good.{IsGood}
use Rattle.sweep.specs.OfFabric.{IsGraphOf}
use Rattle.table_push.specs.Changes.{HasRange, changed_at}
use Rattle.table_push.specs.Masks.{masks_before, receives_of}
use Rattle.table_push.specs.Nodes.{with_switches}
use Rattle.table_push.specs.Pushes.{Stands}
use Rattle.table_push.proofs.changes.push_blocks.Given as goal

-- the MLID ranges of the first switches are there
abbrev pub invariant-loop-place : goal.invariant-loop-place
invariant-loop-place g l = record {
  stands : (fabric : FabricState) → g.W.SmpWire.fabric l.fn.session.wire.now ≡ Some fabric → IsGraphOf l.fn.routes.graph fabric → IsGood fabric
      → HasRange l.fn.routes l.fn.change.partition (receives_of l.fn.change.before.now) fabric
      → Stands (g.W.SmpWire.fabric l.session.wire.now) fabric (with_switches (masks_before l.fn.routes l.fn.change.partition (receives_of l.fn.change.after.now) l.place) fabric);
  counted : l.count ≡ sum_by (changed_at l.fn.routes l.fn.change.partition (receives_of l.fn.change.before.now) (receives_of l.fn.change.after.now)) (range_with_len 0 l.place);
  few : l.count ≤ 3 * l.place;
  same_wire : l.session.wire.ghost_name ≡ l.fn.session.wire.ghost_name;
}
