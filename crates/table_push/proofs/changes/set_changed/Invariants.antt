use Rattle.std.proofs.Common.{ℕ, ◌≡◌, ◌≤◌, filter, length, Some}
use Rattle.std.specs.List.{range_with_len}
use Rattle.smp_wire.specs.FabricState.{FabricState}
use Rattle.smp_wire.specs.Good.{IsGood}
use Rattle.table_push.specs.Changes.{HasBlocks, is_changed}
use Rattle.table_push.specs.Masks.{slice_to}
use Rattle.table_push.specs.Nodes.{on_switch, with_switches}
use Rattle.table_push.specs.Pushes.{LeadsToSwitch, Stands}
use Rattle.table_push.proofs.changes.set_changed.Given as goal

-- the blocks of the first positions are there
abbrev pub invariant-loop-position : goal.invariant-loop-position
invariant-loop-position g l = record {
  stands : (fabric : FabricState) (guid : ℕ) → g.W.SmpWire.fabric l.fn.session.wire.now ≡ Some fabric → IsGood fabric → LeadsToSwitch fabric l.fn.path guid
      → HasBlocks guid l.fn.partition l.fn.before fabric
      → Stands (g.W.SmpWire.fabric l.session.wire.now) fabric (with_switches (on_switch guid (slice_to l.position l.fn.partition l.fn.after)) fabric);
  counted : l.count ≡ length (filter (is_changed l.fn.before l.fn.after) (range_with_len 0 l.position));
  few : l.count ≤ l.position;
  same_wire : l.session.wire.ghost_name ≡ l.fn.session.wire.ghost_name;
}
