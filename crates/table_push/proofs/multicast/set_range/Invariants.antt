use Rattle.std.proofs.Common.{ℕ, ◌≡◌, Some}
use Rattle.smp_wire.specs.FabricState.{FabricState}
use Rattle.smp_wire.specs.Good.{IsGood}
use Rattle.table_push.specs.Masks.{slice_to}
use Rattle.table_push.specs.Nodes.{on_switch, with_switches}
use Rattle.table_push.specs.Pushes.{LeadsToSwitch, Stands}
use Rattle.table_push.proofs.multicast.set_range.Given as goal

-- the blocks of the first positions are written
abbrev pub invariant-loop-position : goal.invariant-loop-position
invariant-loop-position g l = record {
  left : (fabric : FabricState) (guid : ℕ) → g.W.SmpWire.fabric l.fn.session.wire.now ≡ Some fabric → IsGood fabric → LeadsToSwitch fabric l.fn.path guid
      → Stands (g.W.SmpWire.fabric l.session.wire.now) fabric (with_switches (on_switch guid (slice_to l.position l.fn.partition l.fn.blocks)) fabric);
  same_wire : l.session.wire.ghost_name ≡ l.fn.session.wire.ghost_name;
}
