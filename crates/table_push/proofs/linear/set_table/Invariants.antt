use Rattle.std.proofs.Common.{ℕ, ◌≡◌, ◌*◌, Some}
use Rattle.smp_wire.specs.FabricState.{FabricState}
use Rattle.smp_wire.specs.Good.{IsGood}
use Rattle.table_push.specs.Linear.{linear_to}
use Rattle.table_push.specs.Nodes.{on_switch, with_switches}
use Rattle.table_push.specs.Pushes.{LeadsToSwitch, Stands}
use Rattle.table_push.proofs.linear.set_table.Given as goal

-- the first blocks are written
abbrev pub invariant-loop-block : goal.invariant-loop-block
invariant-loop-block g l = record {
  left : (fabric : FabricState) (guid : ℕ) → g.W.SmpWire.fabric l.fn.session.wire.now ≡ Some fabric → IsGood fabric → LeadsToSwitch fabric l.fn.path guid
      → Stands (g.W.SmpWire.fabric l.session.wire.now) fabric (with_switches (on_switch guid (linear_to (64 * l.block) l.fn.table)) fabric);
  same_wire : l.session.wire.ghost_name ≡ l.fn.session.wire.ghost_name;
}
