use Rattle.std.proofs.Common.{ℕ, ◌≡◌, ◌*◌, Some}
use Rattle.smp_wire.specs.FabricState.{FabricState}
use Rattle.smp_wire.specs.Good.{IsGood}
use Rattle.table_push.specs.Nodes.{on_port, with_keys}
use Rattle.table_push.specs.Pushes.{LeadsToPort, Stands}
use Rattle.table_push.proofs.KeyLemmas.{keys_to}
use Rattle.table_push.proofs.keys.set_table.Given as goal

-- the first blocks are written
abbrev pub invariant-loop-block : goal.invariant-loop-block
invariant-loop-block g l = record {
  left : (fabric : FabricState) (guid number : ℕ) → g.W.SmpWire.fabric l.fn.session.wire.now ≡ Some fabric → IsGood fabric
      → LeadsToPort fabric l.fn.path l.fn.asked guid number
      → Stands (g.W.SmpWire.fabric l.session.wire.now) fabric (with_keys (on_port guid number (keys_to (32 * l.block) l.fn.table)) fabric);
  same_wire : l.session.wire.ghost_name ≡ l.fn.session.wire.ghost_name;
}
