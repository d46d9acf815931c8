use Rattle.std.proofs.Common.{◌≡◌, Some, take}
use Rattle.smp_wire.specs.FabricState.{FabricState}
use Rattle.smp_wire.specs.Good.{IsGood}
use Rattle.sweep.specs.OfFabric.{IsGraphOf}
use Rattle.table_push.specs.Keys.{at_switches, keys_where}
use Rattle.table_push.specs.Nodes.{with_keys}
use Rattle.table_push.specs.Pushes.{Stands}
use Rattle.table_push.proofs.keys.to_switches.Given as goal

-- the tables of the first switches are written
abbrev pub invariant-loop-place : goal.invariant-loop-place
invariant-loop-place g l = record {
  left : (fabric : FabricState) → g.W.SmpWire.fabric l.fn.session.wire.now ≡ Some fabric → IsGraphOf l.fn.routes.graph fabric → IsGood fabric
      → Stands (g.W.SmpWire.fabric l.session.wire.now) fabric (with_keys (keys_where (at_switches (take l.place l.fn.routes.graph.switches)) l.fn.routes l.fn.keys) fabric);
  same_wire : l.session.wire.ghost_name ≡ l.fn.session.wire.ghost_name;
}
