use Rattle.std.proofs.Common.{◌≡◌, Some}
use Rattle.smp_wire.specs.FabricState.{FabricState}
use Rattle.smp_wire.specs.Good.{IsGood}
use Rattle.sweep.specs.OfFabric.{IsGraphOf}
use Rattle.table_push.specs.Linear.{linear_before}
use Rattle.table_push.specs.Nodes.{with_switches}
use Rattle.table_push.specs.Pushes.{Stands}
use Rattle.table_push.proofs.linear.push_linear.Given as goal

-- the tables of the first switches are written
abbrev pub invariant-loop-place : goal.invariant-loop-place
invariant-loop-place g l = record {
  left : (fabric : FabricState) → g.W.SmpWire.fabric l.fn.wire ≡ Some fabric → IsGraphOf l.fn.routes.graph fabric → IsGood fabric
      → Stands (g.W.SmpWire.fabric l.session.wire.now) fabric (with_switches (linear_before l.fn.routes l.place) fabric);
  same_wire : l.session.wire.ghost_name ≡ l.initial.session.wire.ghost_name;
}
