use Rattle.std.proofs.Common.{◌≡◌, Some, length, take}
use Rattle.smp_wire.specs.FabricState.{FabricState}
use Rattle.smp_wire.specs.Good.{IsGood}
use Rattle.sweep.specs.OfFabric.{IsGraphOf}
use Rattle.table_push.specs.Nodes.{with_switches}
use Rattle.table_push.specs.Pushes.{Stands}
use Rattle.table_push.proofs.TopLemmas.{top_before}
use Rattle.table_push.proofs.tops.set_tops.Given as goal

-- LinearFDBTop of the first switches is set
abbrev pub invariant-loop-place : goal.invariant-loop-place
invariant-loop-place g l = record {
  left : (fabric : FabricState) → g.W.SmpWire.fabric l.fn.session.wire.now ≡ Some fabric → IsGraphOf l.fn.routes.graph fabric → IsGood fabric
      → Stands (g.W.SmpWire.fabric l.session.wire.now) fabric (with_switches (top_before (length l.fn.routes.lids) (take l.place l.fn.routes.graph.switches)) fabric);
  same_wire : l.session.wire.ghost_name ≡ l.fn.session.wire.ghost_name;
}
