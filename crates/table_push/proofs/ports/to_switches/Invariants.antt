use Rattle.std.proofs.Common.{◌≡◌, Some}
use Rattle.smp_wire.specs.FabricState.{FabricState}
use Rattle.smp_wire.specs.Good.{IsGood, ShowsLinks}
use Rattle.sweep.specs.OfFabric.{IsGraphOf}
use Rattle.table_push.specs.Nodes.{with_infos}
use Rattle.table_push.specs.Ports.{at_switches_before, changed_where}
use Rattle.table_push.specs.Pushes.{Stands}
use Rattle.table_push.proofs.ports.to_switches.Given as goal

-- the first switches are set up
abbrev pub invariant-loop-place : goal.invariant-loop-place
invariant-loop-place g l = record {
  left : (fabric : FabricState) → g.W.SmpWire.fabric l.fn.session.wire.now ≡ Some fabric → IsGraphOf l.fn.routes.graph fabric → IsGood fabric → ShowsLinks fabric
      → Stands (g.W.SmpWire.fabric l.session.wire.now) fabric (with_infos (changed_where l.fn.round (at_switches_before l.fn.routes.graph l.place) l.fn.routes) fabric);
  same_wire : l.session.wire.ghost_name ≡ l.fn.session.wire.ghost_name;
}
