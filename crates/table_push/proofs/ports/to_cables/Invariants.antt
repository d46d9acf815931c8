use Rattle.std.proofs.Common.{◌≡◌, ◌≤◌, length}
use Rattle.smp_wire.specs.FabricState.{FabricState}
use Rattle.smp_wire.specs.Good.{IsGood, ShowsLinks}
use Rattle.sweep.specs.OfFabric.{IsGraphOf}
use Rattle.table_push.specs.Nodes.{with_infos}
use Rattle.table_push.specs.Ports.{at_switches_before, changed_where}
use Rattle.table_push.specs.Pushes.{Stands}
use Rattle.table_push.proofs.PortCableLemmas.{at_first}
use Rattle.table_push.proofs.ports.to_cables.Given as goal

-- the ports at the first cables are set up, after the switches, and of the switches' there no more are counted; over a good
-- fabric none is
abbrev pub invariant-loop-place : goal.invariant-loop-place
invariant-loop-place g l = record {
  few : l.count ≤ l.place;
  all : (fabric : FabricState) → IsGraphOf l.fn.routes.graph fabric → IsGood fabric → ShowsLinks fabric
      → Stands (g.W.SmpWire.fabric l.fn.session.wire.now) fabric
      (with_infos (changed_where l.fn.round (at_switches_before l.fn.routes.graph (length l.fn.routes.graph.switches)) l.fn.routes) fabric)
      → (l.count ≡ 0)
      × Stands (g.W.SmpWire.fabric l.session.wire.now) fabric (with_infos (changed_where l.fn.round (at_first l.fn.routes l.place) l.fn.routes) fabric);
  same_wire : l.session.wire.ghost_name ≡ l.fn.session.wire.ghost_name;
}
