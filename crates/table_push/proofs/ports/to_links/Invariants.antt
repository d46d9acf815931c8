use Rattle.std.proofs.Common.{◌≡◌, ℕ, Bool, take}
use Rattle.smp_wire.specs.FabricState.{FabricState}
use Rattle.smp_wire.specs.Good.{IsGood, ShowsLinks}
use Rattle.sweep.specs.OfFabric.{IsGraphOf}
use Rattle.table_push.specs.Keys.{guid_of}
use Rattle.table_push.specs.Nodes.{with_infos}
use Rattle.table_push.specs.Ports.{changed_where}
use Rattle.table_push.specs.Pushes.{Stands}
use Rattle.table_push.proofs.PortCableLemmas.{with_links}
use Rattle.table_push.proofs.ports.to_links.Given as goal

-- the ports with the first links are set up
abbrev pub invariant-loop-index : goal.invariant-loop-index
invariant-loop-index g l = record {
  left : (fabric : FabricState) (there : ℕ → ℕ → Bool) → IsGraphOf l.fn.routes.graph fabric → IsGood fabric → ShowsLinks fabric
      → Stands (g.W.SmpWire.fabric l.fn.session.wire.now) fabric (with_infos (changed_where l.fn.round there l.fn.routes) fabric)
      → Stands (g.W.SmpWire.fabric l.session.wire.now) fabric
      (with_infos (changed_where l.fn.round (with_links there (guid_of l.fn.routes.graph.switches l.fn.place) (take l.index l.links)) l.fn.routes) fabric);
  same_wire : l.session.wire.ghost_name ≡ l.fn.session.wire.ghost_name;
}
