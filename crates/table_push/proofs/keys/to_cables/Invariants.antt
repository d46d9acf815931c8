use Rattle.std.proofs.Common.{◌≡◌}
use Rattle.smp_wire.specs.FabricState.{FabricState}
use Rattle.smp_wire.specs.Good.{IsGood}
use Rattle.sweep.specs.OfFabric.{IsGraphOf}
use Rattle.table_push.specs.Keys.{at_switches, keys_where}
use Rattle.table_push.specs.Nodes.{with_keys}
use Rattle.table_push.specs.Pushes.{Stands}
use Rattle.table_push.proofs.CableLemmas.{at_first}
use Rattle.table_push.proofs.keys.to_cables.Given as goal

-- the tables at the first cables are written, after those of port 0 of each switch
abbrev pub invariant-loop-place : goal.invariant-loop-place
invariant-loop-place g l = record {
  left : (fabric : FabricState) → IsGraphOf l.fn.routes.graph fabric → IsGood fabric
      → Stands (g.W.SmpWire.fabric l.fn.session.wire.now) fabric (with_keys (keys_where (at_switches l.fn.routes.graph.switches) l.fn.routes l.fn.keys) fabric)
      → Stands (g.W.SmpWire.fabric l.session.wire.now) fabric (with_keys (keys_where (at_first l.fn.routes l.place) l.fn.routes l.fn.keys) fabric);
  same_wire : l.session.wire.ghost_name ≡ l.fn.session.wire.ghost_name;
}
