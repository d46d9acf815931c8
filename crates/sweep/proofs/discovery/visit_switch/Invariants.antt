use Rattle.std.proofs.Common.{List, [], ◌≡◌, Some}
use Rattle.smp_wire.specs.FabricState.{FabricState}
use Rattle.smp_wire.specs.Good.{IsGood}
use Rattle.sweep.specs.OfFabric.{Found, ports_at}
use Rattle.sweep.specs.Progress.{IsProgress, StandsAt}
use Rattle.sweep.specs.Sweeps.{GoesOn, IsSweepable}
use Rattle.sweep.proofs.discovery.visit_switch.Given as goal

-- the fabric stands as it did, and the first ports were asked
abbrev pub invariant-loop-before : goal.invariant-loop-before
invariant-loop-before g l = record {
  left : (fabric : FabricState) → g.W.SmpWire.fabric l.fn.session.wire.now ≡ Some fabric → IsGood fabric → g.W.SmpWire.fabric l.session.wire.now ≡ Some fabric;
  went : (fabric : FabricState) → g.W.SmpWire.fabric l.fn.session.wire.now ≡ Some fabric → IsSweepable fabric → (found : List Found) (one : Found)
      → l.fn.switch.path ≡ one.path → l.fn.switch.num_ports ≡ ports_at fabric one.node → StandsAt found l.fn.switch.place one
      → IsProgress fabric found l.fn.switch.place 0 l.fn.survey [] → GoesOn fabric found l.fn.switch.place l.before l.survey l.row;
  same_wire : l.session.wire.ghost_name ≡ l.fn.session.wire.ghost_name;
}
