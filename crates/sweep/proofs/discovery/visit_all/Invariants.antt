use Rattle.std.proofs.Common.{List, [], ◌≡◌, Some}
use Rattle.smp_wire.specs.FabricState.{FabricState}
use Rattle.smp_wire.specs.Good.{IsGood}
use Rattle.sweep.specs.OfFabric.{Found}
use Rattle.sweep.specs.Progress.{IsProgress}
use Rattle.sweep.specs.Sweeps.{GoesOn, IsSweepable}
use Rattle.sweep.proofs.discovery.visit_all.Given as goal

-- the fabric stands as it did, and the first switches were asked
abbrev pub invariant-loop-place : goal.invariant-loop-place
invariant-loop-place g l = record {
  left : (fabric : FabricState) → g.W.SmpWire.fabric l.fn.session.wire.now ≡ Some fabric → IsGood fabric → g.W.SmpWire.fabric l.session.wire.now ≡ Some fabric;
  went : (fabric : FabricState) → g.W.SmpWire.fabric l.fn.session.wire.now ≡ Some fabric → IsSweepable fabric → (found : List Found)
      → IsProgress fabric found 0 0 l.fn.survey [] → GoesOn fabric found l.place 0 l.survey [];
  same_wire : l.session.wire.ghost_name ≡ l.fn.session.wire.ghost_name;
}
