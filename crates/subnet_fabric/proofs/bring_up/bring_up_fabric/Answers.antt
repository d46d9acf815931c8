use Rattle.std.proofs.Common.{◌∙◌, ℕ, List, subst}
use Rattle.fabric_wire.specs.OfTopology.{fabric_of}
use Rattle.smp_wire.specs.FabricState.{FabricState}
use Rattle.subnet_fabric.proofs.FoundLemmas.{stops}
use Rattle.subnet_fabric.proofs.RootLemmas.{roots_are_switches}
use Rattle.subnet_fabric.specs.SetUp.{IsNotSetUp}
use Rattle.subnet_fabric.proofs.bring_up.bring_up_fabric.Goals as goal

pub set_up-requires-clause-roots : goal.set_up-requires-clause-roots
set_up-requires-clause-roots c =
    rw (c.in_ok-fabric.ensures.value, c.deref.ensures.value ∙ c.in_ok-roots.ensures)
    (roots_are_switches c.args.topology.now c.known_sound.ensures)

pub returns-clause-all : goal.returns-clause-all
returns-clause-all c =
    let plan = c.args.topology.now in
    stops plan c.in-Err.fault c.known_sound.ensures
    (subst (λ (roots : List ℕ). IsNotSetUp (fabric_of plan) roots c.in-Err.fault) (c.deref.ensures.value ∙ c.in_ok-roots.ensures)
    (subst (λ (was : FabricState). IsNotSetUp was c.deref.result.now c.in-Err.fault) c.in_ok-fabric.ensures.value c.in-Err.ensures.all.0))
