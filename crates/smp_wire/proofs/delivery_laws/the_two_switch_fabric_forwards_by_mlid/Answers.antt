use Rattle.std.proofs.Common.{refl, [], ◌∷◌}
use Rattle.smp_wire.specs.DeliveryExamples.{receives, two_switches}
use Rattle.smp_wire.proofs.ExampleFreeLemmas.{holds_back_nothing}
use Rattle.smp_wire.proofs.ExampleMlidLemmas.{forwards}
use Rattle.smp_wire.proofs.delivery_laws.the_two_switch_fabric_forwards_by_mlid.Goals as goal

pub returns : goal.returns
returns c =
    forwards two_switches receives (1 ∷ 2 ∷ 3 ∷ []) refl (λ mlid guid other. rw other refl) refl
    (holds_back_nothing two_switches refl refl refl)
