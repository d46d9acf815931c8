use Rattle.std.proofs.Common.{refl}
use Rattle.smp_wire.specs.DeliveryExamples.{two_switches}
use Rattle.smp_wire.proofs.ExampleFreeLemmas.{holds_back_nothing}
use Rattle.smp_wire.proofs.DeliveryExampleLemmas.{forwards}
use Rattle.smp_wire.proofs.delivery_laws.the_two_switch_fabric_forwards_by_lid.Goals as goal

pub returns : goal.returns
returns c = forwards two_switches 6 (holds_back_nothing two_switches refl refl refl) refl refl
