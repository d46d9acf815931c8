use Rattle.fabric_wire.specs.TwoSwitches.{two_switches}
use Rattle.fabric_wire.proofs.OfTopologyGoodLemmas.{good}
use Rattle.fabric_wire.proofs.OfTopologyLinksLemmas.{links}
use Rattle.fabric_wire.proofs.OfTopologyWalkLemmas.{joined}
use Rattle.fabric_wire.proofs.TwoSwitchesLemmas.{sound}
use Rattle.fabric_wire.proofs.laws.the_two_switch_fabric_is_good.Goals as goal

pub returns-clause-sound : goal.returns-clause-sound
returns-clause-sound c = sound

pub returns-clause-good : goal.returns-clause-good
returns-clause-good c = good two_switches sound

pub returns-clause-links : goal.returns-clause-links
returns-clause-links c = links two_switches

pub returns-clause-joined : goal.returns-clause-joined
returns-clause-joined c = joined two_switches sound
