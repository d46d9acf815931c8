use Rattle.fabric_wire.proofs.OfTopologyGoodLemmas.{good}
use Rattle.fabric_wire.proofs.OfTopologyLinksLemmas.{links}
use Rattle.fabric_wire.proofs.OfTopologyWalkLemmas.{joined}
use Rattle.fabric_wire.proofs.laws.topologies_give_good_fabrics.Goals as goal

pub returns-clause-good : goal.returns-clause-good
returns-clause-good c = good

pub returns-clause-links : goal.returns-clause-links
returns-clause-links c = links

pub returns-clause-joined : goal.returns-clause-joined
returns-clause-joined c = joined
