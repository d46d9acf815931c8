use Rattle.smp_wire.proofs.KeptLemmas.{good, joins, links, shape}
use Rattle.smp_wire.proofs.laws.exchanges_keep_the_fabric.Goals as goal

pub returns-clause-good : goal.returns-clause-good
returns-clause-good c = good

pub returns-clause-links : goal.returns-clause-links
returns-clause-links c = links

pub returns-clause-joined : goal.returns-clause-joined
returns-clause-joined c = joins

pub returns-clause-shape : goal.returns-clause-shape
returns-clause-shape c = shape
