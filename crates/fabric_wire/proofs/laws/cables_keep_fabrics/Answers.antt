use Rattle.fabric_wire.proofs.RecablingLemmas.{cables_keep_good}
use Rattle.fabric_wire.proofs.RecablingLinkLemmas.{cables_keep_links}
use Rattle.fabric_wire.proofs.laws.cables_keep_fabrics.Goals as goal

pub returns-clause-good : goal.returns-clause-good
returns-clause-good c = cables_keep_good

pub returns-clause-links : goal.returns-clause-links
returns-clause-links c = cables_keep_links
