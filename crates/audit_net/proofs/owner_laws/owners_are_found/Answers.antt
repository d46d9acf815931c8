use Rattle.audit_net.proofs.LidLawLemmas.{owners_are_found}
use Rattle.audit_net.proofs.owner_laws.owners_are_found.Goals as goal

pub returns : goal.returns
returns c = owners_are_found
