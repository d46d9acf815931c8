use Rattle.audit_loads.proofs.TextLemmas.{all_pairs_are_printed}
use Rattle.audit_loads.proofs.laws.all_pairs_are_printed.Goals as goal

pub returns : goal.returns
returns c = all_pairs_are_printed
