use Rattle.audit_loads.proofs.WrongLemmas.{pairs_count_once}
use Rattle.audit_loads.proofs.wrong_rules.pairs_count_once.Goals as goal

pub returns : goal.returns
returns c = pairs_count_once
