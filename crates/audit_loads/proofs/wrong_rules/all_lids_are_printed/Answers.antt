use Rattle.audit_loads.proofs.WrongTextLemmas.{all_lids_are_printed}
use Rattle.audit_loads.proofs.wrong_rules.all_lids_are_printed.Goals as goal

pub returns : goal.returns
returns c = all_lids_are_printed
