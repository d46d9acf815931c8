use Rattle.audit_keys.proofs.WrongPrintLemmas.{trunks_are_printed}
use Rattle.audit_keys.proofs.wrong_rules.trunks_are_printed.Goals as goal

pub returns : goal.returns
returns c = trunks_are_printed
