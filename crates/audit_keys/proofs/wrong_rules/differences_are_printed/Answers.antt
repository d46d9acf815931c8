use Rattle.audit_keys.proofs.WrongPrintLemmas.{differences_are_printed}
use Rattle.audit_keys.proofs.wrong_rules.differences_are_printed.Goals as goal

pub returns : goal.returns
returns c = differences_are_printed
