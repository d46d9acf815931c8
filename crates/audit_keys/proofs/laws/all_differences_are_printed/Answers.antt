use Rattle.audit_keys.proofs.PrintLemmas.{all_differences_are_printed}
use Rattle.audit_keys.proofs.laws.all_differences_are_printed.Goals as goal

pub returns : goal.returns
returns c = all_differences_are_printed
