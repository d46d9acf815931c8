use Rattle.audit_routes.proofs.PrintedLemmas.{all_lines_are_printed}
use Rattle.audit_routes.proofs.laws.all_lines_are_printed.Goals as goal

pub returns : goal.returns
returns c = all_lines_are_printed
