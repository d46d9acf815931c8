use Rattle.audit_loops.proofs.WrongLemmas.{marked_entries_count}
use Rattle.audit_loops.proofs.wrong_rules.marked_entries_count.Goals as goal

pub returns : goal.returns
returns c = marked_entries_count
