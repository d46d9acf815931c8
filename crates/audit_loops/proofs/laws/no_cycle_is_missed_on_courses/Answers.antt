use Rattle.audit_loops.proofs.CycleLawLemmas.{no_cycle_is_missed_on_courses}
use Rattle.audit_loops.proofs.laws.no_cycle_is_missed_on_courses.Goals as goal

pub returns : goal.returns
returns c = no_cycle_is_missed_on_courses
