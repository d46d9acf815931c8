use Rattle.text_streams.proofs.LawLemmas.{late_is_not}
use Rattle.text_streams.proofs.laws.late_reports_are_not_in_time.Goals as goal

pub returns : goal.returns
returns c = late_is_not
