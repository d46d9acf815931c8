use Rattle.headline_laws.proofs.WrongLemmas.{runs_report_no_far_packet}
use Rattle.headline_laws.proofs.wrong_rules.runs_report_no_far_packet.Goals as goal

pub returns : goal.returns
returns c = runs_report_no_far_packet
