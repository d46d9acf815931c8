use Rattle.switch_model.proofs.FateLemmas.{fates_report_ways_out}
use Rattle.switch_model.proofs.laws.fates_report_ways_out.Goals as goal

pub returns : goal.returns
returns c = fates_report_ways_out
