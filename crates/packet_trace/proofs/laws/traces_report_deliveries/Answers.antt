use Rattle.packet_trace.proofs.LawLemmas.{traces_report_deliveries}
use Rattle.packet_trace.proofs.laws.traces_report_deliveries.Goals as goal

pub returns : goal.returns
returns c = traces_report_deliveries
