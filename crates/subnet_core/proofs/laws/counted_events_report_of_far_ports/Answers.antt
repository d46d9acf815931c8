use Rattle.subnet_core.proofs.WrongLemmas.{counted_events_report_of_far_ports}
use Rattle.subnet_core.proofs.laws.counted_events_report_of_far_ports.Goals as goal

pub returns : goal.returns
returns c = counted_events_report_of_far_ports
