use Rattle.packet_trace.proofs.LawLemmas.{traces_show_all_ways}
use Rattle.packet_trace.proofs.laws.traces_show_all_ways.Goals as goal

pub returns : goal.returns
returns c = traces_show_all_ways
