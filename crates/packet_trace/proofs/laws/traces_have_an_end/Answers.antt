use Rattle.packet_trace.proofs.LawLemmas.{traces_have_an_end}
use Rattle.packet_trace.proofs.laws.traces_have_an_end.Goals as goal

pub returns : goal.returns
returns c = traces_have_an_end
