use Rattle.packet_trace.proofs.LawLemmas.{adapters_accept}
use Rattle.packet_trace.proofs.laws.adapters_accept.Goals as goal

pub returns : goal.returns
returns c = adapters_accept
