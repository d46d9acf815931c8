use Rattle.packet_trace.proofs.WrongLemmas.{ends_are_not_all}
use Rattle.packet_trace.proofs.wrong_rules.ends_are_not_all.Goals as goal

pub returns : goal.returns
returns c = ends_are_not_all
