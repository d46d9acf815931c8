use Rattle.text_streams.proofs.LawLemmas.{others_are_not_made}
use Rattle.text_streams.proofs.laws.others_are_not_made.Goals as goal

pub returns : goal.returns
returns c = others_are_not_made
