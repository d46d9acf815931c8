use Rattle.text_streams.proofs.LawLemmas.{others_are_no_part}
use Rattle.text_streams.proofs.laws.others_are_no_part.Goals as goal

pub returns : goal.returns
returns c = others_are_no_part
