use Rattle.text_streams.proofs.LawLemmas.{short_texts_end}
use Rattle.text_streams.proofs.laws.short_texts_end.Goals as goal

pub returns : goal.returns
returns c = short_texts_end
