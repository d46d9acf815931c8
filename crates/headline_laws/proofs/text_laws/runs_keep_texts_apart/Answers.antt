use Rattle.headline_laws.proofs.TextLemmas.{runs_keep_texts_apart}
use Rattle.headline_laws.proofs.text_laws.runs_keep_texts_apart.Goals as goal

pub returns : goal.returns
returns c = runs_keep_texts_apart
