use Rattle.sa_model.proofs.SourceLemmas.{selected_say_their_source}
use Rattle.sa_model.proofs.query_laws.selected_say_their_source.Goals as goal

pub returns : goal.returns
returns c = selected_say_their_source
