use Rattle.sa_replies.proofs.NamedNoteLemmas.{notes_name_sources}
use Rattle.sa_replies.proofs.laws.notes_name_sources.Goals as goal

pub returns : goal.returns
returns c = notes_name_sources
