use Rattle.sa_replies.proofs.NoteLemmas.{notes_encode_tables}
use Rattle.sa_replies.proofs.laws.notes_encode_tables.Goals as goal

pub returns : goal.returns
returns c = notes_encode_tables
