use Rattle.sa_replies.proofs.TableLemmas.{tables_are_brought_whole}
use Rattle.sa_replies.proofs.run_laws.tables_are_brought_whole.Goals as goal

pub returns : goal.returns
returns c = tables_are_brought_whole
