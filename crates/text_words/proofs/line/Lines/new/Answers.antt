use Rattle.text_words.proofs.LineLemmas.{length-lines}
use Rattle.text_words.proofs.line.Lines.new.Goals as goal

pub returns-clause-count : goal.returns-clause-count
returns-clause-count c = length-lines c.args.text.now
