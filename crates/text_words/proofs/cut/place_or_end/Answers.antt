use Rattle.std.proofs.Common.{sym}
use Rattle.memchr.specs.Find.{is_byte}
use Rattle.text_words.proofs.ScanLemmas.{found_first, found_nowhere}
use Rattle.text_words.proofs.cut.place_or_end.Goals as goal

pub returns-in-None-clause-value : goal.returns-in-None-clause-value
returns-in-None-clause-value c = sym (found_nowhere (is_byte c.args.wanted) c.args.text.now c.in-None.ensures)

pub returns-in-Some-clause-value : goal.returns-in-Some-clause-value
returns-in-Some-clause-value c = sym (found_first (is_byte c.args.wanted) c.args.text.now c.in-Some.place c.in-Some.ensures.0 c.in-Some.ensures.1)
