use Rattle.std.proofs.Common.{sym, ◌∙◌}
use Rattle.std.proofs.lemmas.List.{take_rest}
use Rattle.text_words.specs.Lines.{is_blank}
use Rattle.text_words.proofs.LineWordsLemmas.{first_word, no_words}
use Rattle.text_words.proofs.line_words.first_word.Goals as goal

pub returns-in_err-start : goal.returns-in_err-start
returns-in_err-start c = rw c.from_residual.ensures (no_words is_blank c.args.text.now (sym c.word_start.ensures.value ∙ c.in_err-start.was))

pub returns : goal.returns
returns c =
    let text = c.args.text.now in
    let start = c.in_ok-start.start in
    rw (c.split_at.ensures.front, c.split_at.ensures.back, c.blank_or_end.ensures.value, take_rest text start)
    (first_word is_blank text start (sym c.word_start.ensures.value ∙ c.in_ok-start.was))
