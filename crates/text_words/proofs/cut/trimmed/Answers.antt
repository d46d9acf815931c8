use Rattle.std.proofs.lemmas.Str.Ascii.{trim_ascii_end_is}
use Rattle.text_words.proofs.cut.trimmed.Goals as goal

pub returns : goal.returns
returns c = trim_ascii_end_is c.args.line.now c.trim_ascii_end.result.now c.trim_ascii_end.ensures.value
