use Rattle.std.proofs.Common.{length, refl, sym, ◌∙◌}
use Rattle.text_words.specs.Lines.{body, content}
use Rattle.text_words.proofs.ContentLemmas.{found_behind, seen_behind}
use Rattle.text_words.proofs.content.has_bad_character.Goals as goal

pub returns-then-has_line_end : goal.returns-then-has_line_end
returns-then-has_line_end c =
    let n = length c.args.reported.now in
    let reported = found_behind n (body c.args.line.now) c.args.reported.now (content c.args.line.now) c.requires.reported c.requires.begins in
    let seen = seen_behind n c.body.result.now (body c.args.line.now) c.has_line_end.result c.has_line_end.ensures c.body.ensures in
    c.if-has_line_end.true ∙ sym (reported ∙ rw (sym seen ∙ c.if-has_line_end.true) refl)

pub returns-else-has_line_end : goal.returns-else-has_line_end
returns-else-has_line_end c =
    let n = length c.args.reported.now in
    let reported = found_behind n (body c.args.line.now) c.args.reported.now (content c.args.line.now) c.requires.reported c.requires.begins in
    let seen = seen_behind n c.body.result.now (body c.args.line.now) c.has_line_end.result c.has_line_end.ensures c.body.ensures in
    c.has_other_than_plain.ensures ∙ sym (reported ∙ rw (sym seen ∙ c.if-has_line_end.false) refl)
