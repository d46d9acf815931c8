use Rattle.std.proofs.Common.{◌+◌, refl, sym}
use Rattle.std.proofs.lemmas.List.{take_rest}
use Rattle.memchr.specs.Find.{is_byte}
use Rattle.netdiscover_file.proofs.CutLemmas.{found_last, found_nowhere}
use Rattle.netdiscover_file.proofs.cut.cut_at_last.Goals as goal

pub returns-in-None : goal.returns-in-None
returns-in-None c = sym (found_nowhere (is_byte c.args.wanted) c.args.text.now c.in-None.ensures)

pub returns-in-Some : goal.returns-in-Some
returns-in-Some c =
    let text = c.args.text.now in
    rw (take_rest text (c.in-Some.place + 1), found_last (is_byte c.args.wanted) text c.in-Some.place c.in-Some.ensures.0 c.in-Some.ensures.1) refl
