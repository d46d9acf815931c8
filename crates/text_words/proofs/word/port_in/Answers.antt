use Rattle.std.proofs.Common.{arith, sym, ◌∙◌}
use Rattle.text_words.proofs.WordLemmas.{port_found}
use Rattle.text_words.proofs.word.port_in.Goals as goal

pub returns : goal.returns
returns c =
    port_found c.args.word.now c.place_or_end-slash.result c.in_ok-number.number c.place_or_end-slash.ensures.value (grind arith) (grind arith) (sym c.number_in.ensures ∙ c.in_ok-number.was)
