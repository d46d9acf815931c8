use Rattle.std.proofs.Common.{◌≡◌, ◌+◌, true, ◌==◌, length, nat_lt, arith}
use Rattle.std.specs.List.{position_or_len}
use Rattle.std.proofs.lemmas.Bool.{lt-ltb}
use Rattle.std.proofs.lemmas.List.{take_rest}
use Rattle.step_results.proofs.PlaceLemmas.{list_any_place}
use Rattle.text_words.proofs.cut.cut_at.Goals as goal

pub returns : goal.returns
returns c =
    let text = c.args.text.now in
    let there : nat_lt (position_or_len (λ byte. byte == c.args.wanted) text) (length text) ≡ true = rw (← c.place_or_end-place.ensures.value) (lt-ltb c.place_or_end-place.result (length text) (omega arith)) in
    rw (list_any_place (λ byte. byte == c.args.wanted) text, there, c.place_or_end-place.ensures.value, take_rest text (position_or_len (λ byte. byte == c.args.wanted) text + 1)) (grind arith)
