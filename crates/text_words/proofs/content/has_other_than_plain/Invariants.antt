use Rattle.std.proofs.Common.{◌≡◌, not, take}
use Rattle.std.specs.List.{list_any}
use Rattle.text_words.specs.Lines.{is_plain}
use Rattle.text_words.proofs.content.has_other_than_plain.Given as goal

abbrev pub invariant-loop-byte : goal.invariant-loop-byte
invariant-loop-byte l = l.found ≡ list_any (λ byte. not (is_plain byte)) (take l.byte-index l.text)
