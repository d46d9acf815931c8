use Rattle.std.proofs.Common.{drop}
use Rattle.text_words.proofs.NumberLemmas.{IsLeft}
use Rattle.text_words.proofs.number.wide_digits_in.Given as goal

abbrev pub invariant-loop-byte : goal.invariant-loop-byte
invariant-loop-byte l = IsLeft l.radix l.value (drop l.byte-index l.digits) l.digits
