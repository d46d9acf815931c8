use Rattle.std.proofs.Common.{◌≡◌, length, map, take}
use Rattle.table_push.specs.MaskSteps.{word_at}
use Rattle.table_push.proofs.masks.words_at.Given as goal

-- the first words are those of the bits
abbrev pub invariant-loop-slot : goal.invariant-loop-slot
invariant-loop-slot l = record {
  long : length l.words ≡ 32;
  are : take l.slot l.words ≡ map (word_at l.position) (take l.slot l.bits);
}
