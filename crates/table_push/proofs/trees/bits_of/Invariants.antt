use Rattle.std.proofs.Common.{List, ℕ, ◌≡◌, get_or, length, map, take}
use Rattle.table_push.proofs.trees.bits_of.Given as goal

abbrev pub invariant-loop-slot : goal.invariant-loop-slot
invariant-loop-slot l = record {
  long : length l.bits ≡ 32;
  are : take l.slot l.bits ≡ map (λ (row : List ℕ). get_or row l.place 0) (take l.slot l.masks);
}
