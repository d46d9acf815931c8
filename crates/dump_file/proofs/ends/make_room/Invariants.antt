use Rattle.std.proofs.Common.{ℕ, ◌≡◌, length}
use Rattle.dump_file.specs.Index.{end_known}
use Rattle.dump_file.proofs.ends.make_room.Given as goal

abbrev pub invariant-loop : goal.invariant-loop
invariant-loop l = record {
  same : (other : ℕ) → end_known l.ends.items other ≡ end_known l.fn.ends.items other;
  long : length l.ends.items ≡ l.counter;
}
