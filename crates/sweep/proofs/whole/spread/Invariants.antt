use Rattle.std.proofs.Common.{◌≡◌, ◌<◌, ◌+◌, ◌-◌, ℕ, length}
use Rattle.std.specs.List.{range_with_len}
use Rattle.sweep.specs.Rounds.{found_at, further, is_behind, is_exactly, or_further}
use Rattle.sweep.proofs.whole.spread.Given as goal

abbrev pub invariant-loop-place : goal.invariant-loop-place
invariant-loop-place l =
    record {
      same : (s : ℕ) → s < length l.found → is_exactly (found_at l.found s) l.round ≡ is_exactly (found_at l.initial.found s) l.round;
      more : (t : ℕ) → t < length l.found
          → further l.rows l.initial.found l.round t
          ≡ or_further (found_at l.found t) (is_behind l.rows l.initial.found l.round (range_with_len l.place (length l.rows - l.place)) t) (l.round + 1);
    }
