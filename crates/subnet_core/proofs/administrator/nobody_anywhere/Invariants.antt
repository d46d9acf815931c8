use Rattle.std.proofs.Common.{◌≡◌, [], length}
use Rattle.std.specs.List.{All}
use Rattle.subnet_core.proofs.administrator.nobody_anywhere.Given as goal

abbrev pub invariant-loop-number : goal.invariant-loop-number
invariant-loop-number l = All (λ receivers. receivers ≡ []) l.received.items × (length l.received.items ≡ l._number)
