use Rattle.std.proofs.Common.{◌≡◌, drop}
use Rattle.sa_model.specs.KeyOrder.{by_base}
use Rattle.sa_store.proofs.keys.by_base.Given as goal

abbrev pub invariant-loop-place : goal.invariant-loop-place
invariant-loop-place l = l.keys.items ≡ by_base (drop l.place l.held)
