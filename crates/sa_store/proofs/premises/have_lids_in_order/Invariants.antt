use Rattle.std.proofs.Common.{◌≡◌, ◌+◌, drop}
use Rattle.sa_store.specs.Premises.{have_lids_from}
use Rattle.sa_store.proofs.premises.have_lids_in_order.Given as goal

abbrev pub invariant-loop-place : goal.invariant-loop-place
invariant-loop-place l = have_lids_from (l.place + 1) (drop l.place l.ports) ≡ have_lids_from 1 l.ports
