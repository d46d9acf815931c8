use Rattle.std.proofs.Common.{◌≡◌, ◌++◌, take}
use Rattle.sa_model.specs.Groups.{first_mlid}
use Rattle.sa_store.specs.Kept.{ports_of}
use Rattle.sa_store.proofs.PushedLemmas.{received_of}
use Rattle.sa_store.proofs.receivers.push_receivers.Given as goal

abbrev pub invariant-loop-place : goal.invariant-loop-place
invariant-loop-place l =
    l.receivers.items ≡ l.initial.receivers.items ++ received_of (ports_of l.kept) (first_mlid l.partition.number) (take l.place l.slots)
