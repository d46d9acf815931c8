use Rattle.std.proofs.Common.{◌≡◌, ◌++◌, take}
use Rattle.sa_model.specs.Receivers.{group_receivers}
use Rattle.sa_store.specs.Kept.{ports_of}
use Rattle.sa_store.specs.MlidRange.{with_mlid}
use Rattle.sa_store.proofs.receivers.push_receivers_of_group.Given as goal

abbrev pub invariant-loop-one : goal.invariant-loop-one
invariant-loop-one l =
    l.receivers.items ≡ l.initial.receivers.items ++ group_receivers (ports_of (take l.one-index l.kept)) (with_mlid l.mlid l.group)
