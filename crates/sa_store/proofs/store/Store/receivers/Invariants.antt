use Rattle.std.proofs.Common.{◌≡◌, take}
use Rattle.sa_model.specs.Receivers.{receivers_of}
use Rattle.sa_store.specs.Kept.{ports_of}
use Rattle.sa_store.proofs.store.Store.receivers.Given as goal

abbrev pub invariant-loop-slots : goal.invariant-loop-slots
invariant-loop-slots l = l.receivers.items ≡ receivers_of (ports_of l.kept) l.partition (take l.slots-index l.partitions)
