use Rattle.std.proofs.Common.{Some, ap}
use Rattle.std.proofs.lemmas.Result.{on_ok_weaker}
use Rattle.sa_store.specs.MlidRange.{SlotGroup}
use Rattle.sa_store.proofs.joining.enter_slot.Goals as goal

pub returns-in-Some-clause-next : goal.returns-in-Some-clause-next
returns-in-Some-clause-next c =
    rw c.in-Some.is (on_ok_weaker c.enter.result (λ new. ap (λ (group : SlotGroup). Some group) new) c.enter.ensures.next)
