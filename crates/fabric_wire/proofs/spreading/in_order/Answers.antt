use Rattle.std.proofs.lemmas.List.Filters.{dedup_is}
use Rattle.fabric_wire.proofs.ReceiverLemmas.{ordered, same_numbers, the_same}
use Rattle.fabric_wire.proofs.spreading.in_order.Goals as goal

pub returns-clause-order : goal.returns-clause-order
returns-clause-order c =
    ordered c.sort_unstable.new.self.items c.dedup.new.self.items c.sort_unstable.ensures.sorted
    (dedup_is same_numbers c.sort_unstable.new.self.items c.dedup.new.self.items c.dedup.ensures.filtered)

pub returns-clause-same : goal.returns-clause-same
returns-clause-same c one =
    the_same c.args.numbers.items c.sort_unstable.new.self.items c.dedup.new.self.items one c.sort_unstable.ensures.permutation
    (dedup_is same_numbers c.sort_unstable.new.self.items c.dedup.new.self.items c.dedup.ensures.filtered)
