use Rattle.std.proofs.Common.{subst}
use Rattle.std.proofs.lemmas.List.Sorted.{IsNonDecreasingBy-from_sort}
use Rattle.std.specs.List.Sorted.{IsPermutation}
use Rattle.subnet_fabric.proofs.GuidOrderLemmas.{own_guids, sorted_guids}
use Rattle.subnet_fabric.proofs.guid_order.GuidOrder.of.Goals as goal

pub invariant_of-result : goal.invariant_of-result
invariant_of-result c = IsNonDecreasingBy-from_sort (λ x. x) c.sort_unstable.new.self.items c.sort_unstable.ensures.sorted

pub returns : goal.returns
unfolding own_guids
returns c =
    let sorted = c.sort_unstable.new.self.items in
    sorted_guids c.args.ports.now sorted (subst (λ xs. IsPermutation xs sorted) c.in_ok-guids.ensures c.sort_unstable.ensures.permutation)
