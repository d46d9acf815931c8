use Rattle.std.proofs.Common.{rules, nat_lt, ap, ◌+◌, sym, ◌∙◌}
use Rattle.std.proofs.lemmas.List.Sorted.{IsPartitionPoint-from_clause, IsPartitionedBy-ltb}
use Rattle.subnet_fabric.proofs.GuidOrderLemmas.{count_is_cut}
use Rattle.subnet_fabric.proofs.guid_order.GuidOrder.lid_of.Goals as goal

pub returns : goal.returns
returns c ports same =
    let guids = c.self.inside.guids.items in
    let guid = c.args.port.now.guid in
    let cut = IsPartitionPoint-from_clause (λ other. nat_lt other guid) guids c.partition_point.result
    (rw c.deref.ensures.value at c.partition_point.ensures.partitioned) (IsPartitionedBy-ltb (λ other. other) guids guid c.self.invariant) (λ a r f called. search rules) in
    rw c.if-port.false (ap (λ n. 2 + n) (sym (count_is_cut (λ other. nat_lt other guid) 0 guids c.partition_point.result (rw c.deref.ensures.value at c.partition_point.ensures.bound) cut) ∙ rw c.self.view_is (same.below guid)))
