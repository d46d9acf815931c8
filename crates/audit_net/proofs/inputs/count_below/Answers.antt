use Rattle.std.proofs.Common.{nat_lt, rules}
use Rattle.std.proofs.lemmas.List.Sorted.{IsPartitionPoint-from_clause, IsPartitionedBy-ltb}
use Rattle.audit_net.proofs.inputs.count_below.Goals as goal

pub returns : goal.returns
returns c =
    let parted = IsPartitionedBy-ltb (λ row. row.lid) _ c.args.lid c.requires in
    IsPartitionPoint-from_clause (λ row. nat_lt row.lid c.args.lid) _ _ c.partition_point.ensures.partitioned parted (λ a r q k. search rules)
