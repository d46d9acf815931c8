use Rattle.std.proofs.Common.{rules, nat_le}
use Rattle.std.proofs.lemmas.List.Sorted.{IsPartitionPoint-from_clause}
use Rattle.subnet_fabric.proofs.PlacedLemmas.{are_parted, place_is_prefix}
use Rattle.subnet_fabric.proofs.end_ports.place_for.Goals as goal

pub returns-clause-value : goal.returns-clause-value
returns-clause-value c =
    let ports = c.args.ports.now in
    let lid = c.args.port.now.lid in
    place_is_prefix lid c.args.port.now ports c.partition_point.result c.partition_point.ensures.bound
    (IsPartitionPoint-from_clause (λ other. nat_le other.lid lid) ports c.partition_point.result c.partition_point.ensures.partitioned
    (are_parted lid ports c.requires) (λ a r f called. search rules))
