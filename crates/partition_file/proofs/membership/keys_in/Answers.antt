use Rattle.std.proofs.Common.{◌≡◌, ◌+◌, ◌∷◌, drop, sym, ap, ◌∙◌}
use Rattle.partition_file.specs.declared.partition.Partition.{Partition}
use Rattle.partition_file.proofs.MemberLemmas.{goes_on, next_left}
use Rattle.partition_file.proofs.membership.keys_in.Goals as goal

pub loop-partition-preserved : goal.loop-partition-preserved
loop-partition-preserved c =
    let at = c.loop-partition in
    let all = c.args.partitions.now in
    let partition = c.partition-item.result in
    let rest = drop (at.partition-index + 1) all in
    let cut : drop at.partition-index all ≡ partition ∷ rest =
    next_left all at.partition-index partition c.loop-partition-test.true ∙ ap (λ (first : Partition). first ∷ rest) (sym c.partition-item.is) in
    rw c.add_key.ensures (goes_on c.args.port.now partition (drop at.partition-index all) rest at.keys all cut at.invariant)
