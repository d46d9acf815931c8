use Rattle.std.proofs.Common.{◌≡◌, ◌+◌, ◌-◌, ◌≤◌, ℕ, count_by, length, arith}
use Rattle.partition_reports.specs.Pairs.{pair_count}
use Rattle.partition_reports.specs.Counts.{is_full_now, is_now, kept_count}
use Rattle.partition_reports.specs.ChangedPairs.{new_pairs}
use Rattle.partition_reports.proofs.CountLemmas.{few_now, new_and_kept}
use Rattle.partition_reports.proofs.counting.new_pair_count.Goals as goal

pub pair_count-requires : goal.pair_count-requires
pair_count-requires c = record { full = rw (c.full_count.ensures, c.now_count.ensures) (few_now c.args.members.now) }

pub overflow_sub-result : goal.overflow_sub-result
overflow_sub-result c =
    let all = new_and_kept c.args.members.now in
    rw (c.kept_count.ensures, c.pair_count.ensures, c.now_count.ensures, c.full_count.ensures) (omega (arith, all))

pub returns : goal.returns
returns c =
    let all = new_and_kept c.args.members.now in
    rw (c.kept_count.ensures, c.pair_count.ensures, c.now_count.ensures, c.full_count.ensures) (omega (arith, all))
