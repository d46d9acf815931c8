use Rattle.partition_reports.proofs.CountLemmas.{any_is_less, few_in_any, few_in_both_before, few_in_both_now}
use Rattle.partition_reports.proofs.counting.kept_count.Goals as goal

pub pair_count-now-requires : goal.pair_count-now-requires
pair_count-now-requires c =
    record { full = rw (c.both_full_now_count.ensures, c.both_count-both.ensures) (few_in_both_now c.args.members.now) }

pub pair_count-before-requires : goal.pair_count-before-requires
pair_count-before-requires c =
    record { full = rw (c.both_full_before_count.ensures, c.both_count-both.ensures) (few_in_both_before c.args.members.now) }

pub pair_count-any-requires : goal.pair_count-any-requires
pair_count-any-requires c =
    record { full = rw (c.any_full_count.ensures, c.both_count-both.ensures) (few_in_any c.args.members.now) }

pub overflow_sub-result : goal.overflow_sub-result
overflow_sub-result c =
    rw (c.pair_count-any.ensures, c.pair_count-now.ensures, c.pair_count-before.ensures, c.any_full_count.ensures, c.both_full_now_count.ensures, c.both_full_before_count.ensures, c.both_count-both.ensures)
    (any_is_less c.args.members.now)
