use Rattle.std.proofs.Common.{◌∙◌, ap}
use Rattle.pkey_rules.specs.PKey.{is_base}
use Rattle.partition_reports.proofs.SumLemmas.{base_at, line_more}
use Rattle.partition_reports.proofs.sums.sums_text.Goals as goal

pub sum_of-requires-clause-base : goal.sum_of-requires-clause-base
sum_of-requires-clause-base c =
    ap (λ heading. is_base heading.base) c.heading-item.is
    ∙ base_at c.args.headings.now c.loop-heading.heading-index c.heading-item.result c.requires.bases c.loop-heading-test.true

pub loop-heading-preserved : goal.loop-heading-preserved
loop-heading-preserved c =
    rw (c.in_ok-push_sum_line.ensures, c.sum_of.ensures, c.loop-heading.invariant)
    (line_more c.args.ports.now c.args.headings.now c.loop-heading.heading-index c.heading-item.result c.heading-item.result c.loop-heading-test.true c.heading-item.is)
