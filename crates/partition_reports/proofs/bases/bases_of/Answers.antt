use Rattle.std.proofs.Common.{ap, ◌==◌, ◌∙◌}
use Rattle.std.specs.List.{list_any}
use Rattle.pkey_rules.specs.PKey.{base_of}
use Rattle.partition_reports.proofs.BaseLemmas.{any_mapped}
use Rattle.partition_reports.proofs.bases.bases_of.Goals as goal

pub returns : goal.returns
returns c = record {
  rising = c.rising.ensures.order;
  same = λ base. c.rising.ensures.same base
      ∙ ap (list_any (λ one. one == base)) c.in_ok-bases.ensures
      ∙ any_mapped base_of (λ one. one == base) c.args.keys.now;
}
