use Rattle.std.proofs.Common.{ap, ◌==◌, ◌∙◌}
use Rattle.std.specs.List.{list_any}
use Rattle.pkey_rules.specs.PKey.{base_of}
use Rattle.partition_reports.proofs.BaseLemmas.{any_mapped_both}
use Rattle.partition_reports.proofs.bases.bases_of_both.Goals as goal

pub returns : goal.returns
returns c =
    let grown = c.in_ok-extend_from_slice.ensures.items in
    let all = rw (c.deref.ensures.value, c.in_ok-behind.ensures, c.in_ok-bases.ensures) at grown in
    record {
      rising = c.rising.ensures.order;
      same = λ base. c.rising.ensures.same base
          ∙ ap (list_any (λ one. one == base)) all
          ∙ any_mapped_both base_of (λ one. one == base) c.args.keys.now c.args.others.now;
    }
