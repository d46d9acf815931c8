use Rattle.std.proofs.Common.{ap, ◌==◌, ◌∙◌}
use Rattle.std.specs.List.{list_any}
use Rattle.partition_reports.proofs.ChangedBaseLemmas.{sorted_bases}
use Rattle.partition_reports.proofs.changed_bases.bases_named.Goals as goal

pub returns : goal.returns
returns c =
    let grown = c.in_ok-extend_from_slice.ensures.items in
    let all = rw (c.deref.ensures.value, c.in_ok-others.ensures, c.in_ok-bases.ensures) at grown in
    sorted_bases c.args.before.now c.args.after.now c.rising.result.items c.rising.ensures.order
    (λ n. c.rising.ensures.same n ∙ ap (list_any (λ one. one == n)) all)
