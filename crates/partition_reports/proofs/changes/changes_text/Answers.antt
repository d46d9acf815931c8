use Rattle.std.proofs.Common.{◌≡◌, ◌∙◌, true, ap}
use Rattle.std.specs.List.{list_all}
use Rattle.pkey_rules.specs.PKey.{is_base}
use Rattle.partition_reports.specs.Changes.{bases_named}
use Rattle.partition_reports.proofs.ChangedBaseLemmas.{named_are_bases}
use Rattle.partition_reports.proofs.ChangeLemmas.{all_listed}
use Rattle.partition_reports.proofs.changes.changes_text.Goals as goal

pub push_listed-requires-clause-bases : goal.push_listed-requires-clause-bases
push_listed-requires-clause-bases c =
    let named : c.in_ok-bases.bases.items ≡ bases_named c.args.before.now.partitions c.args.after.now.partitions =
    rw (c.partitions.ensures, c.partitions-2.ensures) at c.in_ok-bases.ensures in
    ap (list_all is_base) (c.deref-6.ensures.value ∙ named) ∙ named_are_bases c.args.before.now.partitions c.args.after.now.partitions c.requires.headings c.requires.new_headings

pub returns : goal.returns
returns c =
    rw (
      c.in_ok-push_listed.ensures,
      c.in_ok-push_members.ensures,
      c.in_ok-push_groups.ensures,
      c.in_ok-push_partitions.ensures,
      c.new-text.ensures.items,
      c.deref.ensures.value,
      c.deref-2.ensures.value,
      c.deref-3.ensures.value,
      c.deref-4.ensures.value,
      c.deref-5.ensures.value,
      c.deref-6.ensures.value,
      c.partitions-3.ensures,
      c.partitions-4.ensures,
      c.partitions-5.ensures,
      c.partitions-6.ensures,
      c.ports-3.ensures,
      c.ports-4.ensures,
    )
    (all_listed c.args.before.now c.args.after.now c.in_ok-bases.bases.items c.in_ok-ports.ports.items
    (rw (c.partitions.ensures, c.partitions-2.ensures) at c.in_ok-bases.ensures)
    (rw (c.ports.ensures, c.ports-2.ensures) at c.in_ok-ports.ensures))
