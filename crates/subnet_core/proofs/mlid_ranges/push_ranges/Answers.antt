use Rattle.std.proofs.Common.{◌∙◌, ap, length, refl, take}
use Rattle.std.proofs.lemmas.List.{length-set}
use Rattle.std.proofs.lemmas.Option.{slice_get-get_or}
use Rattle.subnet_core.proofs.ReceiveLemmas.{in_its_range}
use Rattle.subnet_core.proofs.MlidRangeLemmas.{more_kept, one_kept, ranges_make, slices_more}
use Rattle.subnet_core.specs.Served.{receives_at}
use Rattle.subnet_core.specs.MlidRanges.{AgreesWith, ranges_pushed, where_in}
use Rattle.subnet_core.proofs.mlid_ranges.push_ranges.Goals as goal

pub push_range-requires-clause-kept : goal.push_range-requires-clause-kept
push_range-requires-clause-kept c =
    let base = c.requires.kept.0 in
    let was = c.requires.kept.1 in
    let kept = c.requires.kept.2 in
    let ports = c.args.registry.now.configuration.ports in
    let partitions = c.args.registry.now.administration.remembered.partitions in
    let now = receives_at ports partitions in
    let numbers = take c.loop-number.number-index c.args.numbers.now in
    let agrees : AgreesWith c.args.registry.now now = λ number mlid lid here. in_its_range ports mlid lid number partitions c.requires.sound here in (
      base,
      where_in numbers now was,
      record {
        masks = c.loop-number.invariant.pushed.is ∙ ap (ranges_pushed c.args.routes.now c.args.registry.now numbers) kept.masks
            ∙ ranges_make c.args.routes.now c.args.registry.now now base agrees numbers was;
        right = c.loop-number.invariant.right was now agrees kept.right;
      },
    )

pub loop-number-preserved : goal.loop-number-preserved
loop-number-preserved c = record {
  whole = ap length c.in_ok-push_range.ensures.received ∙ length-set c.loop-number.received.items _ _ ∙ c.loop-number.invariant.whole;
  pushed = slices_more c.args.routes.now c.args.registry.now c.args.numbers.now c.loop-number.number-index _ c.args.fabric.now c.loop-number.fabric c.push_range.new.fabric
      (slice_get-get_or c.args.numbers.now c.loop-number.number-index _ c.loop-number-test.true) c.loop-number.invariant.pushed c.in_ok-push_range.ensures.pushed;
  right = λ was now agrees right.
      more_kept c.loop-number.number-index _ c.args.numbers.now was now c.push_range.new.received.items (slice_get-get_or c.args.numbers.now c.loop-number.number-index _ c.loop-number-test.true)
      (one_kept c.args.registry.now _ (where_in (take c.loop-number.number-index c.args.numbers.now) now was) now c.loop-number.received.items c.push_range.new.received.items _
      refl agrees c.in_ok-push_range.ensures.received (c.loop-number.invariant.right was now agrees right));
}
