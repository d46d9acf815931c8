use Rattle.std.proofs.Common.{◌≡◌, ◌<◌, ◌≤◌, ◌++◌, ◌∙◌, ap, append_assoc, get_or, length, sym, take, List}
use Rattle.std.specs.List.{enumerate_from, flat_map}
use Rattle.cable_cuts.proofs.PlacedLemmas.{all_there, one_more}
use Rattle.cable_cuts.specs.Masks.{mask_change_at, mask_held}
use Rattle.cable_cuts.specs.declared.masks.MaskChange.{MaskChange}
use Rattle.cable_cuts.proofs.masks.push_changes_at.Goals as goal

pub loop-number-preserved : goal.loop-number-preserved
loop-number-preserved c =
    let partitions = c.args.configuration.now.partitions in
    let reported = mask_change_at (mask_held c.args.before.now) (mask_held c.args.after.now) c.args.switch.now in
    let items = c.partitions-heading-items.ensures in
    let inside : c.loop-number.number < length partitions = rw items at c.loop-number-test.true in
    let here : get_or partitions c.loop-number.number c.heading-item.result ≡ c.heading-item.result = sym (rw items at c.heading-item.is) in
    c.in_ok-push_change.ensures
    ∙ ap (λ (all : List MaskChange). all ++ reported (c.loop-number.number, c.heading-item.result)) c.loop-number.invariant
    ∙ append_assoc c.args.all.now.items (flat_map reported (take c.loop-number.number (enumerate_from 0 partitions))) (reported (c.loop-number.number, c.heading-item.result))
    ∙ ap (λ (more : List MaskChange). c.args.all.now.items ++ more) (sym (one_more reported partitions c.loop-number.number c.heading-item.result inside here))

pub returns : goal.returns
returns c =
    let reported = mask_change_at (mask_held c.args.before.now) (mask_held c.args.after.now) c.args.switch.now in
    let past : length c.args.configuration.now.partitions ≤ c.loop-number.number = rw c.partitions-heading-items.ensures at c.loop-number-test.false in
    c.loop-number.invariant
    ∙ ap (λ (all : List MaskChange). c.args.all.now.items ++ all) (all_there reported c.args.configuration.now.partitions c.loop-number.number past)
