use Rattle.std.proofs.Common.{◌≡◌, ◌<◌, ◌∙◌, ap, length, refl, subst, sym, List, slice_get, Some}
use Rattle.std.specs.Result.{IsOk}
use Rattle.std.proofs.lemmas.Bool.{false≢true}
use Rattle.std.proofs.lemmas.Option.{slice_get-get_or}
use Rattle.subnet_model.specs.declared.group_receiver.GroupReceiver.{GroupReceiver}
use Rattle.subnet_core.proofs.MlidRangeLemmas.{has_slice}
use Rattle.subnet_core.specs.MlidRanges.{IsRightIn}
use Rattle.subnet_core.proofs.mlid_ranges.push_receivers.Goals as goal

pub returns-in-Ok : goal.returns-in-Ok
returns-in-Ok c =
    let kept = c.requires.kept.2 in
    let low : c.from-place.result < length c.args.received.now = rw (c.from-place.ensures, c.requires.whole) c.requires.number in
    let there : slice_get c.args.received.now c.args.number ≡ Some c.index-received-place.result =
    ap (slice_get c.args.received.now) (sym c.from-place.ensures) ∙ slice_get-get_or c.args.received.now c.from-place.result _ low
    ∙ ap (λ (receivers : List GroupReceiver). Some receivers) (sym c.index-received-place.is) in
    let right = subst (IsRightIn c.requires.kept.1 c.args.number) (sym c.receivers.ensures) (kept.right c.args.number c.index-received-place.result there) in
    let leaves = c.push_changed.ensures.pushed c.args.fabric.now refl c.requires.stands.graph c.requires.stands.good
    (has_slice c.args.routes.now c.requires.kept.0 c.requires.kept.1 c.args.fabric.now c.args.number c.receivers.result.now kept.masks right) in
    record { done = refl; stands = leaves.stands }

pub returns-in-Err : goal.returns-in-Err
returns-in-Err c =
    let kept = c.requires.kept.2 in
    let low : c.from-place.result < length c.args.received.now = rw (c.from-place.ensures, c.requires.whole) c.requires.number in
    let there : slice_get c.args.received.now c.args.number ≡ Some c.index-received-place.result =
    ap (slice_get c.args.received.now) (sym c.from-place.ensures) ∙ slice_get-get_or c.args.received.now c.from-place.result _ low
    ∙ ap (λ (receivers : List GroupReceiver). Some receivers) (sym c.index-received-place.is) in
    let right = subst (IsRightIn c.requires.kept.1 c.args.number) (sym c.receivers.ensures) (kept.right c.args.number c.index-received-place.result there) in
    let leaves = c.push_changed.ensures.pushed c.args.fabric.now refl c.requires.stands.graph c.requires.stands.good
    (has_slice c.args.routes.now c.requires.kept.0 c.requires.kept.1 c.args.fabric.now c.args.number c.receivers.result.now kept.masks right) in
    absurd (false≢true (subst (λ result. IsOk result) c.in-Err.is leaves.done))
