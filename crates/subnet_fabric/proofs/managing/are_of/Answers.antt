use Rattle.std.proofs.Common.{◌≡◌, ◌∙◌, ap, arith, length, slice_get, sym, List, ℕ}
use Rattle.std.proofs.lemmas.Option.{slice_get-get_or}
use Rattle.subnet_fabric.proofs.ManagedLemmas.{is_nothing, more_same, none_last, nothing_is, same_list}
use Rattle.subnet_fabric.proofs.managing.are_of.Goals as goal

pub loop-place-init : goal.loop-place-init
loop-place-init c k within = absurd (omega (arith, within))

pub loop-place-preserved : goal.loop-place-preserved
loop-place-preserved c =
    more_same c.args.lids.now c.args.ports.now c.loop-place.place _ c.loop-place.invariant (c.is_at-is_there.ensures.yes c.if-not-is_there.false)
    (slice_get-get_or c.args.ports.now c.loop-place.place _ c.loop-place-test.true)

pub returns-clause-same : goal.returns-clause-same
returns-clause-same c none =
    let test = c.loop-place-test.false in
    same_list c.args.lids.now c.args.ports.now (λ k within. c.loop-place.invariant k (omega (arith, within, test)))
    (sym c.guid_at.ensures ∙ is_nothing c.guid_at.result c.is_none.result c.is_none.ensures none)

pub returns-clause-all : goal.returns-clause-all
returns-clause-all c same =
    nothing_is c.guid_at.result c.is_none.result c.is_none.ensures
    (c.guid_at.ensures ∙ ap (λ (xs : List ℕ). slice_get xs (length c.args.ports.now)) same ∙ none_last c.args.ports.now)
