use Rattle.std.proofs.Common.{◌∙◌, ap, sym, slice_get, subst, List}
use Rattle.std.proofs.lemmas.List.{take_all}
use Rattle.std.proofs.lemmas.Option.{slice_get-get_or}
use Rattle.fabric_parts.specs.declared.cable.Cable.{Cable}
use Rattle.cable_cuts.proofs.LossLemmas.{listed_can_be_cut}
use Rattle.cable_cuts.proofs.NeededLemmas.{one_more}
use Rattle.cable_cuts.specs.Needed.{AreNeeded}
use Rattle.cable_cuts.proofs.keeping.needed.Goals as goal

pub is_needed-requires-clause-cable : goal.is_needed-requires-clause-cable
is_needed-requires-clause-cable c =
    listed_can_be_cut c.args.topology.now c.loop-cable.cable-index _
    (ap (λ (cables : List Cable). slice_get cables c.loop-cable.cable-index) (sym c.cables-cable-items.ensures.value)
    ∙ slice_get-get_or c.cables-cable-items.result.now c.loop-cable.cable-index _ c.loop-cable-test.true)

pub loop-cable-preserved : goal.loop-cable-preserved
loop-cable-preserved c =
    one_more c.args.topology.now c.cables-cable-items.result.now c.loop-cable.cable-index _ c.loop-cable.all.items _ c.in_ok-is_needed.field-0
    c.loop-cable-test.true c.loop-cable.invariant c.in_ok-is_needed.ensures c.in_ok-push.ensures.items

pub returns : goal.returns
returns c =
    subst (λ (cables : List Cable). AreNeeded c.args.topology.now cables c.loop-cable.all.items)
    (take_all c.loop-cable.cable-index c.cables-cable-items.result.now c.loop-cable-test.false ∙ c.cables-cable-items.ensures.value) c.loop-cable.invariant
