use Rattle.std.proofs.Common.{◌+◌, ◌∙◌, ap, sym, subst, slice_get, List, filter, take, Vec, Global}
use Rattle.std.proofs.lemmas.Option.{slice_get-get_or}
use Rattle.std.proofs.lemmas.List.{take_all}
use Rattle.fabric_parts.specs.declared.cable.Cable.{Cable}
use Rattle.cable_cuts.proofs.LossLemmas.{listed_can_be_cut, no_more, one_more}
use Rattle.cable_cuts.specs.Cables.{joins_switches}
use Rattle.cable_cuts.specs.Outcomes.{AreLossesOf}
use Rattle.cable_cuts.specs.declared.loss.Loss.{Loss}
use Rattle.cable_cuts.proofs.loss.losses.Goals.{then-joins_switches+in_ok-outcome+in_ok-push, else-joins_switches}
use Rattle.cable_cuts.proofs.loss.losses.Goals as goal

pub outcome-requires-clause-cable : goal.outcome-requires-clause-cable
outcome-requires-clause-cable c =
    listed_can_be_cut c.args.topology.now c.loop-cable.cable-index _
    (ap (λ (cables : List Cable). slice_get cables c.loop-cable.cable-index) (sym c.cables-cable-items.ensures.value)
    ∙ slice_get-get_or c.cables-cable-items.result.now c.loop-cable.cable-index _ c.loop-cable-test.true)
    (sym c.if-joins_switches.ensures)

pub loop-cable-preserved : goal.loop-cable-preserved
loop-cable-preserved c = elim c.if-joins_switches.branch [
  | then-joins_switches+in_ok-outcome+in_ok-push w ↦
      one_more c.args.topology.now c.args.configuration.now c.args.routes.now c.cables-cable-items.result.now c.loop-cable.cable-index _ c.loop-cable-test.true
      w.in_ok-outcome.outcome c.loop-cable.all.items _ (sym w.if-joins_switches.ensures) w.in_ok-outcome.ensures
      (ap (λ (all : Vec Loss Global). all.items) w.all-is ∙ w.in_ok-push.ensures.items) c.loop-cable.invariant
  | else-joins_switches w ↦
      subst (λ (all : List Loss). AreLossesOf c.args.topology.now c.args.configuration.now c.args.routes.now
      (filter (joins_switches c.args.topology.now.nodes) (take (c.loop-cable.cable-index + 1) c.cables-cable-items.result.now)) all) (sym (ap (λ (all : Vec Loss Global). all.items) w.all-is))
      (no_more c.args.topology.now c.args.configuration.now c.args.routes.now c.cables-cable-items.result.now c.loop-cable.cable-index _ c.loop-cable-test.true
      c.loop-cable.all.items (sym w.if-joins_switches.ensures) c.loop-cable.invariant)
]

pub returns : goal.returns
returns c =
    subst (λ (cables : List Cable). AreLossesOf c.args.topology.now c.args.configuration.now c.args.routes.now (filter (joins_switches c.args.topology.now.nodes) cables) c.loop-cable.all.items)
    (take_all c.loop-cable.cable-index c.cables-cable-items.result.now c.loop-cable-test.false ∙ c.cables-cable-items.ensures.value) c.loop-cable.invariant
