use Rattle.std.proofs.Common.{subst, sym}
use Rattle.cable_cuts.proofs.PlanLemmas.{cut_fabric, good_cut, is_fate, is_stop, is_unswept, layout, may, named}
use Rattle.cable_cuts.specs.Cables.{without_cable}
use Rattle.cable_cuts.specs.Fate.{IsStop}
use Rattle.subnet_fabric.specs.BringUp.{root_guids}
use Rattle.subnet_fabric.specs.Planning.{IsPlan, IsPlannedBy}
use Rattle.cable_cuts.proofs.cutting.cut.Goals as goal

pub plan-requires-clause-may : goal.plan-requires-clause-may
plan-requires-clause-may c = may c.args.topology.now c.args.routes.now c.args.cable c.known_sound.ensures c.requires.up c.requires.cable

pub plan-requires-clause-named : goal.plan-requires-clause-named
plan-requires-clause-named c = named c.args.topology.now c.args.routes.now c.args.cable c.known_sound.ensures c.requires.up c.requires.cable

pub returns-in-Routed : goal.returns-in-Routed
returns-in-Routed c =
    let over = cut_fabric c.args.topology.now c.args.routes.now c.args.cable c.known_sound.ensures c.requires.up c.requires.cable in
    is_fate c.args.topology.now c.args.routes.now c.args.cable c.known_sound.ensures c.requires.up c.requires.cable c.in-Routed.others
    (subst (IsPlan over (root_guids c.args.topology.now)) c.in-Routed.is
    (c.in_ok-others.ensures.all over (good_cut c.args.topology.now c.args.routes.now c.args.cable c.known_sound.ensures c.requires.up c.requires.cable)
    (layout c.args.topology.now c.args.routes.now c.args.cable c.known_sound.ensures c.requires.up c.requires.cable)))
    (subst (IsPlannedBy c.args.routes.now.between.rule) c.in-Routed.is c.in_ok-others.ensures.ruled)

pub returns-in_ok-unswept-in-NotWhole : goal.returns-in_ok-unswept-in-NotWhole
returns-in_ok-unswept-in-NotWhole c =
    let over = cut_fabric c.args.topology.now c.args.routes.now c.args.cable c.known_sound.ensures c.requires.up c.requires.cable in
    subst (IsStop (without_cable c.args.cable c.args.topology.now)) (sym c.in_ok-unswept-in-NotWhole.ensures)
    (is_unswept c.args.topology.now c.args.routes.now c.args.cable c.known_sound.ensures c.requires.up c.requires.cable
    (subst (IsPlan over (root_guids c.args.topology.now)) c.in-NotWhole.is
    (c.in_ok-others.ensures.all over (good_cut c.args.topology.now c.args.routes.now c.args.cable c.known_sound.ensures c.requires.up c.requires.cable)
    (layout c.args.topology.now c.args.routes.now c.args.cable c.known_sound.ensures c.requires.up c.requires.cable))))

pub returns-in-NoLegalPath : goal.returns-in-NoLegalPath
returns-in-NoLegalPath c =
    let over = cut_fabric c.args.topology.now c.args.routes.now c.args.cable c.known_sound.ensures c.requires.up c.requires.cable in
    is_stop c.args.topology.now c.args.routes.now c.args.cable c.known_sound.ensures c.requires.up c.requires.cable c.in-NoLegalPath.switch
    c.in-NoLegalPath.port
    (subst (IsPlan over (root_guids c.args.topology.now)) c.in-NoLegalPath.is
    (c.in_ok-others.ensures.all over (good_cut c.args.topology.now c.args.routes.now c.args.cable c.known_sound.ensures c.requires.up c.requires.cable)
    (layout c.args.topology.now c.args.routes.now c.args.cable c.known_sound.ensures c.requires.up c.requires.cable)))
