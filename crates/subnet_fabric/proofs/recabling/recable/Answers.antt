use Rattle.std.proofs.Common.{◌≡◌, ◌∙◌, ap, refl, subst, sym, true, Bool, if◌then◌else◌, List}
use Rattle.std.specs.Bool.{Decides}
use Rattle.std.specs.Option.{ForSome}
use Rattle.std.proofs.lemmas.Bool.{false≢true}
use Rattle.std.proofs.lemmas.Option.{same_Some}
use Rattle.fabric_wire.specs.Recabling.{can_change, changed}
use Rattle.smp_wire.specs.FabricState.{FabricState}
use Rattle.smp_wire.specs.Good.{SwitchesJoined}
use Rattle.subnet_fabric.proofs.PlanningLemmas.{plan_decides, routes_are_planned, routes_by_rule}
use Rattle.subnet_fabric.proofs.StandingLemmas.{good_next, is_moved, is_recabled, it_is_planned, no_fault, roots_named, roots_then, stays, stays_so}
use Rattle.subnet_fabric.specs.BringUp.{root_guids}
use Rattle.subnet_fabric.specs.Planning.{ArePlannedOver, is_routed}
use Rattle.subnet_fabric.specs.SetUp.{CanBeSetUp, IsByRule, IsNotSetUp, IsSetUpBy, are_switches}
use Rattle.sweep.specs.Graph.{IsGraph}
use Rattle.updn_routes.specs.Routes.{SwitchRoutesState}
use Rattle.subnet_fabric.proofs.recabling.recable.Goals as goal

pub returns-then-not-can_change-clause-all : goal.returns-then-not-can_change-clause-all
returns-then-not-can_change-clause-all c = (
  stays c.args.topology.now c.args.keys.now c.args.routes.now c.args.fabric.now c.known_sound.ensures c.known_kept.ensures.good c.requires
      c.args.command.now.cable.first c.args.command.now.cable.second c.args.command.now.up (sym c.if-not-can_change.ensures),
  refl,
)

pub plan-requires-clause-may : goal.plan-requires-clause-may
plan-requires-clause-may c =
    (it_is_planned c.args.topology.now c.args.keys.now c.args.routes.now c.args.fabric.now c.known_sound.ensures c.known_kept.ensures.good c.requires
    c.args.command.now.cable.first c.args.command.now.cable.second c.args.command.now.up (sym c.if-not-can_change.ensures) c.requires.up.set_up.home.graph).may

pub plan-requires-clause-named : goal.plan-requires-clause-named
plan-requires-clause-named c =
    roots_named c.args.topology.now c.args.keys.now c.args.routes.now c.args.fabric.now c.known_sound.ensures c.known_kept.ensures.good c.requires

pub returns-then-not-is_routed-clause-all : goal.returns-then-not-is_routed-clause-all
returns-then-not-is_routed-clause-all c =
    let can : can_change c.args.command.now.cable.first c.args.command.now.cable.second c.args.command.now.up c.args.fabric.now ≡ true = sym c.if-not-can_change.ensures in
    let graph : IsGraph c.args.routes.now.graph = c.requires.up.set_up.home.graph in
    let next : FabricState = changed c.args.command.now.cable.first c.args.command.now.cable.second c.args.command.now.up c.args.fabric.now in
    let planned =
    it_is_planned c.args.topology.now c.args.keys.now c.args.routes.now c.args.fabric.now c.known_sound.ensures c.known_kept.ensures.good c.requires
    c.args.command.now.cable.first c.args.command.now.cable.second c.args.command.now.up can graph in
    let good =
    good_next c.args.topology.now c.args.keys.now c.args.routes.now c.args.fabric.now c.known_sound.ensures c.known_kept.ensures.good c.requires
    c.args.command.now.cable.first c.args.command.now.cable.second c.args.command.now.up can graph in
    let decided : Decides (is_routed c.in_ok-planned.planned) (CanBeSetUp next (root_guids c.args.topology.now)) =
    plan_decides next (root_guids c.args.topology.now) c.in_ok-planned.planned (c.in_ok-planned.ensures.all next good planned.layout) in (
      stays_so c.args.topology.now c.args.keys.now c.args.routes.now c.args.fabric.now c.known_sound.ensures c.known_kept.ensures.good c.requires
          c.args.command.now.cable.first c.args.command.now.cable.second c.args.command.now.up can graph
          (λ ready. absurd (false≢true (c.if-not-is_routed.ensures ∙ decided.1 ready))),
      refl,
    )

-- ---- once it is changed
pub set_up_by-requires-clause-swept : goal.set_up_by-requires-clause-swept
set_up_by-requires-clause-swept c =
    let can : can_change c.args.command.now.cable.first c.args.command.now.cable.second c.args.command.now.up c.args.fabric.now ≡ true = sym c.if-not-can_change.ensures in
    let graph : IsGraph c.args.routes.now.graph = c.requires.up.set_up.home.graph in
    let next : FabricState = changed c.args.command.now.cable.first c.args.command.now.cable.second c.args.command.now.up c.args.fabric.now in
    let planned =
    it_is_planned c.args.topology.now c.args.keys.now c.args.routes.now c.args.fabric.now c.known_sound.ensures c.known_kept.ensures.good c.requires
    c.args.command.now.cable.first c.args.command.now.cable.second c.args.command.now.up can graph in
    let good =
    good_next c.args.topology.now c.args.keys.now c.args.routes.now c.args.fabric.now c.known_sound.ensures c.known_kept.ensures.good c.requires
    c.args.command.now.cable.first c.args.command.now.cable.second c.args.command.now.up can graph in
    let ready : CanBeSetUp next (root_guids c.args.topology.now) =
    (plan_decides next (root_guids c.args.topology.now) c.in_ok-planned.planned (c.in_ok-planned.ensures.all next good planned.layout)).0
    (sym c.if-not-is_routed.ensures) in
    let is : c.set_cable.new.self ≡ next =
    c.set_cable.ensures ∙ ap (λ (goes : Bool). if goes then next else c.args.fabric.now) can in
    record { good = c.known_kept-2.ensures.good; links = c.known_kept-2.ensures.links; joined = subst SwitchesJoined (sym is) ready.joined }

pub set_up_by-requires-clause-roots : goal.set_up_by-requires-clause-roots
set_up_by-requires-clause-roots c =
    let can : can_change c.args.command.now.cable.first c.args.command.now.cable.second c.args.command.now.up c.args.fabric.now ≡ true = sym c.if-not-can_change.ensures in
    let next : FabricState = changed c.args.command.now.cable.first c.args.command.now.cable.second c.args.command.now.up c.args.fabric.now in
    let is : c.set_cable.new.self ≡ next =
    c.set_cable.ensures ∙ ap (λ (goes : Bool). if goes then next else c.args.fabric.now) can in
    subst (λ (fabric : FabricState). are_switches fabric c.deref.result.now ≡ true) (sym is)
    (subst (λ (roots : List _). are_switches next roots ≡ true) (sym (c.deref.ensures.value ∙ c.in_ok-roots.ensures))
    (roots_then c.args.topology.now c.args.keys.now c.args.routes.now c.args.fabric.now c.known_sound.ensures c.known_kept.ensures.good c.requires
    c.args.command.now.cable.first c.args.command.now.cable.second c.args.command.now.up can c.requires.up.set_up.home.graph))

pub set_up_by-requires-clause-planned : goal.set_up_by-requires-clause-planned
set_up_by-requires-clause-planned c =
    let can : can_change c.args.command.now.cable.first c.args.command.now.cable.second c.args.command.now.up c.args.fabric.now ≡ true = sym c.if-not-can_change.ensures in
    let graph : IsGraph c.args.routes.now.graph = c.requires.up.set_up.home.graph in
    let next : FabricState = changed c.args.command.now.cable.first c.args.command.now.cable.second c.args.command.now.up c.args.fabric.now in
    let planned =
    it_is_planned c.args.topology.now c.args.keys.now c.args.routes.now c.args.fabric.now c.known_sound.ensures c.known_kept.ensures.good c.requires
    c.args.command.now.cable.first c.args.command.now.cable.second c.args.command.now.up can graph in
    let good =
    good_next c.args.topology.now c.args.keys.now c.args.routes.now c.args.fabric.now c.known_sound.ensures c.known_kept.ensures.good c.requires
    c.args.command.now.cable.first c.args.command.now.cable.second c.args.command.now.up can graph in
    let is : c.set_cable.new.self ≡ next =
    c.set_cable.ensures ∙ ap (λ (goes : Bool). if goes then next else c.args.fabric.now) can in
    let routes : ForSome c.into_routes.result (ArePlannedOver next (root_guids c.args.topology.now)) =
    subst (λ some. ForSome some (ArePlannedOver next (root_guids c.args.topology.now))) (sym c.into_routes.ensures)
    (routes_are_planned next (root_guids c.args.topology.now) c.in_ok-planned.planned (c.in_ok-planned.ensures.all next good planned.layout)) in
    subst (λ (fabric : FabricState). ForSome c.into_routes.result (ArePlannedOver fabric c.deref.result.now)) (sym is)
    (subst (λ (roots : List _). ForSome c.into_routes.result (ArePlannedOver next roots)) (sym (c.deref.ensures.value ∙ c.in_ok-roots.ensures)) routes)

pub set_up_by-requires-clause-ruled : goal.set_up_by-requires-clause-ruled
set_up_by-requires-clause-ruled c =
    subst (λ rule. ForSome c.into_routes.result (IsByRule rule)) (sym (c.rule-rule.ensures ∙ ap (λ (between : SwitchRoutesState). between.rule) c.between.ensures))
    (subst (λ some. ForSome some (IsByRule c.args.routes.now.between.rule)) (sym c.into_routes.ensures)
    (routes_by_rule c.args.routes.now.between.rule c.in_ok-planned.planned c.in_ok-planned.ensures.ruled))

pub returns-in-Ok-clause-ruled : goal.returns-in-Ok-clause-ruled
returns-in-Ok-clause-ruled c some same =
    let is : IsByRule c.args.routes.now.between.rule c.in-Ok.routes = rw (c.rule-rule.ensures, c.between.ensures) at c.in-Ok.ensures.ruled in
    subst (IsByRule c.args.routes.now.between.rule) (same_Some c.in-Ok.routes some same) is

pub returns-in-Ok-clause-all : goal.returns-in-Ok-clause-all
returns-in-Ok-clause-all c =
    let can : can_change c.args.command.now.cable.first c.args.command.now.cable.second c.args.command.now.up c.args.fabric.now ≡ true = sym c.if-not-can_change.ensures in
    let graph : IsGraph c.args.routes.now.graph = c.requires.up.set_up.home.graph in
    let next : FabricState = changed c.args.command.now.cable.first c.args.command.now.cable.second c.args.command.now.up c.args.fabric.now in
    let planned =
    it_is_planned c.args.topology.now c.args.keys.now c.args.routes.now c.args.fabric.now c.known_sound.ensures c.known_kept.ensures.good c.requires
    c.args.command.now.cable.first c.args.command.now.cable.second c.args.command.now.up can graph in
    let good =
    good_next c.args.topology.now c.args.keys.now c.args.routes.now c.args.fabric.now c.known_sound.ensures c.known_kept.ensures.good c.requires
    c.args.command.now.cable.first c.args.command.now.cable.second c.args.command.now.up can graph in
    let ready : CanBeSetUp next (root_guids c.args.topology.now) =
    (plan_decides next (root_guids c.args.topology.now) c.in_ok-planned.planned (c.in_ok-planned.ensures.all next good planned.layout)).0
    (sym c.if-not-is_routed.ensures) in
    let set = subst (λ (roots : List _). IsSetUpBy c.set_cable.new.self roots c.args.keys.now c.in-Ok.routes c.set_up_by.new.fabric)
    (c.deref.ensures.value ∙ c.in_ok-roots.ensures) c.in-Ok.ensures.all in
    let set_there = subst (λ (was : FabricState). IsSetUpBy was (root_guids c.args.topology.now) c.args.keys.now c.in-Ok.routes c.set_up_by.new.fabric) c.set_cable.ensures set in (
      is_recabled c.args.topology.now c.args.keys.now c.args.routes.now c.args.fabric.now c.known_sound.ensures c.known_kept.ensures.good c.requires
          c.args.command.now.cable.first c.args.command.now.cable.second c.args.command.now.up can graph c.set_up_by.new.fabric c.in-Ok.routes ready set_there,
      is_moved c.args.topology.now c.args.keys.now c.args.routes.now c.args.fabric.now c.known_sound.ensures c.known_kept.ensures.good c.requires
          c.args.command.now.cable.first c.args.command.now.cable.second c.args.command.now.up can graph c.set_up_by.new.fabric c.in-Ok.routes set_there,
    )

-- memory alone is refused: all else was planned for
pub returns-clause-all : goal.returns-clause-all
returns-clause-all c =
    let can : can_change c.args.command.now.cable.first c.args.command.now.cable.second c.args.command.now.up c.args.fabric.now ≡ true = sym c.if-not-can_change.ensures in
    let graph : IsGraph c.args.routes.now.graph = c.requires.up.set_up.home.graph in
    let next : FabricState = changed c.args.command.now.cable.first c.args.command.now.cable.second c.args.command.now.up c.args.fabric.now in
    let planned =
    it_is_planned c.args.topology.now c.args.keys.now c.args.routes.now c.args.fabric.now c.known_sound.ensures c.known_kept.ensures.good c.requires
    c.args.command.now.cable.first c.args.command.now.cable.second c.args.command.now.up can graph in
    let good =
    good_next c.args.topology.now c.args.keys.now c.args.routes.now c.args.fabric.now c.known_sound.ensures c.known_kept.ensures.good c.requires
    c.args.command.now.cable.first c.args.command.now.cable.second c.args.command.now.up can graph in
    let ready : CanBeSetUp next (root_guids c.args.topology.now) =
    (plan_decides next (root_guids c.args.topology.now) c.in_ok-planned.planned (c.in_ok-planned.ensures.all next good planned.layout)).0
    (sym c.if-not-is_routed.ensures) in
    let is : c.set_cable.new.self ≡ next =
    c.set_cable.ensures ∙ ap (λ (goes : Bool). if goes then next else c.args.fabric.now) can in
    no_fault c.args.topology.now c.args.keys.now c.args.routes.now c.args.fabric.now c.known_sound.ensures c.known_kept.ensures.good c.requires
    c.args.command.now.cable.first c.args.command.now.cable.second c.args.command.now.up can graph c.in-Err.fault ready
    (subst (λ (was : FabricState). IsNotSetUp was (root_guids c.args.topology.now) c.in-Err.fault) is
    (subst (λ (roots : List _). IsNotSetUp c.set_cable.new.self roots c.in-Err.fault) (c.deref.ensures.value ∙ c.in_ok-roots.ensures) c.in-Err.ensures.all.0))
