-- What the fabric of a topology is without a cable, and what is planned for it.
use Rattle.std.proofs.Common.{◌≡◌, ℕ, Bool, true, false, if◌then◌else◌, ◌==◌, ◌∙◌, List, filter, map, refl, ap, subst, inl, inr}
use Rattle.std.specs.List.{list_all, list_any}
use Rattle.std.proofs.lemmas.Bool.{and_from}
use Rattle.fabric_parts.specs.declared.cable.Cable.{Cable}
use Rattle.fabric_parts.specs.declared.cable.PortRef.{PortRef}
use Rattle.fabric_wire.proofs.OfTopologyLemmas.{switch_there}
use Rattle.fabric_wire.proofs.OfTopologyWalkLemmas.{joined}
use Rattle.fabric_wire.specs.Cabling.{is_between, is_not_between}
use Rattle.fabric_wire.specs.OfTopology.{fabric_of}
use Rattle.fabric_wire.specs.Recabling.{can_change, changed}
use Rattle.smp_wire.specs.FabricState.{FabricState, is_switch_at}
use Rattle.smp_wire.specs.Good.{IsGood, SwitchesJoined}
use Rattle.subnet_fabric.proofs.RecabledLookLemmas.{LooksSame, kind_same, look}
use Rattle.subnet_fabric.proofs.RecabledPowerUpLemmas.{all_show}
use Rattle.subnet_fabric.proofs.StandingLemmas.{good_next, it_is_planned, next_alike, roots_named}
use Rattle.subnet_fabric.proofs.StandingListedLemmas.{brought_up_stands}
use Rattle.subnet_fabric.proofs.StandingLookLemmas.{AreSeenAlike, far_alike, joined_alike, plan_alike, seen_back}
use Rattle.subnet_fabric.specs.BringUp.{root_guids}
use Rattle.subnet_fabric.specs.Planning.{IsPlan, MayBePlannedIn, planned_in}
use Rattle.subnet_fabric.specs.Recabled.{with_cables}
use Rattle.subnet_fabric.specs.Standing.{IsStanding}
use Rattle.subnet_fabric.specs.declared.planning.Planned.TheVariants.{Routed, NotWhole, NoLegalPath as NoPath}
use Rattle.sweep.proofs.SweptLemmas.{whole_graphs_are_swept}
use Rattle.sweep.specs.Graph.{IsGraph}
use Rattle.sweep.specs.Hops.{IsTooFar}
use Rattle.sweep.specs.OfFabric.{IsLayoutOf}
use Rattle.topo_file.proofs.WalkLemmas.{joined_if}
use Rattle.topo_file.specs.Connectivity.{is_connected}
use Rattle.topo_file.specs.Node.{is_switch_at as is_planned_at}
use Rattle.topo_file.specs.Sound.{IsSound}
use Rattle.topo_file.specs.Topology.{TopologyState}
use Rattle.updn_routes.specs.Subnet.{RoutesState, guids_of}
use Rattle.cable_cuts.proofs.FarLemmas.{far_or_whole}
use Rattle.cable_cuts.proofs.SoundLemmas.{first_switch, is_there, second_switch, sound_without}
use Rattle.cable_cuts.specs.Cables.{can_be_cut, without_cable}
use Rattle.cable_cuts.specs.Fate.{HaveBroughtUp, IsFate, IsStop}
use Rattle.cable_cuts.specs.declared.fate.Cut.TheVariants.{Keeps, Stops}
use Rattle.cable_cuts.specs.declared.fate.Stop.TheVariants.{Apart, TooFar, NoLegalPath}
use Rattle.subnet_fabric.specs.SetUp.{IsByRule}

module _ (plan : TopologyState) (routes : RoutesState) (cable : Cable) (sound : IsSound plan) (up : HaveBroughtUp plan routes)
    (can : can_be_cut plan cable ≡ true) where
  abbrev a : PortRef
  a = cable.first

  abbrev b : PortRef
  b = cable.second

  -- ---- the fabric that is up
  standing : IsStanding plan up.keys routes up.fabric
  standing = brought_up_stands plan up.keys routes up.fabric up.by

  good : IsGood up.fabric
  good = standing.up.good

  graph : IsGraph routes.graph
  graph = up.by.home.graph

  cables_are : up.fabric.cables ≡ plan.cables
  cables_are = ap (λ (one : FabricState). one.cables) up.by.is

  looks : LooksSame (fabric_of plan).nodes up.fabric.nodes
  looks = ap (λ (one : FabricState). map look one.nodes) up.by.is ∙ all_show routes up.keys (fabric_of plan)

  switch_is : (node : ℕ) → is_planned_at plan.nodes node ≡ true → is_switch_at up.fabric.nodes node ≡ true
  switch_is node is = kind_same (fabric_of plan) up.fabric.nodes looks node ∙ switch_there plan.cables plan.nodes node ∙ is

  goes : can_change a b false up.fabric ≡ true
  goes =
      and_from (is_switch_at up.fabric.nodes a.node) _ (switch_is a.node (first_switch plan cable can))
      (and_from (is_switch_at up.fabric.nodes b.node) _ (switch_is b.node (second_switch plan cable can))
      (ap (list_any (is_between a b)) cables_are ∙ is_there plan cable can))

  -- ---- and what it is without the cable
  abbrev pub cut_fabric : FabricState
  cut_fabric = changed a b false up.fabric

  pub good_cut : IsGood cut_fabric
  good_cut = good_next plan up.keys routes up.fabric sound good standing a b false goes graph

  abbrev pub left : TopologyState
  left = without_cable cable plan

  pub cut_alike : AreSeenAlike cut_fabric (fabric_of left)
  cut_alike =
      subst (λ (cables : List Cable). AreSeenAlike cut_fabric (fabric_of (with_cables (filter (is_not_between a b) cables) plan))) cables_are
      (next_alike plan up.keys routes up.fabric sound good standing a b false goes graph)

  pub left_alike : AreSeenAlike (fabric_of left) cut_fabric
  left_alike = seen_back cut_fabric (fabric_of left) cut_alike

  pub named : list_all (λ root. list_any (λ guid. guid == root) (guids_of routes.graph)) (root_guids plan) ≡ true
  named = roots_named plan up.keys routes up.fabric sound good standing

  -- ---- its graph
  pub may : MayBePlannedIn plan cable false routes.graph
  may = (it_is_planned plan up.keys routes up.fabric sound good standing a b false goes graph).may

  pub layout : IsLayoutOf (planned_in plan cable false routes.graph) cut_fabric
  layout = (it_is_planned plan up.keys routes up.fabric sound good standing a b false goes graph).layout

  -- ---- where it is not, the topology reports why
  pub is_unswept : IsPlan cut_fabric (root_guids plan) NotWhole → IsStop left (if is_connected left.nodes left.cables then TooFar else Apart)
  is_unswept never = by (is_connected left.nodes left.cables) refl
    where
      far : SwitchesJoined cut_fabric → IsTooFar (fabric_of left)
      far each = elim (far_or_whole cut_fabric (planned_in plan cable false routes.graph) good_cut layout each) [
        | inl too_far ↦ far_alike (fabric_of left) cut_fabric left_alike too_far
        | inr whole ↦ absurd (never ((whole_graphs_are_swept cut_fabric (planned_in plan cable false routes.graph) good_cut layout).0 whole))
      ]

      by : (connected : Bool) → is_connected left.nodes left.cables ≡ connected → IsStop left (if connected then TooFar else Apart)
      by false is = is
      by true is = (
        is,
        far (joined_alike (fabric_of left) cut_fabric left_alike
            (joined left (sound_without plan cable can sound (joined_if left.nodes left.cables is)))),
      )

  -- ---- what is planned for it becomes of the topology's
  pub is_fate : (others : RoutesState) → IsPlan cut_fabric (root_guids plan) (Routed others) → IsByRule routes.between.rule others
      → IsFate routes.between.rule left (Keeps others)
  is_fate others is ruled =
      let there = plan_alike cut_fabric (fabric_of left) (root_guids plan) (Routed others) cut_alike is in
      (there.0, there.1, ruled)

  pub is_stop : (switch port : ℕ) → IsPlan cut_fabric (root_guids plan) (NoPath switch port) → IsFate routes.between.rule left (Stops (NoLegalPath switch port))
  is_stop switch port is = plan_alike cut_fabric (fabric_of left) (root_guids plan) (NoPath switch port) cut_alike is
