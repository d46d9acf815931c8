-- What is planned over the graph of a fabric.
use Rattle.std.proofs.Common.{ℕ, ◌≡◌, ◌∙◌, ap, refl, subst, Bool, true, false, List}
use Rattle.std.specs.Bool.{Decides}
use Rattle.std.specs.Option.{ForSome}
use Rattle.std.proofs.lemmas.Bool.{false≢true}
use Rattle.std.proofs.lemmas.Option.{none-some, same_Some}
use Rattle.fabric_parts.specs.declared.cable.Cable.{Cable}
use Rattle.fabric_parts.specs.declared.cable.PortRef.{PortRef}
use Rattle.smp_wire.specs.FabricState.{FabricState}
use Rattle.smp_wire.specs.Good.{IsGood}
use Rattle.subnet_fabric.specs.Planning.{ArePlannedOver, IsPlan, IsPlannedBy, RoutesGive, is_routed, planned, planned_in, port_in, routes_in}
use Rattle.subnet_fabric.specs.SetUp.{CanBeSetUp, IsByRule, IsLaidOut}
use Rattle.subnet_fabric.specs.declared.planning.Planned.{Planned}
use Rattle.subnet_fabric.specs.declared.planning.Planned.TheVariants.{Routed, NotWhole, NoLegalPath}
use Rattle.sweep.proofs.SmallLemmas.{not_too_big}
use Rattle.sweep.proofs.SweptLemmas.{whole_graphs_are_swept}
use Rattle.sweep.specs.Graph.{GraphState, IsGraph}
use Rattle.sweep.specs.OfFabric.{IsLayoutOf}
use Rattle.sweep.specs.Recabled.{IsWhole}
use Rattle.topo_file.specs.Topology.{TopologyState}
use Rattle.updn_routes.specs.Subnet.{guids_of}
use Rattle.updn_routes.specs.declared.tie_rule.TieRule.{TieRule}

-- ---- the graph
pub guids_stay : (up : Bool) (a b : PortRef) (graph : GraphState) → guids_of (planned up a b graph) ≡ guids_of graph
guids_stay true a b graph = refl
guids_stay false a b graph = refl

pub it_is_planned_in : (plan : TopologyState) (cable : Cable) (up : Bool) (first second : PortRef) (graph was next : GraphState) → was ≡ graph
    → first ≡ port_in plan was cable.first → second ≡ port_in plan was cable.second → next ≡ planned up first second was
    → next ≡ planned_in plan cable up graph
it_is_planned_in plan cable up first second graph was next here one two is =
    let one_is : first ≡ port_in plan graph cable.first = one ∙ ap (λ (graph : GraphState). port_in plan graph cable.first) here in
    let two_is : second ≡ port_in plan graph cable.second = two ∙ ap (λ (graph : GraphState). port_in plan graph cable.second) here in
    is ∙ (λ i. planned up (one_is i) (two_is i) (here i))

-- ---- where it is whole, it is what routes make of it
module _ (fabric : FabricState) (graph : GraphState) (roots : List ℕ) (good : IsGood fabric) (layout : IsLayoutOf graph fabric) where
  pub whole_is_laid_out : IsGraph graph → IsWhole graph → IsLaidOut fabric graph
  whole_is_laid_out is whole = record {
    layout = layout;
    joined = whole.joined;
    near = ((whole_graphs_are_swept fabric graph good layout).0 whole).1;
    small = λ big. not_too_big fabric graph good is layout big;
  }

  pub is_plan : IsWhole graph → (plan : Planned) → RoutesGive fabric roots plan → IsPlan fabric roots plan
  is_plan whole (Routed routes) give =
      let swept = (whole_graphs_are_swept fabric graph good layout).0 whole in
      (record { joined = swept.0; near = swept.1; reached = give.0 }, give.1)
  is_plan whole NotWhole give = absurd give
  is_plan whole (NoLegalPath switch port) give = give

  pub is_not_whole : (IsWhole graph → ⊥) → IsPlan fabric roots NotWhole
  is_not_whole never whole = never ((whole_graphs_are_swept fabric graph good layout).1 whole)

-- ---- whether it can be set up
pub plan_decides : (fabric : FabricState) (roots : List ℕ) (plan : Planned) → IsPlan fabric roots plan → Decides (is_routed plan) (CanBeSetUp fabric roots)
plan_decides fabric roots (Routed routes) is = (λ routed. is.0, λ can. refl)
plan_decides fabric roots NotWhole is = (λ routed. absurd (false≢true routed), λ can. absurd (is (can.joined, can.near)))
plan_decides fabric roots (NoLegalPath switch port) is = (λ routed. absurd (false≢true routed), λ can. absurd (can.reached switch port is))

-- ---- its routes, if it has some
pub routes_are_planned : (fabric : FabricState) (roots : List ℕ) (plan : Planned) → IsPlan fabric roots plan
    → ForSome (routes_in plan) (ArePlannedOver fabric roots)
routes_are_planned fabric roots (Routed routes) is = λ some same. subst (ArePlannedOver fabric roots) (same_Some routes some same) is.1
routes_are_planned fabric roots NotWhole is = λ some same. absurd (none-some some same)
routes_are_planned fabric roots (NoLegalPath switch port) is = λ some same. absurd (none-some some same)

pub routes_by_rule : (rule : TieRule) (plan : Planned) → IsPlannedBy rule plan → ForSome (routes_in plan) (IsByRule rule)
routes_by_rule rule (Routed routes) is = λ some same. subst (IsByRule rule) (same_Some routes some same) is
routes_by_rule rule NotWhole is = λ some same. absurd (none-some some same)
routes_by_rule rule (NoLegalPath switch port) is = λ some same. absurd (none-some some same)
