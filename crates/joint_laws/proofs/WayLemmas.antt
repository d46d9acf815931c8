-- What comes of a packet: along next hops to where its LID's end port is attached, and there out to it.
use Rattle.std.proofs.Common.{ℕ, ◌≡◌, ◌≤◌, ◌<◌, ◌∙◌, inl, inr, ap, refl, subst, sym, true, List, [], ◌∷◌, length, slice_get, Option, Some, None, arith}
use Rattle.std.specs.Option.{option_and_then, option_or}
use Rattle.std.proofs.lemmas.Bool.{eqb-true}
use Rattle.std.proofs.lemmas.Option.{none-some, same_Some}
use Rattle.dump_file.specs.Dump.{DumpState}
use Rattle.dump_file.specs.Row.{end_of}
use Rattle.dump_file.specs.Table.{rows_of}
use Rattle.fabric_parts.specs.Cable.{port}
use Rattle.fabric_parts.specs.declared.cable.PortRef.{PortRef}
use Rattle.audit_net.proofs.EndlessLemmas.{ways_are_followed}
use Rattle.audit_loops.specs.Channels.{leaves_by}
use Rattle.audit_net.specs.Following.{end_from, turn}
use Rattle.audit_net.specs.Laws.{IsWay}
use Rattle.audit_net.specs.OwnerLaws.{end_port_of}
use Rattle.audit_net.specs.Lids.{owner_of}
use Rattle.audit_plan.specs.Plan.{ends_of, port_of}
use Rattle.audit_net.specs.Net.{NetState}
use Rattle.smp_wire.specs.FabricState.{FabricState}
use Rattle.subnet_fabric.specs.BringUp.{IsBroughtUpBy}
use Rattle.sweep.specs.Graph.{GraphState}
use Rattle.sweep.specs.OfFabric.{Found}
use Rattle.topo_file.specs.Node.{is_switch_at}
use Rattle.topo_file.specs.Sound.{IsSound}
use Rattle.topo_file.specs.Topology.{TopologyState}
use Rattle.updn_routes.proofs.RouteLemmas.{first_step}
use Rattle.updn_routes.specs.Cabling.{leads}
use Rattle.updn_routes.specs.Choice.{is_route}
use Rattle.updn_routes.specs.Routes.{IsRouted, next_hop}
use Rattle.updn_routes.specs.Subnet.{RoutesState}
use Rattle.joint_laws.specs.RouteLaws.{comes_to, over}
use Rattle.joint_laws.specs.Shown.{HasRow, Shows}
use Rattle.audit_routes.proofs.SafeLemmas.{end_kind}
use Rattle.joint_laws.proofs.EndLemmas.{Ends, Attached, is_attached_at}
use Rattle.joint_laws.proofs.HeldTableLemmas.{hop_of, row_of_hop}
use Rattle.joint_laws.proofs.TurnLemmas.{comes_far, comes_own, far_way, goes_on, leaves, own_way}
use Rattle.joint_laws.proofs.StandLemmas.{Stands, few, goes, is_switch_there, place_for, within}

-- what the dump and the topology say of a LID's end port
pub record IsEndOf (net : NetState) (lid : ℕ) (end : PortRef) : Type 0 where
  pub guid : ℕ
  pub said : end_of lid (rows_of net.dump.tables) ≡ Some guid
  pub is : port_of net.plan.ends guid ≡ Some end

pub end_is : (plan : TopologyState) (dump : DumpState) (lid : ℕ) (end : PortRef) → end_port_of (over plan dump) lid ≡ Some end → IsEndOf (over plan dump) lid end
end_is plan dump lid end is = by (end_of lid (rows_of dump.tables)) refl (end_kind (over plan dump) lid (owner_of (over plan dump) lid) end is).0
  where
    -- a topology reports no LIDs
    by : (o : Option ℕ) → end_of lid (rows_of dump.tables) ≡ o → option_and_then (port_of (ends_of plan.nodes)) (option_or o None) ≡ Some end → IsEndOf (over plan dump) lid end
    by None said is = absurd (none-some end is)
    by (Some guid) said is = record { guid = guid; said = said; is = is }

module _ (plan : TopologyState) (sound : IsSound plan) (keys : List (List ℕ)) (routes : RoutesState) (fabric : FabricState)
    (up : IsBroughtUpBy plan keys routes fabric) (dump : DumpState) (shows : Shows (over plan dump) routes.lids fabric) where
  abbrev net : NetState
  net = over plan dump

  abbrev graph : GraphState
  graph = routes.graph

  abbrev all : List Found
  all = up.are.found.of.layout.found

  -- ---- out of the port that it is attached at
  few_by : (node number : ℕ) (end : PortRef) → Ends plan sound keys routes fabric up node number end → number ≤ 36
  few_by node number end (inl own) = omega (arith, own.0)
  few_by node number end (inr hung) = (few plan sound graph up.are.found.of node number end hung.1).1

  -- the way ends there
  ends_there : (lid node number : ℕ) (end : PortRef) → Ends plan sound keys routes fabric up node number end → HasRow net node lid number
      → IsWay net lid node [] (turn net lid node)
  ends_there lid node number end (inl own) has = own_way net node lid (subst (HasRow net node lid) own.0 has)
  ends_there lid node number end (inr hung) has =
      far_way net node lid number end has (λ top. omega (arith, top, few plan sound graph up.are.found.of node number end hung.1))
      (λ none. omega (arith, none, hung.0)) hung.1 hung.2

  comes_there : (lid node number : ℕ) (end : PortRef) → Ends plan sound keys routes fabric up node number end → HasRow net node lid number
      → (from : ℕ) → end_from net lid from ≡ Some (turn net lid node) → comes_to net from lid end ≡ true
  comes_there lid node number end (inl own) has from reported =
      subst (λ (at : PortRef). comes_to net from lid at ≡ true) (sym own.1) (comes_own net node lid (subst (HasRow net node lid) own.0 has) from reported)
  comes_there lid node number end (inr hung) has from reported =
      comes_far net node lid number end has (λ top. omega (arith, top, few plan sound graph up.are.found.of node number end hung.1))
      (λ none. omega (arith, none, hung.0)) hung.1 hung.2 from reported

  -- ---- along the route
  module _ (lid : ℕ) (end : PortRef) (is : end_port_of net lid ≡ Some end) where
    pub attached : Attached plan sound keys routes fabric up lid end
    attached = let one = end_is plan dump lid end is in is_attached_at plan sound keys routes fabric up lid one.guid end (shows.ends lid one.guid one.said) one.is

    row_there : next_hop routes.between attached.place lid ≡ Some attached.number → HasRow net attached.node lid attached.number
    row_there out =
        row_of_hop plan keys routes fabric up dump shows attached.node attached.place lid attached.number
        (is_switch_there plan sound graph up.are.found.of attached.node attached.place attached.stands) attached.stands out (few_by attached.node attached.number end attached.ends)

    abbrev Ending : ℕ → Type 0
    Ending node = (way : List ℕ) × IsWay net lid node way (turn net lid attached.node)

    follow : next_hop routes.between attached.place lid ≡ Some attached.number → (steps : List ℕ) (place node : ℕ) → Stands all node place
        → is_route routes.between.rows (λ t. next_hop routes.between t lid) place steps attached.place ≡ true → Ending node
    follow out [] place node stands route =
        let same : place ≡ attached.place = eqb-true place attached.place route in
        let one = same_Some stands.one attached.stands.one (sym stands.there ∙ ap (slice_get all) same ∙ attached.stands.there) in
        let here : node ≡ attached.node = sym stands.node_is ∙ ap (λ (f : Found). f.node) one ∙ attached.stands.node_is in
        subst Ending (sym here) ([], ends_there lid attached.node attached.number end attached.ends (row_there out))
    follow out (t ∷ steps) place node stands route =
        let f = first_step routes.between.rows (λ s. next_hop routes.between s lid) place t steps attached.place route in
        let on = goes plan sound graph up.are.found.of node place f.port t stands ((λ i. leads (sym up.home.of.rows_are i) place f.port t) ∙ f.out) in
        let range = few plan sound graph up.are.found.of node f.port on.there on.cable in
        let has : HasRow net node lid f.port =
        row_of_hop plan keys routes fabric up dump shows node place lid f.port (is_switch_there plan sound graph up.are.found.of node place stands) stands f.picked
        range.1 in
        let later = follow out steps t on.there.node on.stands f.rest in (
          on.there.node ∷ later.0,
          goes_on net node lid f.port on.there has (λ top. omega (arith, top, range)) (λ none. omega (arith, none, range)) on.cable on.switch
              attached.node later.0 later.1,
        )

    -- ---- so it is reached from each switch that has a next hop
    pub routed : (place : ℕ) → place < length routes.between.rows → IsRouted routes.between lid place attached.place attached.number
    routed place less = up.home.routed place lid attached.place attached.number less attached.home

    pub at_switch : (node place : ℕ) → Stands all node place → place < length routes.between.rows
    at_switch node place stands = let low = within plan sound graph up.are.found.of node place stands in omega (arith, low, ap length up.home.of.rows_are)

    pub comes_by : (node place first : ℕ) → is_switch_at plan.nodes node ≡ true → Stands all node place → next_hop routes.between place lid ≡ Some first
        → comes_to net node lid end ≡ true
    comes_by node place first switch stands hop =
        let way = (routed place (at_switch node place stands)).arrives first hop in
        let ending : Ending node = follow way.1.out way.0 place node stands way.1.route in
        comes_there lid attached.node attached.number end attached.ends (row_there way.1.out) node
        (ways_are_followed.reported net lid node (turn net lid attached.node) switch ending)

    pub led : (node number : ℕ) → is_switch_at plan.nodes node ≡ true → leaves_by net (port node number) lid ≡ true → comes_to net node lid end ≡ true
    led node number switch out =
        let at = place_for plan sound graph up.are.found.of node switch in
        let row = leaves net node lid number out in
        comes_by node at.0 number switch at.1 (hop_of plan keys routes fabric up dump shows node at.0 lid number switch at.1 row.has row.some)
