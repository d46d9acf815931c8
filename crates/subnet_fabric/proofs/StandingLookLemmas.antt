-- A fabric of which a cable is cut or mended looks like that of the topology with the cables that are in place then, so one
-- can be set up where the other can.
use Rattle.std.proofs.Common.{ℕ, zero, suc, inl, inr, ◌≡◌, ◌+◌, ◌-◌, ◌==◌, ◌&&◌, ◌∙◌, nat_le, not, ap, refl, sym, subst, Bool, true, false, if◌then◌else◌, List, ◌∷◌, map, arith, slice_get, Option, Some, None, option_map}
use Rattle.std.specs.List.{list_all, range_with_len}
use Rattle.std.specs.Option.{option_map_or}
use Rattle.std.proofs.lemmas.Bool.{ne_eqb}
use Rattle.std.proofs.lemmas.Option.{slice_get-map}
use Rattle.agent_rules.specs.declared.power_up.TheConstants.{LINEAR_TABLE, MULTICAST_TABLE}
use Rattle.agent_rules.specs.declared.link.PortLink.TheVariants.{Internal}
use Rattle.attr_tables.specs.declared.port_info.PortInfo.{PortInfo}
use Rattle.fabric_parts.specs.Cable.{is_cabled, last_of}
use Rattle.fabric_parts.specs.declared.cable.Cable.{Cable}
use Rattle.fabric_parts.specs.declared.cable.PortRef.{PortRef}
use Rattle.fabric_parts.specs.declared.node_type.NodeType.{NodeType}
use Rattle.fabric_parts.specs.declared.node_type.NodeType.TheVariants as node_type
use Rattle.fabric_wire.proofs.OfTopologyLemmas.{node_at}
use Rattle.fabric_wire.specs.OfTopology.{adapter_port_of, fabric_of, link_of, links_of, named, node_of, node_of_type}
use Rattle.fabric_wire.specs.Recabling.{changed, node_linked}
use Rattle.port_model.specs.AdapterState.{AdapterState}
use Rattle.smp_wire.specs.FabricState.{FabricState}
use Rattle.smp_wire.specs.Good.{SwitchesJoined, leads, end_port_guids, is_in_order, most_ports_of}
use Rattle.smp_wire.specs.declared.node.Node.{Node}
use Rattle.smp_wire.specs.declared.node.Node.TheVariants.{Switch, Adapter}
use Rattle.switch_model.specs.SwitchState.{at_power_up as switch_at_power_up, port_at_power_up, ports_from}
use Rattle.switch_model.specs.declared.switch_port.SwitchPort.{SwitchPort}
use Rattle.subnet_fabric.proofs.RecabledLookLemmas.{LooksSame, far_was, graph_too, infos_look, kind_same, layout_too, look, walk_same}
use Rattle.subnet_fabric.proofs.RecabledNodeLemmas.{as_many, both_linked, linked_at, nodes_after}
use Rattle.subnet_fabric.proofs.RecabledPortLemmas.{by_places}
use Rattle.subnet_fabric.proofs.RecabledPowerUpLemmas.{graph_with_cut}
use Rattle.subnet_fabric.specs.Planning.{ArePlannedOver, IsPlan}
use Rattle.subnet_fabric.specs.Recabled.{with_cables}
use Rattle.subnet_fabric.specs.SetUp.{CanBeSetUp, HasNoPathFrom, IsLaidOut}
use Rattle.subnet_fabric.specs.declared.planning.Planned.{Planned}
use Rattle.subnet_fabric.specs.declared.planning.Planned.TheVariants.{Routed, NotWhole, NoLegalPath}
use Rattle.sweep.specs.Graph.{GraphState}
use Rattle.sweep.specs.Hops.{IsTooFar}
use Rattle.sweep.specs.Limits.{IsTooBig}
use Rattle.sweep.specs.OfFabric.{IsGraphOf, IsLayoutOf}
use Rattle.sweep.specs.Seen.{name_in}
use Rattle.table_push.specs.Nodes.{infos_by, numbered}
use Rattle.topo_file.specs.Topology.{TopologyState}
use Rattle.topo_file.specs.declared.node.Node.{Node as PlannedNode}
use Rattle.updn_routes.specs.Subnet.{RoutesState}

-- ---- nodes whose ports have other links
link_look : (number : ℕ) (up : Bool) (node : Node) → look (node_linked number up node) ≡ look node
link_look number up (Switch held) =
    let many = as_many number up held.ports in
    λ i. record {
      guid = held.node_guid;
      ends = end_port_guids (Switch held);
      count = many i - 1;
      right = nat_le 1 (many i - 1) && nat_le (many i - 1) (most_ports_of (Switch held));
      order = is_in_order (Switch held);
      switch = true;
      name = λ at. name_in (Switch held) at;
      seen = λ at. Some (record {
        node_type = node_type.Switch;
        num_ports = many i - 1;
        node_guid = held.node_guid;
        port_guid = held.node_guid;
        local_port_num = at;
      });
    }
link_look number up (Adapter ports) = refl

both_look : (up : Bool) (a b : PortRef) (place : ℕ) (node : Node) → look (both_linked up a b place node) ≡ look node
both_look up a b place node = one a (linked_at up b place node) ∙ one b node
  where
    one : (at : PortRef) (node : Node) → look (linked_at up at place node) ≡ look node
    one at node = by (at.node == place)
      where
        by : (here : Bool) → look (if here then node_linked at.port up node else node) ≡ look node
        by true = link_look at.port up node
        by false = refl

-- nodes that look the same at each place
same_looks : (old new : List Node) → ((k : ℕ) → option_map look (slice_get new k) ≡ option_map look (slice_get old k)) → LooksSame old new
same_looks old new each =
    by_places (map look new) (map look old) (λ k. slice_get-map look new k ∙ each k ∙ sym (slice_get-map look old k))

pub changed_looks : (a b : PortRef) (up : Bool) (fabric : FabricState) → LooksSame fabric.nodes (changed a b up fabric).nodes
changed_looks a b up fabric = same_looks fabric.nodes (changed a b up fabric).nodes each
  where
    by : (k : ℕ) (o : Option Node) → option_map look (option_map (both_linked up a b k) o) ≡ option_map look o
    by k None = refl
    by k (Some node) = ap (λ one. Some one) (both_look up a b k node)

    each : (k : ℕ) → option_map look (slice_get (changed a b up fabric).nodes k) ≡ option_map look (slice_get fabric.nodes k)
    each k = ap (option_map look) (nodes_after up a b fabric.nodes k) ∙ by k (slice_get fabric.nodes k)

-- ---- nodes of a topology with other cables
-- what is reported of the link of a port of a switch
reported : List Cable → ℕ → ℕ → PortInfo
reported cables place number = (port_at_power_up number (if number == 0 then Internal else link_of cables place number)).info

abbrev updated : List Cable → ℕ → ℕ → SwitchPort → SwitchPort
updated cables place number port = record port { info = reported cables place number }

switch_reported : (cables others : List Cable) (place first count : ℕ) → (first == 0) ≡ false
    → numbered (updated others place) first (ports_from first (map (λ number. link_of cables place number) (range_with_len first count)))
    ≡ ports_from first (map (λ number. link_of others place number) (range_with_len first count))
unfolding reported
switch_reported cables others place first zero positive = refl
switch_reported cables others place first (suc count) positive =
    let later : (first + 1 == 0) ≡ false = ne_eqb (first + 1) 0 (λ none. omega (arith, none)) in
    let rest = switch_reported cables others place (first + 1) count later in
    λ i. record (port_at_power_up first (link_of others place first)) {
      info = (port_at_power_up first (if positive i then Internal else link_of others place first)).info;
    } ∷ rest i

-- and of a port of an adapter
abbrev updated_port : List Cable → ℕ → PlannedNode → ℕ → PortInfo
updated_port cables place node number = (adapter_port_of cables place node number).info

adapter_reported : (cables others : List Cable) (place : ℕ) (node : PlannedNode) (first count : ℕ)
    → numbered (λ number port. record port { info = updated_port others place node number }) first
    (map (adapter_port_of cables place node) (range_with_len first count))
    ≡ map (adapter_port_of others place node) (range_with_len first count)
adapter_reported cables others place node first zero = refl
adapter_reported cables others place node first (suc count) =
    let rest = adapter_reported cables others place node (first + 1) count in
    λ i. adapter_port_of others place node first ∷ rest i

switch_again : (cables others : List Cable) (place : ℕ) (node : PlannedNode)
    → infos_by (λ guid number info. reported others place number) (node_of_type node_type.Switch cables place node)
    ≡ node_of_type node_type.Switch others place node
unfolding reported
switch_again cables others place node =
    let ports = switch_reported cables others place 1 node.ports refl in
    λ i. Switch (record (switch_at_power_up node.guid (named node.name) (links_of others place node.ports) LINEAR_TABLE MULTICAST_TABLE) {
      ports = port_at_power_up 0 Internal ∷ ports i;
    })

built_look : (cables others : List Cable) (of : NodeType) (place : ℕ) (node : PlannedNode)
    → look (node_of_type of others place node) ≡ look (node_of_type of cables place node)
built_look cables others node_type.Switch place node =
    ap look (sym (switch_again cables others place node))
    ∙ infos_look (λ guid number info. reported others place number) (node_of_type node_type.Switch cables place node)
built_look cables others node_type.ChannelAdapter place node =
    ap (λ (ports : List AdapterState). look (Adapter ports)) (sym (adapter_reported cables others place node 1 node.ports))
    ∙ infos_look (λ guid number info. updated_port others place node number) (node_of_type node_type.ChannelAdapter cables place node)

pub built_looks : (plan : TopologyState) (cables : List Cable) → LooksSame (fabric_of plan).nodes (fabric_of (with_cables cables plan)).nodes
built_looks plan cables = same_looks (fabric_of plan).nodes (fabric_of (with_cables cables plan)).nodes each
  where
    by : (k : ℕ) (o : Option PlannedNode)
        → option_map look (option_map (node_of cables k) o) ≡ option_map look (option_map (node_of plan.cables k) o)
    by k None = refl
    by k (Some node) = ap (λ one. Some one) (built_look plan.cables cables node.node_type k node)

    each : (k : ℕ) → option_map look (slice_get (fabric_of (with_cables cables plan)).nodes k) ≡ option_map look (slice_get (fabric_of plan).nodes k)
    each k =
        ap (option_map look) (node_at cables plan.nodes k) ∙ by k (slice_get plan.nodes k)
        ∙ sym (ap (option_map look) (node_at plan.cables plan.nodes k))

-- ---- one can be set up where another can that looks the same
recut : (fabric : FabricState) (cut : List Cable) (graph : GraphState) → IsLayoutOf graph fabric → IsLayoutOf graph (record fabric { cut = cut })
recut fabric cut graph layout = record {
  found = layout.found;
  once = layout.once;
  all = layout.all;
  manager = layout.manager;
  switches = layout.switches;
  rows = layout.rows;
  ports = layout.ports;
}

module _ (fabric : FabricState) (new : List Node) (cut : List Cable) (same : LooksSame fabric.nodes new) where
  abbrev next : FabricState
  next = record fabric { nodes = new; cut = cut }

  pub layout_over : (graph : GraphState) → IsLayoutOf graph fabric → IsLayoutOf graph next
  layout_over graph layout = recut (record fabric { nodes = new }) cut graph (layout_too fabric new same graph layout)

  leads_too : (a b : ℕ) (numbers : List ℕ) → leads fabric a numbers b ≡ true → leads next a numbers b ≡ true
  leads_too a b numbers is =
      ap (λ (ends : Option (List PortRef)). option_map_or (λ ends. (last_of (record { node = a; port = 0 }) ends).node == b) ends false)
      (walk_same fabric new same false (record { node = a; port = 0 }) numbers) ∙ is

  joined_too : SwitchesJoined fabric → SwitchesJoined next
  joined_too joined a b is is_too =
      let way = joined a b (sym (kind_same fabric new same a) ∙ is) (sym (kind_same fabric new same b) ∙ is_too) in
      (way.0, leads_too a b way.0 way.1)

  big_was : IsTooBig next → IsTooBig fabric
  big_was (inl over) = inl (record {
    some = over.some;
    once = over.once;
    are = (λ i. list_all (λ node. sym (kind_same fabric new same node) i) over.some) ∙ over.are;
    many = over.many;
  })
  big_was (inr over) = inr (record {
    some = over.some;
    once = over.once;
    are = (λ i. list_all (λ at. not (sym (kind_same fabric new same at.node) i) && is_cabled fabric.cables at) over.some) ∙ over.are;
    many = over.many;
  })

-- the same again, of two fabrics
pub record AreSeenAlike (one other : FabricState) : Type 0 where
  pub nodes : LooksSame one.nodes other.nodes
  pub cables : other.cables ≡ one.cables
  pub manager : other.manager ≡ one.manager

module _ (one other : FabricState) (alike : AreSeenAlike one other) where
  is : other ≡ record one { nodes = other.nodes; cut = other.cut }
  is =
      let cables = alike.cables in
      let manager = alike.manager in
      λ i. record { nodes = other.nodes; cables = cables i; cut = other.cut; manager = manager i }

  pub layout_alike : (graph : GraphState) → IsLayoutOf graph one → IsLayoutOf graph other
  layout_alike graph layout = subst (IsLayoutOf graph) (sym is) (layout_over one other.nodes other.cut alike.nodes graph layout)

  pub graph_alike : (graph : GraphState) → IsGraphOf graph one → IsGraphOf graph other
  graph_alike graph of =
      subst (IsGraphOf graph) (sym is)
      (graph_with_cut (record one { nodes = other.nodes }) other.cut graph (graph_too one other.nodes alike.nodes graph of))

  pub joined_alike : SwitchesJoined one → SwitchesJoined other
  joined_alike joined = subst SwitchesJoined (sym is) (joined_too one other.nodes other.cut alike.nodes joined)

  pub far_alike : IsTooFar other → IsTooFar one
  far_alike far = far_was one other.nodes other.cut alike.nodes (subst IsTooFar is far)

  pub big_alike : IsTooBig other → IsTooBig one
  big_alike big = big_was one other.nodes other.cut alike.nodes (subst IsTooBig is big)

pub seen_back : (one other : FabricState) → AreSeenAlike one other → AreSeenAlike other one
seen_back one other alike = record { nodes = sym alike.nodes; cables = sym alike.cables; manager = sym alike.manager }

laid_alike : (one other : FabricState) (graph : GraphState) → AreSeenAlike one other → IsLaidOut one graph → IsLaidOut other graph
laid_alike one other graph alike laid = record {
  layout = layout_alike one other alike graph laid.layout;
  joined = laid.joined;
  near = λ far. laid.near (far_alike one other alike far);
  small = λ big. laid.small (big_alike one other alike big);
}

pub no_path_alike : (one other : FabricState) (roots : List ℕ) (switch port : ℕ) → AreSeenAlike one other
    → HasNoPathFrom other roots switch port → HasNoPathFrom one roots switch port
no_path_alike one other roots switch port alike none = record {
  graph = none.graph;
  laid = laid_alike other one none.graph (seen_back one other alike) none.laid;
  guids = none.guids;
  assigned = none.assigned;
  refused = none.refused;
}

pub set_up_alike : (one other : FabricState) (roots : List ℕ) → AreSeenAlike one other → CanBeSetUp one roots → CanBeSetUp other roots
set_up_alike one other roots alike can = record {
  joined = joined_alike one other alike can.joined;
  near = λ far. can.near (far_alike one other alike far);
  reached = λ switch port none. can.reached switch port (no_path_alike one other roots switch port alike none);
}

-- ---- and what is planned for the one is planned for the other
pub planned_alike : (one other : FabricState) (roots : List ℕ) (routes : RoutesState) → AreSeenAlike one other → ArePlannedOver one roots routes
    → ArePlannedOver other roots routes
planned_alike one other roots routes alike planned = record {
  laid = laid_alike one other routes.graph alike planned.laid;
  assigned = planned.assigned;
  made = planned.made;
  reached = planned.reached;
  chosen = planned.chosen;
}

pub plan_alike : (one other : FabricState) (roots : List ℕ) (plan : Planned) → AreSeenAlike one other → IsPlan one roots plan → IsPlan other roots plan
plan_alike one other roots (Routed routes) alike is = (set_up_alike one other roots alike is.0, planned_alike one other roots routes alike is.1)
plan_alike one other roots NotWhole alike is =
    let back = seen_back one other alike in
    λ whole. is (joined_alike other one back whole.0, λ far. whole.1 (far_alike other one back far))
plan_alike one other roots (NoLegalPath switch port) alike is = no_path_alike other one roots switch port (seen_back one other alike) is
