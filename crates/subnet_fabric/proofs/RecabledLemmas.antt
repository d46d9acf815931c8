-- A fabric that is set up again after a cable of it was cut or mended is as brought up.
use Rattle.std.proofs.Common.{ℕ, ◌≡◌, ◌==◌, ◌||◌, not, nat_le, ◌∙◌, ap, refl, sym, subst, Bool, true, false, if◌then◌else◌, List, [], ◌∷◌, length, map, slice_get, unwrap_or, Option, Some, None, option_map, arith}
use Rattle.std.specs.List.{range_with_len}
use Rattle.std.specs.Option.{option_map_or}
use Rattle.std.proofs.lemmas.Bool.{and_parts, false≢true, leb-true, ne_eqb}
use Rattle.std.proofs.lemmas.Option.{none-some, slice_get-map}
use Rattle.agent_rules.specs.declared.link.PortLink.TheVariants.{Cabled, Uncabled, Internal}
use Rattle.agent_rules.specs.declared.power_up.TheConstants.{LINEAR_TABLE, MULTICAST_TABLE}
use Rattle.fabric_parts.specs.Cable.{far_end, is_cabled, is_same_port, port}
use Rattle.fabric_parts.specs.declared.cable.Cable.{Cable}
use Rattle.fabric_parts.specs.declared.cable.PortRef.{PortRef}
use Rattle.fabric_parts.specs.declared.node_type.NodeType.{NodeType}
use Rattle.fabric_parts.specs.declared.node_type.NodeType.TheVariants as node_type
use Rattle.fabric_wire.proofs.OfTopologyLemmas.{node_at}
use Rattle.fabric_wire.proofs.RecablingLemmas.{are_ports, asked}
use Rattle.fabric_wire.specs.Cabling.{CablingState}
use Rattle.fabric_wire.specs.OfTopology.{fabric_of, link_of, links_of, named, node_of, node_of_type}
use Rattle.fabric_wire.specs.Recabling.{cabling_with, can_change, changed, node_linked}
use Rattle.port_model.specs.AdapterState.{AdapterState, at_power_up as adapter_at_power_up}
use Rattle.updn_routes.proofs.OfFabricLemmas.{has_switch}
use Rattle.smp_wire.proofs.CableLemmas.{same_port}
use Rattle.smp_wire.specs.FabricState.{FabricState, is_port, is_switch, is_switch_at}
use Rattle.smp_wire.specs.Good.{IsGood, node_guid}
use Rattle.smp_wire.specs.declared.node.Node.{Node}
use Rattle.smp_wire.specs.declared.node.Node.TheVariants.{Switch, Adapter}
use Rattle.subnet_fabric.proofs.RecabledCableLemmas.{leads}
use Rattle.subnet_fabric.proofs.RecabledLookLemmas.{LooksSame, far_was, graph_too, look}
use Rattle.subnet_fabric.proofs.RecabledMaskLemmas.{can_unmasked, changes_unmasked, clear, masks_hidden, masks_stay, new_unmasked, pushes_unmasked, unmasked, unmasked_good}
use Rattle.subnet_fabric.proofs.RecabledPowerUpLemmas.{all_show, are_pushed, good_uncut, graph_then as graph_pushed, graph_was, graph_with_cut, was_good}
use Rattle.subnet_fabric.proofs.RecabledNodeLemmas.{both_linked, cable_stays, cabled_same, linked_at, moves, nodes_after}
use Rattle.subnet_fabric.proofs.RecabledPortLemmas.{adapters_same, by_places, left_port, link_at, linked_if, port_same, port_turned, ports_at, ports_same, pushed_port}
use Rattle.subnet_fabric.proofs.RecabledWantedLemmas.{WantsSame, adapter_same, between, switch_same, switch_too, was_between}
use Rattle.subnet_fabric.specs.Recabled.{BroughtUpIsUpWithAll, IsUpWith, RecabledIsAsBroughtUp, base_of, masks_in, with_cables}
use Rattle.subnet_fabric.specs.BringUp.{root_guids}
use Rattle.subnet_fabric.specs.SetUp.{AreAssigned, IsSetUpBy}
use Rattle.sweep.proofs.CabledLemmas.{cabled_of, far_of}
use Rattle.sweep.proofs.OwnLemmas.{own_node}
use Rattle.sweep.proofs.SmallLemmas.{not_too_big}
use Rattle.sweep.specs.Graph.{IsGraph}
use Rattle.sweep.specs.Hops.{IsTooFar}
use Rattle.sweep.specs.OfFabric.{IsGraphOf, guid_at}
use Rattle.switch_model.specs.Links.{link_of as link_when, ports_linked}
use Rattle.switch_model.specs.SwitchState.{SwitchState, at_power_up as switch_at_power_up, port_at_power_up}
use Rattle.table_push.proofs.ForgetLemmas.{pushes_forget}
use Rattle.table_push.proofs.SetUpLemmas.{node_after, with_all}
use Rattle.table_push.specs.Forget.{info_left, left_alone, switch_left, table_left}
use Rattle.table_push.specs.Keys.{keys_wanted}
use Rattle.table_push.specs.Linear.{linear_table}
use Rattle.table_push.specs.Nodes.{infos_by, keys_by, numbered, switch_by}
use Rattle.table_push.specs.Ports.{change_wanted, changed as reported_info, stays, with_top}
use Rattle.table_push.specs.Pushed.{all_pushed}
use Rattle.topo_file.specs.Node.{port_guid}
use Rattle.topo_file.specs.Topology.{TopologyState}
use Rattle.topo_file.specs.declared.node.Node.{Node as PlannedNode}
use Rattle.updn_routes.specs.Subnet.{RoutesState, place_of}

-- ---- lists of nodes
three : (f g h : Node → Node) (nodes : List Node) (k : ℕ)
    → slice_get (map f (map g (map h nodes))) k ≡ option_map (λ node. f (g (h node))) (slice_get nodes k)
three f g h nodes k =
    slice_get-map f (map g (map h nodes)) k
    ∙ ap (option_map f) (slice_get-map g (map h nodes) k ∙ ap (option_map g) (slice_get-map h nodes k))
    ∙ by (slice_get nodes k)
  where
    by : (o : Option Node) → option_map f (option_map g (option_map h o)) ≡ option_map (λ node. f (g (h node))) o
    by None = refl
    by (Some node) = refl

-- ---- a switch, and an adapter, where a port is linked
switch_linked : (up : Bool) (at : PortRef) (place : ℕ) (held : SwitchState)
    → linked_at up at place (Switch held) ≡ Switch (record held { ports = ports_at up at place held.ports })
switch_linked up at place held = by (at.node == place)
  where
    by : (b : Bool)
        → (if b then Switch (record held { ports = ports_linked at.port up held.ports }) else Switch held)
        ≡ Switch (record held { ports = if b then ports_linked at.port up held.ports else held.ports })
    by true = refl
    by false = refl

adapter_linked : (up : Bool) (a b : PortRef) (place : ℕ) (ports : List AdapterState) → both_linked up a b place (Adapter ports) ≡ Adapter ports
adapter_linked up a b place ports = by (a.node == place) (b.node == place)
  where
    under : Bool → Node
    under other = if other then node_linked b.port up (Adapter ports) else Adapter ports

    by : (one other : Bool) → (if one then node_linked a.port up (under other) else under other) ≡ Adapter ports
    by true true = refl
    by true false = refl
    by false true = refl
    by false false = refl

-- ---- cables
cabled_if : (cables : List Cable) (at there : PortRef) (on : Bool) → far_end cables at ≡ leads on there → is_cabled cables at ≡ on
cabled_if cables at there true far = cabled_of cables at there far
cabled_if cables at there false far = by (is_cabled cables at) refl
  where
    by : (b : Bool) → is_cabled cables at ≡ b → b ≡ false
    by true is = let some = far_of cables at is in absurd (none-some some.0 (sym far ∙ some.1))
    by false is = refl

link_if : (cables : List Cable) (place number : ℕ) (on : Bool) → (number == 0) ≡ false → is_cabled cables (port place number) ≡ on
    → link_at cables place number ≡ link_when on
link_if cables place number on some cabled = rw (some, cabled) refl

linear_left : (table : ℕ → List ℕ) (one other : Option ℕ) (held : List ℕ) → ((place : ℕ) → one ≡ Some place → other ≡ None → ⊥)
    → table_left other (option_map_or table one held) ≡ table_left other held
linear_left table None None held too = refl
linear_left table None (Some place) held too = refl
linear_left table (Some place) (Some other) held too = refl
linear_left table (Some place) None held too = absurd (too place refl refl)

-- the topology's fabric at power-up, of which these cables are in place, and those are cut
abbrev fabric_with_cut : CablingState → TopologyState → FabricState
fabric_with_cut cabling plan = record (fabric_of (with_cables cabling.cables plan)) { cut = cabling.cut }

module _ (plan : TopologyState) (cabling : CablingState) (keys : List (List ℕ)) (routes next : RoutesState) (a b : PortRef) (up : Bool) where
  abbrev was : FabricState
  was = all_pushed routes keys (fabric_with_cut cabling plan)

  abbrev after : FabricState
  after = changed a b up was

  abbrev left_node : Node → Node
  left_node node =
      switch_by (switch_left next) (keys_by (λ guid number. table_left (keys_wanted next keys guid number))
      (infos_by (λ guid number. info_left (change_wanted next guid number)) node))

  module _ (good : IsGood was) (can : can_change a b up was ≡ true) (whole : IsGraph routes.graph) (whole_too : IsGraph next.graph)
      (of : IsGraphOf routes.graph was) (of_next : IsGraphOf next.graph after) (assigned : AreAssigned routes.graph routes.lids)
      (assigned_too : AreAssigned next.graph next.lids) where
    -- ---- a switch
    module _ (place guid : ℕ) (switch : is_switch_at was.nodes place ≡ true) (own : guid_at was place ≡ guid) where
      record Turns (number : ℕ) : Type 0 where
        change : change_wanted routes guid number ≡ (if up then stays else between)
        held : keys_wanted routes keys guid number ≡ None
        link_was : link_at was.cables place number ≡ link_when (not up)
        link_is : link_at after.cables place number ≡ link_when up

      turns : (number : ℕ) (one two : PortRef) → one ≡ port place number → is_switch_at was.nodes two.node ≡ true → (one.port == 0) ≡ false
          → far_end was.cables one ≡ leads (not up) two → far_end after.cables one ≡ leads up two → Turns number
      turns number one two is there positive far_was far_is =
          let some : (number == 0) ≡ false = ap (λ (at : PortRef). at.port == 0) (sym is) ∙ positive in
          let here_was : far_end was.cables (port place number) ≡ leads (not up) two = ap (far_end was.cables) (sym is) ∙ far_was in
          let here_is : far_end after.cables (port place number) ≡ leads up two = ap (far_end after.cables) (sym is) ∙ far_is in
          let before = was_between a b up was good can keys routes next whole whole_too of of_next assigned assigned_too place number guid switch own two
          some there here_was in
          record {
            change = before.change;
            held = before.held;
            link_was = link_if was.cables place number (not up) some (cabled_if was.cables (port place number) two (not up) here_was);
            link_is = link_if after.cables place number up some (cabled_if after.cables (port place number) two up here_is);
          }

      positive : (at : PortRef) → is_port was.nodes at ≡ true → (at.port == 0) ≡ false
      positive at is = let low = leb-true 1 at.port (and_parts (nat_le 1 at.port) _ is).0 in ne_eqb at.port 0 (λ none. omega (arith, none, low))

      one_port : (number : ℕ)
          → left_port (change_wanted next guid number) (keys_wanted next keys guid number) (linked_if (is_same_port a (port place number)) up
          (linked_if (is_same_port b (port place number)) up (pushed_port (change_wanted routes guid number) (keys_wanted routes keys guid number)
          (port_at_power_up number (link_at was.cables place number)))))
          ≡ left_port (change_wanted next guid number) (keys_wanted next keys guid number) (port_at_power_up number (link_at after.cables place number))
      one_port number = by (is_same_port a here) refl (is_same_port b here) refl
        where
          here : PortRef
          here = port place number

          turned : (first second : Bool) → (first || second) ≡ true → Turns number
              → left_port (change_wanted next guid number) (keys_wanted next keys guid number) (linked_if first up (linked_if second up
              (pushed_port (change_wanted routes guid number) (keys_wanted routes keys guid number) (port_at_power_up number (link_at was.cables place number)))))
              ≡ left_port (change_wanted next guid number) (keys_wanted next keys guid number) (port_at_power_up number (link_at after.cables place number))
          turned first second some is =
              port_turned (change_wanted routes guid number) (change_wanted next guid number) (keys_wanted routes keys guid number) (keys_wanted next keys guid number)
              up first second number (link_at was.cables place number) (link_at after.cables place number) is.change is.held some is.link_was is.link_is

          by : (first : Bool) → is_same_port a here ≡ first → (second : Bool) → is_same_port b here ≡ second
              → left_port (change_wanted next guid number) (keys_wanted next keys guid number) (linked_if first up (linked_if second up
              (pushed_port (change_wanted routes guid number) (keys_wanted routes keys guid number) (port_at_power_up number (link_at was.cables place number)))))
              ≡ left_port (change_wanted next guid number) (keys_wanted next keys guid number) (port_at_power_up number (link_at after.cables place number))
          by true first second at =
              turned true second refl
              (turns number a b (same_port a here first) (asked a b up was can).second (positive a (are_ports a b up was good can).0)
              (moves a b up was good can).first_was (moves a b up was good can).first_is)
          by false first true at =
              turned false true refl
              (turns number b a (same_port b here at) (asked a b up was can).first (positive b (are_ports a b up was good can).1)
              (moves a b up was good can).second_was (moves a b up was good can).second_is)
          by false first false at =
              let same = switch_same a b up was good can keys routes next whole whole_too of of_next assigned assigned_too place number guid switch own first at in
              let cabled : is_cabled after.cables here ≡ is_cabled was.cables here =
              cabled_same was.cables after.cables here ((moves a b up was good can).elsewhere here first at) in
              port_same (change_wanted routes guid number) (change_wanted next guid number) (keys_wanted routes keys guid number) (keys_wanted next keys guid number)
              up false false (port_at_power_up number (link_at was.cables place number)) same.change same.held refl refl
              ∙ ap (λ (on : Bool). left_port (change_wanted next guid number) (keys_wanted next keys guid number)
              (port_at_power_up number (if number == 0 then Internal else (if on then Cabled else Uncabled)))) (sym cabled)

    -- all of it
    abbrev switch_of : List Cable → ℕ → PlannedNode → SwitchState
    switch_of cables place node =
        switch_at_power_up node.guid (named node.name) (links_of cables place node.ports) LINEAR_TABLE MULTICAST_TABLE

    -- what is pushed to it
    abbrev reported_switch : SwitchState → SwitchState
    reported_switch held = record held {
      info = with_top (length routes.lids) held.info;
      ports = numbered (λ number port. record port { keys = unwrap_or (keys_wanted routes keys held.node_guid number) port.keys }) 0
          (numbered (λ number port. record port { info = reported_info (change_wanted routes held.node_guid number) port.info }) 0 held.ports);
      linear = option_map_or (linear_table routes) (place_of routes.graph.switches held.node_guid) held.linear;
    }

    switch_node : (place : ℕ) (node : PlannedNode) → slice_get was.nodes place ≡ Some (with_all routes keys (Switch (switch_of cabling.cables place node)))
        → left_node (both_linked up a b place (with_all routes keys (Switch (switch_of cabling.cables place node))))
        ≡ left_node (Switch (switch_of after.cables place node))
    switch_node place node there =
        let switch : is_switch_at was.nodes place ≡ true = ap (λ (o : Option Node). option_map_or is_switch o false) there in
        let own : guid_at was place ≡ node.guid = ap (λ (o : Option Node). option_map_or node_guid o 0) there in
        let ports = ports_same a b up place node.ports cabling.cables after.cables (change_wanted routes node.guid) (change_wanted next node.guid)
        (keys_wanted routes keys node.guid) (keys_wanted next keys node.guid) (one_port place node.guid switch own) in
        let linear = linear_left (linear_table routes) (place_of routes.graph.switches node.guid) (place_of next.graph.switches node.guid)
        (switch_of after.cables place node).linear
        (λ k is none. switch_too a b up was good can keys routes next whole whole_too of of_next assigned assigned_too node.guid k is none) in
        let reported : SwitchState = reported_switch (switch_of cabling.cables place node) in
        ap left_node (ap (linked_at up a place) (switch_linked up b place reported)
        ∙ switch_linked up a place (record reported { ports = ports_at up b place reported.ports }))
        ∙ (λ i. Switch (record (switch_of after.cables place node) {
          info = with_top 0 (switch_of after.cables place node).info;
          ports = ports i;
          linear = linear i;
        }))

    -- ---- an adapter
    no_switch : (place : ℕ) (node : Node) → slice_get was.nodes place ≡ Some node → is_switch node ≡ false
        → place_of routes.graph.switches (node_guid node) ≡ None
    no_switch place node there adapter = by (place_of routes.graph.switches (node_guid node)) refl
      where
        stands : (k : ℕ) (o : Option Node) → slice_get was.nodes k ≡ o → option_map_or is_switch o false ≡ true → option_map_or node_guid o 0 ≡ node_guid node → ⊥
        stands k None at switch same = false≢true switch
        stands k (Some other) at switch same =
            let here = own_node was k place other node good at there same in
            false≢true (sym adapter ∙ sym (ap (λ (o : Option Node). option_map_or is_switch o false) (sym at ∙ ap (slice_get was.nodes) here ∙ there)) ∙ switch)

        by : (o : Option ℕ) → place_of routes.graph.switches (node_guid node) ≡ o → o ≡ None
        by None is = refl
        by (Some k) is =
            let has = has_switch was routes.graph of.layout (node_guid node) k is in
            absurd (stands has.node (slice_get was.nodes has.node) refl has.switch has.guid_is)

    adapter_forgets : (ports : List AdapterState) → ((guid : ℕ) → guid ≡ node_guid (with_all routes keys (Adapter ports)) → (number : ℕ) → WantsSame keys routes next guid number)
        → left_node (with_all routes keys (Adapter ports)) ≡ left_node (Adapter ports)
    adapter_forgets [] same = refl
    adapter_forgets (one ∷ rest) same =
        ap (λ (ports : List AdapterState). Adapter ports)
        (adapters_same (change_wanted routes one.node_guid) (change_wanted next one.node_guid) (keys_wanted routes keys one.node_guid)
        (keys_wanted next keys one.node_guid) 1 (one ∷ rest) (λ number. (same one.node_guid refl number).change) (λ number. (same one.node_guid refl number).held))

    adapter_node : (place : ℕ) (node : PlannedNode)
        → slice_get was.nodes place ≡ Some (with_all routes keys (node_of_type node_type.ChannelAdapter cabling.cables place node))
        → left_node (both_linked up a b place (with_all routes keys (node_of_type node_type.ChannelAdapter cabling.cables place node)))
        ≡ left_node (node_of_type node_type.ChannelAdapter after.cables place node)
    adapter_node place node there =
        let adapter : is_switch_at was.nodes place ≡ false = ap (λ (o : Option Node). option_map_or is_switch o false) there in
        let link : (number : ℕ) → link_of cabling.cables place number ≡ link_of after.cables place number =
        λ number. ap (λ (on : Bool). if on then Cabled else Uncabled)
        (sym (cabled_same was.cables after.cables (port place number) (cable_stays a b up was good can (port place number) adapter))) in
        let none = no_switch place (with_all routes keys (node_of_type node_type.ChannelAdapter cabling.cables place node)) there refl in
        ap left_node (adapter_linked up a b place _)
        ∙ adapter_forgets _ (λ guid is number.
        adapter_same a b up was good can keys routes next whole whole_too of of_next assigned assigned_too guid number (ap (place_of routes.graph.switches) is ∙ none))
        ∙ (λ i. left_node (Adapter (map (λ number.
        adapter_at_power_up node.guid node.ports number (port_guid node number) (named node.name) (link number i)) (range_with_len 1 node.ports))))

    -- ---- the fabric
    one_node : (of : NodeType) (place : ℕ) (node : PlannedNode) → slice_get was.nodes place ≡ Some (with_all routes keys (node_of_type of cabling.cables place node))
        → left_node (both_linked up a b place (with_all routes keys (node_of_type of cabling.cables place node)))
        ≡ left_node (node_of_type of after.cables place node)
    one_node node_type.Switch place node there = switch_node place node there
    one_node node_type.ChannelAdapter place node there = adapter_node place node there

    was_at : (place : ℕ) → slice_get was.nodes place ≡ option_map (with_all routes keys) (option_map (node_of cabling.cables place) (slice_get plan.nodes place))
    was_at place =
        node_after routes keys (fabric_with_cut cabling plan) place
        ∙ ap (option_map (with_all routes keys)) (node_at cabling.cables plan.nodes place)

    nodes_same : (left_alone next keys after).nodes ≡ (left_alone next keys (fabric_with_cut (cabling_with up a b cabling) plan)).nodes
    nodes_same =
        by_places _ _ (λ place.
        three (switch_by (switch_left next)) (keys_by (λ guid number. table_left (keys_wanted next keys guid number)))
        (infos_by (λ guid number. info_left (change_wanted next guid number))) after.nodes place
        ∙ ap (option_map left_node) (nodes_after up a b was.nodes place ∙ ap (option_map (both_linked up a b place)) (was_at place))
        ∙ by place (slice_get plan.nodes place) (was_at place)
        ∙ ap (option_map left_node) (sym (node_at after.cables plan.nodes place))
        ∙ sym (three (switch_by (switch_left next)) (keys_by (λ guid number. table_left (keys_wanted next keys guid number)))
        (infos_by (λ guid number. info_left (change_wanted next guid number))) (fabric_with_cut (cabling_with up a b cabling) plan).nodes place))
      where
        by : (place : ℕ) (o : Option PlannedNode) → slice_get was.nodes place ≡ option_map (with_all routes keys) (option_map (node_of cabling.cables place) o)
            → option_map left_node (option_map (both_linked up a b place) (option_map (with_all routes keys) (option_map (node_of cabling.cables place) o)))
            ≡ option_map left_node (option_map (node_of after.cables place) o)
        by place None there = refl
        by place (Some node) there = ap (λ (one : Node). Some one) (one_node node.node_type place node there)

    all_same : all_pushed next keys after ≡ all_pushed next keys (fabric_with_cut (cabling_with up a b cabling) plan)
    all_same =
        let nodes = nodes_same in
        pushes_forget next keys after (fabric_with_cut (cabling_with up a b cabling) plan)
        (λ i. record (fabric_with_cut (cabling_with up a b cabling) plan) { nodes = nodes i })

  -- ---- what is set up again
  -- by routes over this fabric, or over one that differs in its masks
  module _ (roots : List ℕ) (good : IsGood was) (of : IsGraphOf routes.graph was) (whole : IsGraph routes.graph)
      (assigned : AreAssigned routes.graph routes.lids) (can : can_change a b up was ≡ true)
      (other left : FabricState) (set : IsSetUpBy other roots keys next left)
      (of_next : IsGraphOf next.graph after) (near : IsTooFar after → ⊥) (good_then : IsGood (all_pushed next keys after)) where
    abbrev plan_then : TopologyState
    plan_then = with_cables (cabling_with up a b cabling).cables plan

    abbrev new : FabricState
    new = fabric_of plan_then

    abbrev all : FabricState
    all = all_pushed next keys new

    abbrev cut_then : List Cable
    cut_then = (cabling_with up a b cabling).cut

    -- all that was pushed before is pushed over
    over : all_pushed next keys after ≡ record all { cut = cut_then }
    over = all_same good can whole set.home.graph of of_next assigned set.are.assigned

    good_all : IsGood all
    good_all = good_uncut (record all { cut = cut_then }) (subst IsGood over good_then)

    graph_then : IsGraphOf next.graph new
    graph_then =
        graph_was next keys new next.graph
        (graph_with_cut (record all { cut = cut_then }) [] next.graph (subst (IsGraphOf next.graph) over (graph_pushed next keys after next.graph of_next)))

    shows : LooksSame after.nodes new.nodes
    shows = sym (all_show next keys new) ∙ ap (λ (fabric : FabricState). map look fabric.nodes) (sym over) ∙ all_show next keys after

    set_up_again : IsSetUpBy new roots keys next all
    set_up_again = record {
      are = record {
        found = record {
          of = graph_then;
          joined = set.are.found.joined;
          near = λ far. near (far_was after new.nodes [] shows far);
          small = λ big. not_too_big new next.graph (was_good next keys plan_then good_all) set.home.graph graph_then.layout big;
        };
        assigned = set.are.assigned;
        made = set.are.made;
        reached = set.are.reached;
      };
      home = set.home;
      pushed = are_pushed next keys plan_then good_all;
      is = refl;
    }

-- ---- whatever masks there are
module _ (plan : TopologyState) (cabling : CablingState) (before roots : List ℕ) (keys : List (List ℕ)) (routes next : RoutesState)
    (held left : FabricState) (a b : PortRef) (up : Bool) (with : IsUpWith plan cabling before keys routes held)
    (can : can_change a b up held ≡ true) (set : IsSetUpBy (changed a b up held) roots keys next left) where
  abbrev base : FabricState
  base = all_pushed routes keys (fabric_of (with_cables cabling.cables plan))

  abbrev then_held : FabricState
  then_held = changed a b up held

  is : unmasked held ≡ record base { cut = cabling.cut }
  is = λ i. record (with.set_up.is i) { cut = with.cut i }

  after_is : unmasked then_held ≡ after plan cabling keys routes next a b up
  after_is = changes_unmasked a b up held ∙ ap (changed a b up) is

  left_is : unmasked left ≡ all_pushed next keys (after plan cabling keys routes next a b up)
  left_is = ap unmasked set.is ∙ pushes_unmasked next keys then_held ∙ ap (all_pushed next keys) after_is

  good_left : IsGood left
  good_left = subst IsGood (sym set.is) set.pushed.linear.good

  good : IsGood (record base { cut = cabling.cut })
  good = subst IsGood is (unmasked_good held with.good)

  can_too : can_change a b up (record base { cut = cabling.cut }) ≡ true
  can_too = ap (can_change a b up) (sym is) ∙ can_unmasked a b up held ∙ can

  of : IsGraphOf routes.graph (record base { cut = cabling.cut })
  of =
      graph_with_cut base cabling.cut routes.graph
      (graph_pushed routes keys (fabric_of (with_cables cabling.cables plan)) routes.graph with.set_up.are.found.of)

  of_next : IsGraphOf next.graph (after plan cabling keys routes next a b up)
  of_next =
      subst (IsGraphOf next.graph) after_is
      (graph_too then_held (map clear then_held.nodes) (masks_hidden then_held.nodes) next.graph set.are.found.of)

  near : IsTooFar (after plan cabling keys routes next a b up) → ⊥
  near far =
      set.are.found.near (far_was then_held (map clear then_held.nodes) then_held.cut (masks_hidden then_held.nodes) (subst IsTooFar (sym after_is) far))

  good_then : IsGood (all_pushed next keys (after plan cabling keys routes next a b up))
  good_then = subst IsGood left_is (unmasked_good left good_left)

  whole_is : unmasked left
      ≡ record (all_pushed next keys (fabric_of (with_cables (cabling_with up a b cabling).cables plan))) { cut = (cabling_with up a b cabling).cut }
  whole_is =
      left_is
      ∙ over plan cabling keys routes next a b up roots good of with.set_up.home.graph with.set_up.are.assigned can_too then_held left set of_next near good_then

  is_up : IsUpWith plan (cabling_with up a b cabling) roots keys next left
  is_up = record {
    good = good_left;
    cut = ap (λ (fabric : FabricState). fabric.cut) whole_is;
    set_up = subst (IsSetUpBy (fabric_of (with_cables (cabling_with up a b cabling).cables plan)) roots keys next)
        (sym (ap (λ (fabric : FabricState). record fabric { cut = [] }) whole_is))
        (set_up_again plan cabling keys routes next a b up roots good of with.set_up.home.graph with.set_up.are.assigned can_too then_held left set
        of_next near good_then);
  }

pub recabled_is_as_brought_up : RecabledIsAsBroughtUp
recabled_is_as_brought_up plan cabling before roots keys routes next held left a b up with can set =
    let done : IsSetUpBy (changed a b up held) roots keys next left =
    subst (λ (goes : Bool). IsSetUpBy (if goes then changed a b up held else held) roots keys next left) can set in (
      is_up plan cabling before roots keys routes next held left a b up with can done,
      ap (λ (fabric : FabricState). map masks_in fabric.nodes) done.is ∙ masks_stay a b up next keys held,
    )

-- ---- what is brought up
pub brought_up_is_up_with_all : BroughtUpIsUpWithAll
brought_up_is_up_with_all plan keys routes fabric up =
    let none_set : unmasked fabric ≡ fabric =
    ap unmasked up.is ∙ pushes_unmasked routes keys (fabric_of plan) ∙ ap (all_pushed routes keys) (new_unmasked plan) ∙ sym up.is in
    let cut : fabric.cut ≡ [] = ap (λ (one : FabricState). one.cut) up.is in
    let back = sym cut in
    let base_is : base_of fabric ≡ fabric = λ i. record (none_set i) { cut = back i } in
    record {
      good = subst IsGood (sym up.is) up.pushed.linear.good;
      cut = cut;
      set_up = subst (IsSetUpBy (fabric_of plan) (root_guids plan) keys routes) (sym base_is) up;
    }
