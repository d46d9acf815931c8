-- From each switch that carries an adapter each adapter port is reached.
use Rattle.std.proofs.Common.{ℕ, ◌≡◌, ◌≢◌, ◌-◌, ◌+◌, ◌==◌, ◌&&◌, not, ◌∙◌, inl, inr, ap, refl, sym, subst, Bool, true, false, if◌then◌else◌, List, length, map, slice_get, Option, Some, None, option_map, arith}
use Rattle.std.proofs.lemmas.Bool.{and_from, eq-eqb, false≢true, ne_eqb, not_from_false}
use Rattle.std.proofs.lemmas.Option.{same_Some, slice_get-map}
use Rattle.dump_file.specs.Dump.{DumpState}
use Rattle.fabric_parts.specs.Cable.{far_end, port}
use Rattle.fabric_parts.specs.declared.cable.PortRef.{PortRef}
use Rattle.fabric_wire.proofs.OfTopologyGoodLemmas.{good}
use Rattle.fabric_wire.proofs.OfTopologyLemmas.{port_there, switch_there}
use Rattle.fabric_wire.specs.OfTopology.{fabric_of}
use Rattle.lid_assign.proofs.LawLemmas.{lids_and_guids_name_each_other}
use Rattle.lid_assign.specs.Lids.{adapter_end as port_end, end_ports, guid_in, lid_in, switch_end}
use Rattle.pkey_rules.specs.declared.end_port.EndPort.{EndPort}
use Rattle.step_results.proofs.RangeLemmas.{get_kept}
use Rattle.step_results.proofs.ListLemmas.{all_have}
use Rattle.audit_routes.specs.Laws.{CarriesAHost}
use Rattle.audit_net.specs.OwnerLaws.{end_port_of}
use Rattle.audit_net.specs.Net.{NetState}
use Rattle.audit_plan.specs.Plan.{plan_of}
use Rattle.audit_plan.proofs.PlanLemmas.{host_is_no_switch}
use Rattle.smp_wire.specs.FabricState.{FabricState}
use Rattle.subnet_fabric.specs.BringUp.{IsBroughtUpBy}
use Rattle.subnet_model.specs.EndPorts.{lid_of}
use Rattle.subnet_fabric.proofs.FabricPortLemmas.{end_ports_are_the_fabrics}
use Rattle.subnet_fabric.specs.EndPorts.{is_end_port}
use Rattle.subnet_fabric.specs.FabricPorts.{planned_port}
use Rattle.sweep.proofs.EndPortLemmas.{is_an_end}
use Rattle.sweep.proofs.FoundLemmas.{any_by}
use Rattle.sweep.proofs.MetLemmas.{good_once}
use Rattle.sweep.specs.EndPorts.{end_port_in, is_end_port_of}
use Rattle.sweep.specs.Graph.{GraphState}
use Rattle.sweep.specs.OfFabric.{Found, switch_of}
use Rattle.sweep.specs.declared.graph.GraphPort.{GraphPort}
use Rattle.sweep.specs.declared.graph.GraphSwitch.{GraphSwitch}
use Rattle.table_push.proofs.HomeLemmas.{home_there}
use Rattle.table_push.proofs.HomeLemmas.{home_at, later, port_home, switch_home}
use Rattle.topo_file.specs.Node.{is_switch_at}
use Rattle.topo_file.specs.Sound.{IsSound}
use Rattle.topo_file.specs.Topology.{TopologyState}
use Rattle.updn_routes.specs.Cabling.{is_walk}
use Rattle.updn_routes.specs.Routes.{IsPair, carries, home_of, next_hop, order_of}
use Rattle.updn_routes.specs.Subnet.{RoutesState, home_in, homes_of, rows_of}
use Rattle.updn_routes.specs.UpDown.{is_legal}
use Rattle.updn_routes.specs.declared.link.Link.{Link}
use Rattle.joint_laws.specs.RouteLaws.{comes_to, over}
use Rattle.joint_laws.specs.Shown.{Shows}
use Rattle.joint_laws.proofs.EndLemmas.{Ends, Attached, adapter_hung}
use Rattle.joint_laws.proofs.StandLemmas.{Stands, few, is_switch_there, one_place, place_for}
use Rattle.joint_laws.proofs.WayLemmas.{at_switch, comes_by, attached, routed}

-- ---- lists
no_path : (rows other : List (List Link)) (before : ℕ → ℕ → Bool) (s d : ℕ) (steps : List ℕ) → rows ≡ other
    → (is_walk other s steps d && is_legal before s steps) ≡ true → (is_walk rows s steps d && is_legal before s steps) ≡ false → ⊥
no_path rows other before s d steps same path none =
    false≢true (sym none ∙ ap (λ (some : List (List Link)). is_walk some s steps d && is_legal before s steps) same ∙ path)

-- ---- an adapter's port with a cable is an end port
same_ports : (plan : TopologyState) (at : PortRef) → is_end_port_of (fabric_of plan) at ≡ is_end_port plan at
same_ports plan at = rw (switch_there plan.cables plan.nodes at.node, port_there plan.cables plan.nodes at) refl

module _ (plan : TopologyState) (sound : IsSound plan) (keys : List (List ℕ)) (routes : RoutesState) (fabric : FabricState)
    (up : IsBroughtUpBy plan keys routes fabric) where
  abbrev was : FabricState
  was = fabric_of plan

  abbrev graph : GraphState
  graph = routes.graph

  abbrev all : List Found
  all = up.are.found.of.layout.found

  abbrev homes : List PortRef
  homes = homes_of graph routes.lids

  pub is_end : (near at : PortRef) → far_end plan.cables near ≡ Some at → is_switch_at plan.nodes at.node ≡ false → end_port_in was at ≡ Some (planned_port plan at)
  is_end near at cable adapter =
      end_ports_are_the_fabrics plan at
      ∙ ap (λ (b : Bool). if b then Some (planned_port plan at) else None)
      (sym (same_ports plan at) ∙ is_an_end was near at (good plan sound) (switch_there plan.cables plan.nodes at.node ∙ adapter) cable)

  -- ---- LIDs of ports and of switches
  pub record HasHome (guid : ℕ) (home : PortRef) : Type 0 where
    pub lid : ℕ
    pub named : guid_in routes.lids lid ≡ Some guid
    pub is : home_of homes lid ≡ Some home

  home_by : (k guid : ℕ) (end : EndPort) (home : PortRef) → slice_get (end_ports graph) k ≡ Some end → end.guid ≡ guid → home_in graph guid ≡ home → HasHome guid home
  home_by k guid end home there guid_is is =
      let lid = lid_of (end_ports graph) end in
      let has = all_have (λ (one : EndPort). lid_in routes.lids one.guid ≡ Some (lid_of (end_ports graph) one)) (end_ports graph) k end up.home.of.lids_are.each there in
      let named = (lids_and_guids_name_each_other routes.lids guid lid up.home.own_lids).0 (ap (lid_in routes.lids) (sym guid_is) ∙ has) in
      record { lid = lid; named = named; is = home_at graph routes.lids lid guid named ∙ ap (λ (p : PortRef). Some p) is }

  switch_home_of : (node place : ℕ) → (stands : Stands all node place) → HasHome (switch_of was stands.one).guid (port place 0)
  switch_home_of node place stands =
      let one = switch_of was stands.one in
      let there : slice_get graph.switches place ≡ Some one =
      ap (λ (switches : List GraphSwitch). slice_get switches place) up.are.found.of.layout.switches ∙ slice_get-map (switch_of was) all place
      ∙ ap (option_map (switch_of was)) stands.there in
      home_by place one.guid (switch_end one) (port place 0)
      (get_kept (map switch_end graph.switches) (map (port_end graph.manager) graph.ports) place (switch_end one)
      (slice_get-map switch_end graph.switches place ∙ ap (option_map switch_end) there))
      refl (switch_home graph place one up.home.graph there)

  pub port_home_of : (index : ℕ) (one : GraphPort) → slice_get graph.ports index ≡ Some one → HasHome one.port_guid one.at
  port_home_of index one there =
      home_by (length (map switch_end graph.switches) + index) one.port_guid (port_end graph.manager one) one.at
      (later (map switch_end graph.switches) (map (port_end graph.manager) graph.ports) index (port_end graph.manager one)
      (slice_get-map (port_end graph.manager) graph.ports index ∙ ap (option_map (port_end graph.manager)) there))
      refl (port_home graph index one up.home.graph there)

  -- ---- the switch carries a host
  carried : (dump : DumpState) (node place : ℕ) → Stands all node place → CarriesAHost (over plan dump) node → carries homes place ≡ true
  carried dump node place stands carrying =
      let near = port node carrying.number in
      let at = carrying.at in
      let adapter = host_is_no_switch (plan_of plan) at.node carrying.host in
      let hung = adapter_hung plan sound keys routes fabric up at (planned_port plan at) (is_end near at carrying.cable adapter) adapter in
      let back : far_end plan.cables at ≡ Some near = good_once was near at (good plan sound) carrying.cable in
      let same : port hung.node hung.number ≡ near = same_Some (port hung.node hung.number) near (sym hung.back ∙ back) in
      let stands_too : Stands all node hung.place =
      subst (λ (n : ℕ). Stands all n hung.place) (ap (λ (p : PortRef). p.node) same) hung.stands in
      let place_is : hung.place ≡ place = one_place plan sound graph up.are.found.of node hung.place place stands_too stands in
      let low = (few plan sound graph up.are.found.of hung.node hung.number at hung.cable).0 in
      let home = port_home_of hung.index hung.hung hung.has in
      let number : hung.hung.at.port ≡ hung.number = ap (λ (p : PortRef). p.port) hung.home in
      let node_is : hung.hung.at.node ≡ place = ap (λ (p : PortRef). p.node) hung.home ∙ place_is in
      any_by (λ (home : PortRef). not (home.port == 0) && (home.node == place)) homes (home.lid - 1) hung.hung.at (home_there homes home.lid hung.hung.at home.is)
      (and_from (not (hung.hung.at.port == 0)) (hung.hung.at.node == place)
      (not_from_false (hung.hung.at.port == 0) (ne_eqb hung.hung.at.port 0 (λ none. omega (arith, none, number, low)))) (eq-eqb hung.hung.at.node place node_is))

  -- ---- and so it has a next hop
  module _ (dump : DumpState) (shows : Shows (over plan dump) routes.lids fabric) (lid : ℕ) (end : PortRef) (is : end_port_of (over plan dump) lid ≡ Some end) where
    abbrev net : NetState
    net = over plan dump

    abbrev hung_at : Attached plan sound keys routes fabric up lid end
    hung_at = attached plan sound keys routes fabric up dump shows lid end is

    no_switch : (h : Attached plan sound keys routes fabric up lid end) → is_switch_at plan.nodes end.node ≡ false → h.number ≢ 0
    no_switch h adapter none = by h.ends
      where
        by : Ends plan sound keys routes fabric up h.node h.number end → ⊥
        by (inl own) =
            false≢true (sym adapter ∙ ap (λ (p : PortRef). is_switch_at plan.nodes p.node) own.1
            ∙ is_switch_there plan sound graph up.are.found.of h.node h.place h.stands)
        by (inr out) = omega (arith, none, out.0)

    pub reached : (node : ℕ) → CarriesAHost net node → is_switch_at plan.nodes end.node ≡ false → comes_to net node lid end ≡ true
    reached node carrying adapter =
        let at = place_for plan sound graph up.are.found.of node carrying.switch in by at.0 at.1 (next_hop routes.between at.0 lid) refl
      where
        by : (place : ℕ) → Stands all node place → (o : Option ℕ) → next_hop routes.between place lid ≡ o → comes_to net node lid end ≡ true
        by place stands (Some first) hop = comes_by plan sound keys routes fabric up dump shows lid end is node place first carrying.switch stands hop
        by place stands None hop =
            let own = switch_home_of node place stands in
            let pair : IsPair homes own.lid lid place hung_at.place =
            record {
              port = hung_at.number;
              switch = own.is;
              carried = carried dump node place stands carrying;
              adapter = ap (λ (some : List PortRef). home_of some lid) (sym up.home.of.homes_are) ∙ hung_at.home;
              is_port = no_switch hung_at adapter;
            } in
            let path = up.home.reached own.lid lid place hung_at.place pair in
            let routed_at = routed plan sound keys routes fabric up dump shows lid end is place
            (at_switch plan sound keys routes fabric up dump shows lid end is node place stands) in
            absurd (no_path routes.between.rows (rows_of graph) (order_of routes.between) place hung_at.place path.0 up.home.of.rows_are path.1
            (routed_at.none hop path.0))
