-- Where the end port of each LID is attached.
use Rattle.std.proofs.Common.{ℕ, ◌≡◌, ◌⊎◌, ◌≤◌, ◌==◌, ◌&&◌, ◌||◌, nat_le, ◌∙◌, inl, inr, ap, refl, sym, subst, Bool, true, false, if◌then◌else◌, List, [], ◌∷◌, ◌++◌, length, map, slice_get, Option, Some, None, option_map}
use Rattle.std.specs.List.{list_any}
use Rattle.std.specs.Option.{option_and_then, option_map_or}
use Rattle.std.proofs.lemmas.Bool.{and_parts, eqb-true, false≢true}
use Rattle.std.proofs.lemmas.Option.{none-some, same_Some, slice_get-map}
use Rattle.fabric_parts.specs.Cable.{far_end, is_cabled, port}
use Rattle.fabric_parts.specs.declared.cable.PortRef.{PortRef}
use Rattle.fabric_wire.proofs.OfTopologyGoodLemmas.{good}
use Rattle.fabric_wire.proofs.OfTopologyLemmas.{switch_there}
use Rattle.fabric_wire.specs.OfTopology.{fabric_of}
use Rattle.lid_assign.proofs.LawLemmas.{lids_and_guids_name_each_other}
use Rattle.lid_assign.specs.Lids.{adapter_end as port_end, end_ports, guid_in, switch_end}
use Rattle.smp_wire.specs.Deliveries.{adapter_at}
use Rattle.smp_wire.specs.Forwards.{IsCabledPort}
use Rattle.pkey_rules.specs.declared.end_port.EndPort.{EndPort}
use Rattle.port_model.specs.AdapterState.{AdapterState}
use Rattle.step_results.proofs.ListLemmas.{any_map}
use Rattle.smp_wire.specs.FabricState.{FabricState, adapter_port, is_switch as is_switch_node, is_switch_at as is_switch_in}
use Rattle.smp_wire.specs.Good.{node_guid}
use Rattle.smp_wire.specs.declared.node.Node.{Node}
use Rattle.smp_wire.specs.declared.node.Node.TheVariants.{Switch, Adapter}
use Rattle.subnet_fabric.specs.BringUp.{IsBroughtUpBy}
use Rattle.subnet_fabric.proofs.FabricPortLemmas.{end_ports_are_the_fabrics}
use Rattle.subnet_fabric.specs.EndPorts.{is_end_port}
use Rattle.subnet_fabric.specs.FabricPorts.{planned_port}
use Rattle.sweep.proofs.CabledLemmas.{far_of}
use Rattle.sweep.proofs.EndPortLemmas.{graphs_have_the_end_ports, there_is}
use Rattle.sweep.proofs.FoundLemmas.{any_at}
use Rattle.sweep.specs.EndPorts.{FabricPort, end_of_adapter, end_of_switch, end_port_in, end_ports_in, held_in, is_end_port_of, port_held}
use Rattle.sweep.specs.Graph.{GraphState}
use Rattle.sweep.specs.OfFabric.{Found, guid_at, nodes_of, place_of, switch_of}
use Rattle.sweep.specs.declared.graph.GraphPort.{GraphPort}
use Rattle.sweep.specs.declared.graph.GraphSwitch.{GraphSwitch}
use Rattle.table_push.proofs.HomeLemmas.{home_at, port_home, switch_home}
use Rattle.table_push.proofs.AttachmentLemmas.{attached}
use Rattle.topo_file.specs.Node.{is_switch_at, port_guid_at}
use Rattle.topo_file.specs.Sound.{IsSound, is_port}
use Rattle.topo_file.specs.Topology.{TopologyState}
use Rattle.updn_routes.specs.Routes.{home_of}
use Rattle.updn_routes.specs.Subnet.{RoutesState, home_in}
use Rattle.audit_plan.specs.Plan.{ends_of, port_of}
use Rattle.joint_laws.proofs.GuidLemmas.{port_of_end}
use Rattle.joint_laws.proofs.StandLemmas.{Stands, few, attachment}

-- ---- end ports of a graph, by GUID
any_same : {X A B : Type 0} (f : X → A) (g : X → B) (p : A → Bool) (q : B → Bool) (xs : List X) (one : List A) (other : List B)
    → ((x : X) → p (f x) ≡ q (g x)) → list_any p one ≡ list_any q other → list_any p (map f xs ++ one) ≡ list_any q (map g xs ++ other)
any_same f g p q [] one other each rest = rest
any_same f g p q (x ∷ xs) one other each rest =
    let here = each x in let later = any_same f g p q xs one other each rest in λ i. here i || later i

pub ends_named : (graph : GraphState) (guid : ℕ)
    → list_any (λ (end : EndPort). end.guid == guid) (end_ports graph) ≡ list_any (λ (end : FabricPort). end.guid == guid) (end_ports_in graph)
ends_named graph guid =
    any_same switch_end end_of_switch (λ (end : EndPort). end.guid == guid) (λ (end : FabricPort). end.guid == guid) graph.switches
    (map (port_end graph.manager) graph.ports) (map end_of_adapter graph.ports) (λ switch. refl)
    (any_map (λ (end : EndPort). end.guid == guid) (port_end graph.manager) graph.ports
    ∙ sym (any_map (λ (end : FabricPort). end.guid == guid) end_of_adapter graph.ports))

-- ---- what stands at an end port of a fabric
switch_guid : (fabric : FabricState) (at : PortRef) (end : FabricPort) → end_port_in fabric at ≡ Some end → is_switch_in fabric.nodes at.node ≡ true
    → guid_at fabric at.node ≡ end.guid
switch_guid fabric at end is switch = by (is_end_port_of fabric at) (slice_get fabric.nodes at.node) refl is switch
  where
    by : (b : Bool) (o : Option Node) → slice_get fabric.nodes at.node ≡ o → (if b then option_and_then (λ node. held_in node at.port) o else None) ≡ Some end
        → option_map_or is_switch_node o false ≡ true → guid_at fabric at.node ≡ end.guid
    by false o there is switch = absurd (none-some end is)
    by true None there is switch = absurd (none-some end is)
    by true (Some (Adapter ports)) there is switch = absurd (false≢true switch)
    by true (Some (Switch held)) there is switch =
        ap (λ (o : Option Node). option_map_or node_guid o 0) there ∙ ap (λ (one : FabricPort). one.guid) (same_Some _ end is)

record IsAdapterEnd (fabric : FabricState) (at : PortRef) (guid : ℕ) : Type 0 where
  one : AdapterState
  there : adapter_at fabric.nodes at ≡ Some one
  cabled : is_cabled fabric.cables at ≡ true
  guid_is : one.port_guid ≡ guid

adapter_end : (fabric : FabricState) (at : PortRef) (end : FabricPort) → end_port_in fabric at ≡ Some end → is_switch_in fabric.nodes at.node ≡ false
    → IsAdapterEnd fabric at end.guid
adapter_end fabric at end is adapter = by (is_end_port_of fabric at) refl (slice_get fabric.nodes at.node) refl is adapter
  where
    with_port : (ports : List AdapterState) → slice_get fabric.nodes at.node ≡ Some (Adapter ports) → is_cabled fabric.cables at ≡ true
        → (o : Option AdapterState) → adapter_port ports at.port ≡ o → held_in (Adapter ports) at.port ≡ Some end → IsAdapterEnd fabric at end.guid
    with_port ports stands cabled None there is = let none : None ≡ Some end = rw there at is in absurd (none-some end none)
    with_port ports stands cabled (Some one) there is =
        let same = same_Some (port_held at.port one) end (rw there at is) in
        record { one = one; there = rw stands there; cabled = cabled; guid_is = ap (λ (end : FabricPort). end.guid) same }

    by : (b : Bool) → is_end_port_of fabric at ≡ b → (o : Option Node) → slice_get fabric.nodes at.node ≡ o
        → (if b then option_and_then (λ node. held_in node at.port) o else None) ≡ Some end → option_map_or is_switch_node o false ≡ false
        → IsAdapterEnd fabric at end.guid
    by false ends o stands is adapter = absurd (none-some end is)
    by true ends None stands is adapter = absurd (none-some end is)
    by true ends (Some (Switch held)) stands is adapter = absurd (false≢true (sym adapter))
    by true ends (Some (Adapter ports)) stands is adapter =
        let cabled : ((nat_le 1 at.port && nat_le at.port (length ports)) && is_cabled fabric.cables at) ≡ true = rw stands at ends in
        with_port ports stands (and_parts (nat_le 1 at.port && nat_le at.port (length ports)) _ cabled).1 (adapter_port ports at.port) refl is

-- ---- an end port of the fabric is one of the topology
pub record IsPlanned (plan : TopologyState) (at : PortRef) (end : FabricPort) : Type 0 where
  pub ends : is_end_port plan at ≡ true
  pub guid_is : port_guid_at plan.nodes at ≡ end.guid

pub planned : (plan : TopologyState) (at : PortRef) (end : FabricPort) → end_port_in (fabric_of plan) at ≡ Some end → IsPlanned plan at end
planned plan at end is = by (is_end_port plan at) refl (sym (end_ports_are_the_fabrics plan at) ∙ is)
  where
    by : (b : Bool) → is_end_port plan at ≡ b → (if b then Some (planned_port plan at) else None) ≡ Some end → IsPlanned plan at end
    by false ends is = absurd (none-some end is)
    by true ends is = record { ends = ends; guid_is = ap (λ (one : FabricPort). one.guid) (same_Some (planned_port plan at) end is) }

module _ (plan : TopologyState) (sound : IsSound plan) (keys : List (List ℕ)) (routes : RoutesState) (fabric : FabricState)
    (up : IsBroughtUpBy plan keys routes fabric) where
  abbrev was : FabricState
  was = fabric_of plan

  abbrev graph : GraphState
  graph = routes.graph

  abbrev all : List Found
  all = up.are.found.of.layout.found

  -- a port of this number of the switch there is the end port, or a cable leads from it to the end port, an adapter's
  abbrev pub Ends : ℕ → ℕ → PortRef → Type 0
  Ends node number end =
      ((number ≡ 0) × (end ≡ port node 0)) ⊎ ((1 ≤ number) × (far_end plan.cables (port node number) ≡ Some end) × (is_switch_at plan.nodes end.node ≡ false))

  pub record Attached (lid : ℕ) (end : PortRef) : Type 0 where
    pub node : ℕ
    pub place : ℕ
    pub number : ℕ
    pub stands : Stands all node place
    pub home : home_of routes.between.homes lid ≡ Some (port place number)
    pub ends : Ends node number end

  between_home : (lid guid : ℕ) (home : PortRef) → guid_in routes.lids lid ≡ Some guid → home_in graph guid ≡ home → home_of routes.between.homes lid ≡ Some home
  between_home lid guid home named is =
      ap (λ (homes : List PortRef). home_of homes lid) up.home.of.homes_are ∙ home_at graph routes.lids lid guid named ∙ ap (λ (p : PortRef). Some p) is

  -- ---- a switch's own
  switch_attached : (lid guid : ℕ) (at : PortRef) (end : FabricPort) → guid_in routes.lids lid ≡ Some guid → end.guid ≡ guid → end_port_in was at ≡ Some end
      → is_end_port plan at ≡ true → is_switch_at plan.nodes at.node ≡ true → Attached lid at
  switch_attached lid guid at end named guid_is is ends switch =
      let place = place_of (nodes_of all) at.node in
      let stands = attachment plan sound graph up.are.found.of at.node switch in
      let one = switch_of was stands.one in
      let there : slice_get graph.switches place ≡ Some one =
      ap (λ (switches : List GraphSwitch). slice_get switches place) up.are.found.of.layout.switches ∙ slice_get-map (switch_of was) all place
      ∙ ap (option_map (switch_of was)) stands.there in
      let guid_too : one.guid ≡ guid =
      ap (guid_at was) stands.node_is ∙ switch_guid was at end is (switch_there plan.cables plan.nodes at.node ∙ switch) ∙ guid_is in
      let none : at.port ≡ 0 = eqb-true at.port 0 (by_kind (is_switch_at plan.nodes at.node) (is_port plan.nodes at && is_cabled plan.cables at) switch ends) in
      record {
        node = at.node;
        place = place;
        number = 0;
        stands = stands;
        home = between_home lid guid (port place 0) named (ap (home_in graph) (sym guid_too) ∙ switch_home graph place one up.home.graph there);
        ends = inl (refl, λ i. record { node = at.node; port = none i });
      }
    where
      by_kind : (b other : Bool) → b ≡ true → (if b then at.port == 0 else other) ≡ true → (at.port == 0) ≡ true
      by_kind true other kind ends = ends
      by_kind false other kind ends = absurd (false≢true kind)

  -- ---- an adapter's
  pub record Hung (guid : ℕ) (at : PortRef) : Type 0 where
    pub node : ℕ
    pub place : ℕ
    pub number : ℕ
    pub stands : Stands all node place
    pub cable : far_end plan.cables (port node number) ≡ Some at
    pub back : far_end plan.cables at ≡ Some (port node number)
    pub index : ℕ
    pub hung : GraphPort
    pub has : slice_get graph.ports index ≡ Some hung
    pub home : hung.at ≡ port place number
    pub guid_is : hung.port_guid ≡ guid

  pub adapter_hung : (at : PortRef) (end : FabricPort) → end_port_in was at ≡ Some end → is_switch_at plan.nodes at.node ≡ false → Hung end.guid at
  adapter_hung at end is adapter =
      let one = adapter_end was at end is (switch_there plan.cables plan.nodes at.node ∙ adapter) in
      let far = far_of plan.cables at one.cabled in
      let cabled : IsCabledPort was at one.one = record { there = one.there; far = far.0; cable = far.1 } in
      let attachment = attached was graph at one.one (good plan sound) up.are.found.of cabled in
      record {
        node = far.0.node;
        place = attachment.place;
        number = far.0.port;
        stands = record { one = attachment.found; there = attachment.there; node_is = attachment.node };
        cable = attachment.home;
        back = far.1;
        index = attachment.index;
        hung = attachment.hung;
        has = attachment.has;
        home = attachment.at_is;
        guid_is = attachment.guid_is ∙ one.guid_is;
      }

  adapter_attached : (lid guid : ℕ) (at : PortRef) (end : FabricPort) → guid_in routes.lids lid ≡ Some guid → end.guid ≡ guid → end_port_in was at ≡ Some end
      → is_switch_at plan.nodes at.node ≡ false → Attached lid at
  adapter_attached lid guid at end named guid_is is adapter =
      let hung = adapter_hung at end is adapter in
      record {
        node = hung.node;
        place = hung.place;
        number = hung.number;
        stands = hung.stands;
        home = between_home lid guid (port hung.place hung.number) named
            (ap (home_in graph) (sym (hung.guid_is ∙ guid_is)) ∙ port_home graph hung.index hung.hung up.home.graph hung.has ∙ hung.home);
        ends = inr ((few plan sound graph up.are.found.of hung.node hung.number at hung.cable).0, hung.cable, adapter);
      }

  -- ---- either
  -- some end port of the fabric has the GUID that has the LID
  pub record HasEnd (guid : ℕ) : Type 0 where
    pub at : PortRef
    pub end : FabricPort
    pub is : end_port_in was at ≡ Some end
    pub guid_is : end.guid ≡ guid

  pub has_end : (lid guid : ℕ) → guid_in routes.lids lid ≡ Some guid → HasEnd guid
  has_end lid guid named = by (list_any (λ (end : EndPort). end.guid == guid) (end_ports graph)) refl
    where
      by : (b : Bool) → list_any (λ (end : EndPort). end.guid == guid) (end_ports graph) ≡ b → HasEnd guid
      by false none =
          absurd (none-some lid (sym (up.home.of.lids_are.only guid none)
          ∙ (lids_and_guids_name_each_other routes.lids guid lid up.home.own_lids).1 named))
      by true some =
          let one = any_at (λ (end : FabricPort). end.guid == guid) (end_ports_in graph) (sym (ends_named graph guid) ∙ some) in
          let held = (graphs_have_the_end_ports was graph one.one (good plan sound) up.are.found.of.layout).0 (there_is (end_ports_in graph) one.place one.one one.there) in
          record { at = held.0; end = one.one; is = held.1; guid_is = eqb-true one.one.guid guid one.passes }

  pub is_attached_at : (lid guid : ℕ) (end : PortRef) → guid_in routes.lids lid ≡ Some guid → port_of (ends_of plan.nodes) guid ≡ Some end → Attached lid end
  is_attached_at lid guid end named is =
      let has = has_end lid guid named in
      let of = planned plan has.at has.end has.is in
      let same : has.at ≡ end =
      same_Some has.at end (sym (port_of_end plan sound has.at of.ends) ∙ ap (port_of (ends_of plan.nodes)) (of.guid_is ∙ has.guid_is) ∙ is) in
      subst (Attached lid) same (by has of.ends (is_switch_at plan.nodes has.at.node) refl)
    where
      by : (has : HasEnd guid) → is_end_port plan has.at ≡ true → (b : Bool) → is_switch_at plan.nodes has.at.node ≡ b → Attached lid has.at
      by has ends true switch = switch_attached lid guid has.at has.end named has.guid_is has.is ends switch
      by has ends false adapter = adapter_attached lid guid has.at has.end named has.guid_is has.is adapter
