-- A fabric that stands is that of the list of its ports, whichever cables are cut.
use Rattle.std.proofs.Common.{ℕ, suc, inl, inr, ◌≡◌, ◌+◌, ◌∙◌, add-zero, zero-add, arith, ap, refl, sym, subst, Bool, false, if◌then◌else◌, List, [], ◌∷◌, ◌++◌, flat_map, map, slice_get, Some}
use Rattle.std.specs.List.{enumerate_from, range_with_len}
use Rattle.fabric_parts.specs.Cable.{far_end, is_cabled, port}
use Rattle.fabric_parts.specs.declared.cable.Cable.{Cable}
use Rattle.fabric_parts.specs.declared.cable.PortRef.{PortRef}
use Rattle.fabric_parts.specs.declared.node_type.NodeType.{NodeType}
use Rattle.fabric_parts.specs.declared.node_type.NodeType.TheVariants as node_type
use Rattle.fabric_wire.specs.Cabling.{CablingState, uncut}
use Rattle.fabric_wire.proofs.OfTopologyGoodLemmas.{good as made_good}
use Rattle.fabric_wire.specs.OfTopology.{fabric_of}
use Rattle.fabric_wire.specs.Recabling.{cabling_of}
use Rattle.smp_wire.specs.Forwards.{ForwardsByLid, HoldsBackNothing, IsCabledPort}
use Rattle.smp_wire.specs.Groups.{ForwardsByMlid}
use Rattle.partition_file.specs.declared.partition.Partition.{Partition}
use Rattle.port_model.specs.AdapterState.{AdapterState}
use Rattle.partition_file.specs.Sound.{IsSound as ArePartitions}
use Rattle.smp_wire.specs.FabricState.{FabricState}
use Rattle.smp_wire.specs.Good.{IsGood}
use Rattle.table_push.proofs.PushLemmas.{masks_are_the_fabrics, pushes_are_the_fabrics}
use Rattle.table_push.specs.OrderLaws.{AreRoutesIn}
use Rattle.subnet_fabric.proofs.FoundLemmas.{laid_out}
use Rattle.subnet_fabric.proofs.GroupLemmas.{a_fabric_with_groups_is_as_listed}
use Rattle.subnet_fabric.proofs.ListedLemmas.{up}
use Rattle.subnet_fabric.proofs.OneFateLemmas.{one_list}
use Rattle.subnet_fabric.proofs.RecabledGroupLemmas.{masks_keep_it_up}
use Rattle.subnet_fabric.proofs.RecabledLemmas.{brought_up_is_up_with_all}
use Rattle.subnet_fabric.proofs.RecabledNodeLemmas.{cabled_same}
use Rattle.subnet_fabric.proofs.RecabledSoundLemmas.{what_is_up_is_sound}
use Rattle.subnet_fabric.specs.BringUp.{IsBroughtUpBy, root_guids}
use Rattle.subnet_fabric.specs.Laws.{all_keys}
use Rattle.subnet_fabric.specs.Recabled.{IsUpWith, base_of, with_cables}
use Rattle.subnet_fabric.specs.Standing.{IsStanding}
use Rattle.subnet_fabric.specs.StandingLaws.{AStandingFabricIsAsListed, BroughtUpStands, MasksLetItStand, OneCablingFollows, OneFabricStands}
use Rattle.subnet_model.specs.declared.subnet_port.SubnetPort.{SubnetPort}
use Rattle.subnet_fabric.specs.Ports.{adapter_end_place, end_ports, in_order, keyed, ports_of, end_place_if_cabled, end_places, end_places_at, end_places_of_type}
use Rattle.subnet_fabric.specs.OfFabric.{IsFabricOf, IsListed, IsSetUpAsListed, IsThere}
use Rattle.sweep.specs.Graph.{GraphState}
use Rattle.sweep.specs.OfFabric.{IsGraphOf}
use Rattle.table_push.proofs.AllMaskLemmas.{masks_keep_what_is_up}
use Rattle.table_push.specs.BroughtUp.{IsBroughtUp}
use Rattle.table_push.specs.BroughtUpLaws.{AreOfGroups, by_guid}
use Rattle.table_push.specs.Masks.{all_masks_pushed}
use Rattle.table_push.specs.Pushed.{all_pushed}
use Rattle.topo_file.specs.Node.{is_switch_at}
use Rattle.topo_file.specs.Sound.{IsSound}
use Rattle.topo_file.specs.Topology.{TopologyState}
use Rattle.topo_file.specs.declared.node.Node.{Node}
use Rattle.updn_routes.specs.Subnet.{RoutesState}

-- ---- the list is one, as long as channel adapters have their cables
module _ (plan : TopologyState) (cables : List Cable)
    (hung : (at : PortRef) → is_switch_at plan.nodes at.node ≡ false → is_cabled cables at ≡ is_cabled plan.cables at) where
  abbrev now : TopologyState
  now = with_cables cables plan

  module _ (place : ℕ) (node : Node) (adapter : is_switch_at plan.nodes place ≡ false) where
    end_place_stays : (number : ℕ) → end_place_if_cabled now node (port place number) ≡ end_place_if_cabled plan node (port place number)
    end_place_stays number =
        ap (λ (cabled : Bool). if cabled then adapter_end_place plan.sm node (port place number) ∷ [] else []) (hung (port place number) adapter)

    adapter_end_places_stay : (numbers : List ℕ)
        → flat_map (end_place_if_cabled now node) (map (λ number. port place number) numbers)
        ≡ flat_map (end_place_if_cabled plan node) (map (λ number. port place number) numbers)
    adapter_end_places_stay [] = refl
    adapter_end_places_stay (number ∷ numbers) =
        let head = end_place_stays number in
        let tail = adapter_end_places_stay numbers in
        λ i. head i ++ tail i

  end_places_stay_at : (of : NodeType) (place : ℕ) (node : Node) → slice_get plan.nodes place ≡ Some node → node.node_type ≡ of
      → end_places_of_type of now place node ≡ end_places_of_type of plan place node
  end_places_stay_at node_type.Switch place node there is = refl
  end_places_stay_at node_type.ChannelAdapter place node there is =
      let adapter : is_switch_at plan.nodes place ≡ false = rw (there, is) refl in
      adapter_end_places_stay place node adapter (range_with_len 1 node.ports)

  end_places_stay_from : (first : ℕ) (nodes : List Node) → ((k : ℕ) → slice_get nodes k ≡ slice_get plan.nodes (first + k))
      → flat_map (end_places_at now) (enumerate_from first nodes) ≡ flat_map (end_places_at plan) (enumerate_from first nodes)
  end_places_stay_from first [] there = refl
  end_places_stay_from first (node ∷ nodes) there =
      let here : slice_get plan.nodes first ≡ Some node = ap (slice_get plan.nodes) (sym (add-zero first)) ∙ sym (there 0) in
      let head = end_places_stay_at node.node_type first node here refl in
      let tail = end_places_stay_from (first + 1) nodes (λ k. there (suc k) ∙ ap (slice_get plan.nodes) (omega (arith))) in
      λ i. head i ++ tail i

  end_places_stay : end_places now ≡ end_places plan
  end_places_stay = end_places_stay_from 0 plan.nodes (λ k. ap (slice_get plan.nodes) (sym (zero-add k)))

  pub ports_stay : (partitions : List Partition) → ports_of partitions now ≡ ports_of partitions plan
  ports_stay partitions = λ i. in_order plan.nodes (end_ports (end_places_stay i)) (keyed partitions (end_places_stay i))

-- ---- what is listed says nothing of cables that are cut
module _ (fabric : FabricState) where
  abbrev in_place : FabricState
  in_place = record fabric { cut = [] }

  cabled_too : (at : PortRef) (one : AdapterState) → IsCabledPort in_place at one → IsCabledPort fabric at one
  cabled_too at one is = record { there = is.there; far = is.far; cable = is.cable }

  abbrev cabled_back : (at : PortRef) (one : AdapterState) → IsCabledPort fabric at one → IsCabledPort in_place at one
  cabled_back at one is = record { there = is.there; far = is.far; cable = is.cable }

  as_listed : (port : SubnetPort) (at : PortRef) (one : AdapterState) → IsSetUpAsListed in_place port at one → IsSetUpAsListed fabric port at one
  as_listed port at one is = record {
    adapter = is.adapter;
    cabled = cabled_too at one is.cabled;
    active = is.active;
    guid = is.guid;
    lid = is.lid;
    keys = is.keys;
  }

  there_too : (port : SubnetPort) → IsThere in_place port → IsThere fabric port
  there_too port is = record { at = is.at; one = is.one; is = as_listed port is.at is.one is.is }

  listed_too : (ports : List SubnetPort) (at : PortRef) (one : AdapterState) → IsListed ports in_place at one → IsListed ports fabric at one
  listed_too ports at one is = record { port = is.port; among = is.among; is = as_listed is.port at one is.is }

  free_too : HoldsBackNothing in_place → HoldsBackNothing fabric
  free_too free = record { cables = free.cables; once = free.once; facing = free.facing; between = free.between }

  forwards_too : ForwardsByLid in_place → ForwardsByLid fabric
  forwards_too forwards = record {
    free = free_too forwards.free;
    own = forwards.own;
    lead = λ from at sender port begin end. forwards.lead from at sender port (cabled_back from sender begin) (cabled_back at port end);
  }

  spreads_too : (receives : ℕ → ℕ → Bool) → ForwardsByMlid in_place receives → ForwardsByMlid fabric receives
  spreads_too receives spreads = record {
    free = free_too spreads.free;
    own = spreads.own;
    lead = λ mlid from at sender port begin end apart is group.
        spreads.lead mlid from at sender port (cabled_back from sender begin) (cabled_back at port end) apart is group;
    away = λ mlid from sender begin way goes. spreads.away mlid from sender (cabled_back from sender begin) way goes;
  }

  pub is_fabric_too : (ports : List SubnetPort) (receives : ℕ → ℕ → Bool) → IsFabricOf ports receives in_place → IsFabricOf ports receives fabric
  is_fabric_too ports receives is = record {
    forwards = forwards_too is.forwards;
    spreads = spreads_too receives is.spreads;
    groups = is.groups;
    own_guids = is.own_guids;
    order = is.order;
    unicast = is.unicast;
    there = λ i port within adapter. there_too _ (is.there i port within adapter);
    listed = λ at one cabled. listed_too ports at one (is.listed at one (cabled_back at one cabled));
  }

  -- nor does what is brought up
  graph_too : (graph : GraphState) → IsGraphOf graph in_place → IsGraphOf graph fabric
  graph_too graph of = record {
    layout = record {
      found = of.layout.found;
      once = of.layout.once;
      all = of.layout.all;
      manager = of.layout.manager;
      switches = of.layout.switches;
      rows = of.layout.rows;
      ports = of.layout.ports;
    };
    lead = λ i d within. let leads = of.lead i d within in record {
      rest = leads.rest;
      leaves = leads.leaves;
      at = leads.at;
      ends = leads.ends;
      node = leads.node;
      short = leads.short;
    };
  }

  pub brought_up_too : (routes : RoutesState) (keys : List (List ℕ)) → IsGood fabric → IsBroughtUp routes keys in_place → IsBroughtUp routes keys fabric
  brought_up_too routes keys good up = record {
    good = good;
    graph = graph_too routes.graph up.graph;
    tables = up.tables;
    lids = λ at port cabled. up.lids at port (cabled_back at port cabled);
    active = λ at port cabled. up.active at port (cabled_back at port cabled);
    own_keys = λ at port own cabled given. up.own_keys at port own (cabled_back at port cabled) given;
    facing = up.facing;
    between = up.between;
  }

-- ---- what stands, with the masks of some groups
module _ (plan : TopologyState) (partitions : List Partition) (routes : RoutesState) (fabric : FabricState) (receives : ℕ → ℕ → Bool)
    (sound : IsSound plan) (whole : ArePartitions partitions) (standing : IsStanding plan (all_keys (ports_of partitions plan)) routes fabric) where
  abbrev in_use : TopologyState
  in_use = with_cables fabric.cables plan

  abbrev keys : List (List ℕ)
  keys = all_keys (ports_of partitions plan)

  abbrev masked : FabricState
  masked = all_masks_pushed routes receives fabric

  sound_now : IsSound in_use
  sound_now = what_is_up_is_sound plan (cabling_of fabric) (root_guids plan) keys routes fabric sound standing.up

  same : ports_of partitions in_use ≡ ports_of partitions plan
  same = ports_stay plan fabric.cables (λ at adapter. cabled_same plan.cables fabric.cables at (standing.hung at adapter)) partitions

  brought_by : IsBroughtUpBy in_use (all_keys (ports_of partitions in_use)) routes (base_of fabric)
  brought_by = subst (λ (ports : List SubnetPort). IsBroughtUpBy in_use (all_keys ports) routes (base_of fabric)) (sym same) standing.up.set_up

  kept : IsUpWith plan (cabling_of fabric) (root_guids plan) keys routes masked × (record masked { cut = [] } ≡ all_masks_pushed routes receives (base_of fabric))
  kept = masks_keep_it_up plan (cabling_of fabric) (root_guids plan) keys routes receives fabric standing.up

  pub is_as_listed : AreOfGroups receives → IsFabricOf (ports_of partitions plan) (by_guid routes.lids receives) masked
  is_as_listed groups =
      is_fabric_too masked (ports_of partitions plan) (by_guid routes.lids receives)
      (subst (λ (ports : List SubnetPort). IsFabricOf ports (by_guid routes.lids receives) (record masked { cut = [] })) same
      (subst (IsFabricOf (ports_of partitions in_use) (by_guid routes.lids receives)) (sym kept.1)
      (a_fabric_with_groups_is_as_listed in_use partitions routes (base_of fabric) receives sound_now whole brought_by groups)))

  pub is_brought_up : IsBroughtUp routes keys masked
  is_brought_up =
      brought_up_too masked routes keys kept.0.good
      (subst (IsBroughtUp routes keys) (sym kept.1)
      (masks_keep_what_is_up routes keys receives (base_of fabric)
      (subst (λ (ports : List SubnetPort). IsBroughtUp routes (all_keys ports) (base_of fabric)) same
      (subst (IsBroughtUp routes (all_keys (ports_of partitions in_use))) (sym brought_by.is) (up in_use partitions sound_now whole routes brought_by.are brought_by.home brought_by.pushed)))))

-- ---- the laws
pub brought_up_stands : BroughtUpStands
brought_up_stands plan keys routes fabric by =
    let cables : fabric.cables ≡ plan.cables = ap (λ (one : FabricState). one.cables) by.is in
    let cut : fabric.cut ≡ [] = ap (λ (one : FabricState). one.cut) by.is in
    let is : cabling_of fabric ≡ uncut plan.cables = λ i. record { cables = cables i; cut = cut i } in
    record {
      up = subst (λ (one : CablingState). IsUpWith plan one (root_guids plan) keys routes fabric) (sym is)
          (brought_up_is_up_with_all plan keys routes fabric by);
      hung = λ at adapter. ap (λ (all : List Cable). far_end all at) cables;
    }

pub masks_let_it_stand : MasksLetItStand
masks_let_it_stand plan keys routes receives fabric standing = record {
  up = (masks_keep_it_up plan (cabling_of fabric) (root_guids plan) keys routes receives fabric standing.up).0;
  hung = standing.hung;
}

pub a_standing_fabric_is_as_listed : AStandingFabricIsAsListed
a_standing_fabric_is_as_listed plan partitions routes fabric receives sound whole standing groups =
    is_as_listed plan partitions routes fabric receives sound whole standing groups

pub one_fabric_stands : OneFabricStands
one_fabric_stands plan keys routes others receives one other sound stands stands_too same ruled =
    let in_use = with_cables (cabling_of one).cables plan in
    let sound_now = what_is_up_is_sound plan (cabling_of one) (root_guids plan) keys routes one sound stands.up in
    let up_too = subst (λ (c : CablingState). IsUpWith plan c (root_guids plan) keys others other) (sym same) stands_too.up in
    let first = stands.up.set_up in
    let second = up_too.set_up in
    let lids = one_list in_use routes.graph others.graph routes.lids others.lids sound_now (laid_out (fabric_of in_use) routes.graph first.are.found)
    (laid_out (fabric_of in_use) others.graph second.are.found) first.are.assigned second.are.assigned in
    let mine : AreRoutesIn (fabric_of in_use) (root_guids plan) routes =
    record { graph = first.are.found.of; home = first.home; made = first.are.made } in
    let theirs : AreRoutesIn (fabric_of in_use) (root_guids plan) others =
    record { graph = second.are.found.of; home = second.home; made = second.are.made } in
    let base : base_of other ≡ base_of one =
    second.is ∙ pushes_are_the_fabrics (fabric_of in_use) (root_guids plan) routes others keys (fabric_of in_use) (made_good in_use sound_now) mine theirs lids ruled
    ∙ sym first.is in
    let is = (masks_keep_it_up plan (cabling_of one) (root_guids plan) keys routes receives one stands.up).1 in
    let is_too = (masks_keep_it_up plan (cabling_of other) (root_guids plan) keys others receives other stands_too.up).1 in
    let masked : all_masks_pushed others receives (base_of other) ≡ all_masks_pushed routes receives (base_of one) =
    ap (all_masks_pushed others receives) base
    ∙ masks_are_the_fabrics (fabric_of in_use) (root_guids plan) routes others receives (base_of one) (made_good in_use sound_now) mine theirs lids in
    let all : record (all_masks_pushed routes receives one) { cut = [] } ≡ record (all_masks_pushed others receives other) { cut = [] } =
    is ∙ sym masked ∙ sym is_too in
    λ i. record (all i) { cut = (same i).cut }

pub one_cabling_follows : OneCablingFollows
one_cabling_follows plan a b mended was one other (inl is) (inl is_too) = is.1 ∙ sym is_too.1
one_cabling_follows plan a b mended was one other (inl is) (inr never) = absurd (never.0 is.0)
one_cabling_follows plan a b mended was one other (inr never) (inl is) = absurd (never.0 is.0)
one_cabling_follows plan a b mended was one other (inr never) (inr never_too) = never.1 ∙ sym never_too.1
