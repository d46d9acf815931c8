-- A topology's fabric that is brought up with the keys of its end ports is the fabric of their list.
use Rattle.std.proofs.Common.{ℕ, zero, suc, ◌+◌, ◌-◌, ◌≡◌, ◌≤◌, ◌==◌, ◌&&◌, ◌∙◌, ap, refl, subst, sym, Bool, true, false, if◌then◌else◌, nat_le, List, [], ◌∷◌, length, slice_get, Option, Some, None, option_map, arith}
use Rattle.std.specs.List.{AllByRecursion, enumerate_from}
use Rattle.std.specs.Option.{option_and_then}
use Rattle.std.proofs.lemmas.Bool.{and_parts, false≢true}
use Rattle.std.proofs.lemmas.Bool.Decides.{nat_tests}
use Rattle.std.proofs.lemmas.List.{length-map}
use Rattle.std.proofs.lemmas.List.Elements.{All-from_recursion}
use Rattle.std.proofs.lemmas.List.FromFn.{length-enumerate_from}
use Rattle.std.proofs.lemmas.Option.{none-some, same_Some, slice_get-map, slice_get_within}
use Rattle.fabric_parts.specs.Cable.{is_cabled}
use Rattle.fabric_parts.specs.Lid.{is_multicast}
use Rattle.fabric_parts.specs.NodeType.{is_switch_type}
use Rattle.fabric_parts.specs.declared.cable.PortRef.{PortRef}
use Rattle.fabric_wire.proofs.EndPortLemmas.{known_distinct}
use Rattle.fabric_wire.proofs.OfTopologyGoodLemmas.{good}
use Rattle.fabric_wire.specs.OfTopology.{fabric_of}
use Rattle.lid_assign.proofs.LawLemmas.{lids_and_guids_name_each_other}
use Rattle.lid_assign.specs.Lids.{guid_in, lid_in}
use Rattle.smp_wire.specs.Deliveries.{adapter_at}
use Rattle.smp_wire.specs.Forwards.{ForwardsByLid, IsCabledPort}
use Rattle.partition_file.specs.Sound.{IsSound as ArePartitions}
use Rattle.partition_file.specs.declared.partition.Partition.{Partition}
use Rattle.pkey_rules.specs.StoredKeys.{stored_keys}
use Rattle.port_model.specs.AdapterState.{AdapterState}
use Rattle.table_push.proofs.PortLemmas.{element}
use Rattle.table_push.proofs.BroughtUpLemmas.{brings_up}
use Rattle.table_push.proofs.EndLemmas.{end_ports_stay}
use Rattle.table_push.proofs.ForwardsLemmas.{brought_up_forwards_by_lid}
use Rattle.table_push.proofs.AttachmentLemmas.{is_no_switch}
use Rattle.table_push.specs.BroughtUp.{IsBroughtUp, RoutesLeadHome}
use Rattle.table_push.specs.Pushed.{ArePushed, all_pushed}
use Rattle.step_results.proofs.ListLemmas.{all_have}
use Rattle.smp_wire.specs.FabricState.{FabricState, adapter_port}
use Rattle.smp_wire.specs.declared.node.Node.{Node}
use Rattle.smp_wire.specs.declared.node.Node.TheVariants.{Switch, Adapter}
use Rattle.subnet_model.specs.declared.subnet_port.SubnetPort.{SubnetPort}
use Rattle.subnet_fabric.proofs.EndPortLemmas.{end_ports_stand_in_order}
use Rattle.subnet_fabric.proofs.FabricPortLemmas.{end_ports_are_the_fabrics}
use Rattle.subnet_fabric.proofs.GraphPortLemmas.{sweeps_find_what_is_listed, type_kept}
use Rattle.subnet_fabric.proofs.LidLemmas.{in_lid_order}
use Rattle.subnet_fabric.proofs.OwnEndLemmas.{one_end}
use Rattle.subnet_fabric.specs.EndPorts.{AreEndPorts, IsEndPort, end_port_at, is_end_port}
use Rattle.subnet_fabric.specs.FabricPorts.{AreOfGraph, planned_port}
use Rattle.subnet_fabric.specs.Ports.{ports_of}
use Rattle.subnet_fabric.specs.OfFabric.{IsFabricOf, IsListed, IsSetUpAsListed, IsThere, nobody}
use Rattle.sweep.proofs.CabledLemmas.{cabled_of, far_of}
use Rattle.sweep.proofs.EndPortLemmas.{there_is}
use Rattle.sweep.specs.EndPorts.{FabricPort, end_port_in, held_in, is_end_port_of, port_held}
use Rattle.smp_wire.proofs.CableLemmas.{cabled_is_port}
use Rattle.table_push.specs.Keys.{key_table}
use Rattle.topo_file.specs.Node.{is_switch_at, port_guid_at}
use Rattle.topo_file.specs.Sound.{IsSound}
use Rattle.topo_file.specs.Topology.{TopologyState}
use Rattle.updn_routes.specs.Subnet.{RoutesState, home_in}
use Rattle.subnet_fabric.proofs.KeyLemmas.{stored}
use Rattle.subnet_fabric.proofs.MaskLemmas.{spreads_to_nobody}
use Rattle.subnet_fabric.specs.BringUp.{root_guids}
use Rattle.subnet_fabric.specs.SetUp.{AreRoutesOver}
use Rattle.subnet_fabric.specs.Laws.{AFabricIsBroughtUpAsListed, all_keys}
use Rattle.smp_wire.proofs.PresentLemmas.{present_right}

-- ---- places in lists
counted_at : (first : ℕ) (xs : List ℕ) (k : ℕ) → slice_get (enumerate_from first xs) k ≡ option_map (λ x. (first + k, x)) (slice_get xs k)
counted_at first [] k = refl
counted_at first (x ∷ xs) zero = let same : first ≡ first + 0 = omega arith in ap (λ (n : ℕ). Some (n, x)) same
counted_at first (x ∷ xs) (suc k) =
    let moved : first + 1 + k ≡ first + suc k = omega arith in
    counted_at (first + 1) xs k ∙ ap (λ (n : ℕ). option_map (λ x. (n, x)) (slice_get xs k)) moved

all_of : {X : Type 0} (P : X → Type 0) (xs : List X) → ((k : ℕ) (x : X) → slice_get xs k ≡ Some x → P x) → AllByRecursion P xs
all_of P [] each = tt
all_of P (x ∷ xs) each = (each 0 x refl, all_of P xs (λ k y there. each (suc k) y there))

low_lid : (lid : ℕ) → lid ≤ 0xbfff → is_multicast lid ≡ false
low_lid lid low = grind (arith, nat_tests)

abbrev pub numbers_of : SubnetPort → ℕ × ℕ
numbers_of port = (port.lid, port.guid)

-- ---- an end port of a fabric that is no switch's is a port of a channel adapter, with a cable
record IsAdapterEnd (fabric : FabricState) (at : PortRef) (guid : ℕ) : Type 0 where
  one : AdapterState
  there : adapter_at fabric.nodes at ≡ Some one
  cabled : is_cabled fabric.cables at ≡ true
  guid_is : one.port_guid ≡ guid

adapter_end : (fabric : FabricState) (at : PortRef) (end : FabricPort) → end_port_in fabric at ≡ Some end → end.is_switch ≡ false → IsAdapterEnd fabric at end.guid
adapter_end fabric at end is adapter = by (is_end_port_of fabric at) refl (slice_get fabric.nodes at.node) refl is
  where
    with_port : (ports : List AdapterState) → slice_get fabric.nodes at.node ≡ Some (Adapter ports) → is_cabled fabric.cables at ≡ true
        → (o : Option AdapterState) → adapter_port ports at.port ≡ o → held_in (Adapter ports) at.port ≡ Some end → IsAdapterEnd fabric at end.guid
    with_port ports stands cabled None there is = let none : None ≡ Some end = rw there at is in absurd (none-some end none)
    with_port ports stands cabled (Some one) there is =
        let same = same_Some (port_held at.port one) end (rw there at is) in
        record { one = one; there = rw stands there; cabled = cabled; guid_is = ap (λ (end : FabricPort). end.guid) same }

    by : (b : Bool) → is_end_port_of fabric at ≡ b → (o : Option Node) → slice_get fabric.nodes at.node ≡ o
        → (if b then option_and_then (λ node. held_in node at.port) o else None) ≡ Some end → IsAdapterEnd fabric at end.guid
    by false ends o stands is = absurd (none-some end is)
    by true ends None stands is = absurd (none-some end is)
    by true ends (Some (Switch held)) stands is =
        absurd (false≢true (sym adapter ∙ sym (ap (λ (end : FabricPort). end.is_switch) (same_Some _ end is))))
    by true ends (Some (Adapter ports)) stands is =
        let cabled : ((nat_le 1 at.port && nat_le at.port (length ports)) && is_cabled fabric.cables at) ≡ true = rw stands at ends in
        with_port ports stands (and_parts (nat_le 1 at.port && nat_le at.port (length ports)) _ cabled).1 (adapter_port ports at.port) refl is

-- ---- the fabric that is brought up
module _ (plan : TopologyState) (partitions : List Partition) (sound : IsSound plan) (whole : ArePartitions partitions)
    (routes : RoutesState) (are : AreRoutesOver (fabric_of plan) (root_guids plan) routes) (home : RoutesLeadHome routes)
    (pushed : ArePushed routes (all_keys (ports_of partitions plan)) (fabric_of plan)) where
  abbrev ports : List SubnetPort
  ports = ports_of partitions plan

  abbrev keys : List (List ℕ)
  keys = all_keys ports

  abbrev fabric : FabricState
  fabric = all_pushed routes keys (fabric_of plan)

  ends : AreEndPorts partitions plan ports
  ends = end_ports_stand_in_order partitions plan sound

  of_graph : AreOfGraph routes.graph routes.lids ports
  of_graph = sweeps_find_what_is_listed partitions plan routes.graph routes.lids sound are.found.of.layout are.assigned.lids are.assigned.order

  pub up : IsBroughtUp routes keys fabric
  up = brings_up routes keys (fabric_of plan) home are.found.of (good plan sound) pushed

  end_at : (at : PortRef) → end_port_in fabric at ≡ (if is_end_port plan at then Some (planned_port plan at) else None)
  end_at at = end_ports_stay routes keys (fabric_of plan) at ∙ end_ports_are_the_fabrics plan at

  pub as_many : length ports ≡ length routes.lids
  as_many =
      let pairs = length-map ports numbers_of in
      let numbered = length-enumerate_from 1 routes.lids in
      let same = ap length of_graph.lids in
      omega (arith, pairs, numbered, same)

  -- ---- the port at a place of the list has the LID and the GUID of that place
  record IsPlaced (k : ℕ) (port : SubnetPort) : Type 0 where
    lid : port.lid ≡ 1 + k
    guid : slice_get routes.lids k ≡ Some port.guid

  placed : (k : ℕ) (port : SubnetPort) → slice_get ports k ≡ Some port → IsPlaced k port
  placed k port there =
      by (slice_get routes.lids k) refl
      (sym (counted_at 1 routes.lids k) ∙ ap (λ (pairs : List (ℕ × ℕ)). slice_get pairs k) (sym of_graph.lids)
      ∙ slice_get-map numbers_of ports k ∙ ap (option_map numbers_of) there)
    where
      pair : ℕ × ℕ
      pair = (port.lid, port.guid)

      by : (o : Option ℕ) → slice_get routes.lids k ≡ o → option_map (λ guid. (1 + k, guid)) o ≡ Some pair → IsPlaced k port
      by None at is = absurd (none-some pair is)
      by (Some guid) at is =
          let same = same_Some (1 + k, guid) pair is in
          record { lid = sym (ap (λ (p : ℕ × ℕ). p.0) same); guid = at ∙ ap (λ (p : ℕ × ℕ). Some p.1) same }

  lid_of : (k : ℕ) (port : SubnetPort) → IsPlaced k port → lid_in routes.lids port.guid ≡ Some port.lid
  lid_of k port at =
      let positive : (port.lid == 0) ≡ false = grind (arith, nat_tests, at.lid) in
      let back : port.lid - 1 ≡ k = omega (arith, at.lid) in
      let named : guid_in routes.lids port.lid ≡ Some port.guid = rw (positive, back) at.guid in
      (lids_and_guids_name_each_other routes.lids port.guid port.lid home.own_lids).1 named

  key_at : (k : ℕ) (port : SubnetPort) → slice_get ports k ≡ Some port → slice_get keys k ≡ Some port.keys
  key_at k port there = slice_get-map (λ (port : SubnetPort). port.keys) ports k ∙ ap (option_map (λ (port : SubnetPort). port.keys)) there

  -- ---- a listed port of a channel adapter is there
  record IsUp (port : SubnetPort) (at : PortRef) : Type 0 where
    one : AdapterState
    is : IsSetUpAsListed fabric port at one

  set_up : (k : ℕ) (port : SubnetPort) → slice_get ports k ≡ Some port → (end : IsEndPort partitions plan port) → is_switch_type port.node_type ≡ false → IsUp port end.at
  set_up k port there end adapter =
      let at = end.at in
      let kind : is_switch_at plan.nodes at.node ≡ false = sym (type_kept (is_switch_at plan.nodes at.node)) ∙ ap is_switch_type (sym end.node_type) ∙ adapter in
      let is = end_at at ∙ ap (λ (b : Bool). if b then Some (planned_port plan at) else None) end.there in
      let held = adapter_end fabric at (planned_port plan at) is kind in
      let far = far_of fabric.cables at held.cabled in
      let cabled : IsCabledPort fabric at held.one = record { there = held.there; far = far.0; cable = far.1 } in
      let guid : held.one.port_guid ≡ port.guid = held.guid_is ∙ sym end.guid in
      let named = lid_of k port (placed k port there) in
      let lid : held.one.info.lid ≡ port.lid =
      same_Some held.one.info.lid port.lid (sym (up.lids at held.one cabled) ∙ ap (lid_in routes.lids) guid ∙ named) in
      let place : held.one.info.lid - 1 ≡ k = omega (arith, lid, (placed k port there).lid) in
      let own = up.own_keys at held.one port.keys cabled (ap (slice_get keys) place ∙ key_at k port there) in
      record {
        one = held.one;
        is = record {
          adapter = adapter;
          cabled = cabled;
          active = up.active at held.one cabled;
          guid = guid;
          lid = lid;
          keys =
              ap stored_keys own
              ∙ subst (λ (keys : List ℕ). stored_keys (key_table false keys) ≡ keys) (sym end.keys) (stored (end_port_at plan at) partitions whole);
        };
      }

  is_end : (k : ℕ) (port : SubnetPort) → slice_get ports k ≡ Some port → IsEndPort partitions plan port
  is_end k port there = all_have (IsEndPort partitions plan) ports k port ends.only there

  -- ---- and each port of a channel adapter that is there is listed
  listed : (at : PortRef) (one : AdapterState) → IsCabledPort fabric at one → IsListed ports fabric at one
  listed at one cabled =
      let named = (lids_and_guids_name_each_other routes.lids one.port_guid one.info.lid home.own_lids).0 (up.lids at one cabled) in
      let k = one.info.lid - 1 in
      let guid_there = by (one.info.lid == 0) named in
      let port = element ports k (omega (arith, as_many, slice_get_within routes.lids k one.port_guid guid_there)) in
      let end = is_end k port.0 port.1 in
      let guid : port.0.guid ≡ one.port_guid = same_Some port.0.guid one.port_guid (sym (placed k port.0 port.1).guid ∙ guid_there) in
      let here = planned_by (is_end_port plan at) refl in
      let same : end.at ≡ at = one_end plan end.at at sound end.there here (sym end.guid ∙ guid ∙ sym (guid_planned here)) in
      let kind : is_switch_type port.0.node_type ≡ false =
      ap is_switch_type end.node_type ∙ type_kept (is_switch_at plan.nodes end.at.node) ∙ ap (λ (p : PortRef). is_switch_at plan.nodes p.node) same ∙ planned_kind here in
      let is = subst (IsUp port.0) same (set_up k port.0 port.1 end kind) in
      record {
        port = port.0;
        among = there_is ports k port.0 port.1;
        is = subst (IsSetUpAsListed fabric port.0 at) (same_Some is.one one (sym is.is.cabled.there ∙ cabled.there)) is.is;
      }
    where
      by : (b : Bool) → (if b then None else slice_get routes.lids (one.info.lid - 1)) ≡ Some one.port_guid → slice_get routes.lids (one.info.lid - 1) ≡ Some one.port_guid
      by true is = absurd (none-some one.port_guid is)
      by false is = is

      found : (o : Option Node) → slice_get fabric.nodes at.node ≡ o → option_and_then (λ node. held_in node at.port) o ≡ Some (port_held at.port one)
      found None stands = absurd (none-some one (sym (rw stands refl) ∙ cabled.there))
      found (Some (Switch held)) stands = absurd (false≢true (sym (is_no_switch fabric.nodes at one cabled.there) ∙ rw stands refl))
      found (Some (Adapter ports)) stands =
          let there : adapter_port ports at.port ≡ Some one = rw stands at cabled.there in
          rw there refl

      is_there : end_port_in fabric at ≡ Some (port_held at.port one)
      is_there =
          let kind = is_no_switch fabric.nodes at one cabled.there in
          let port = cabled_is_port fabric.nodes fabric.cables at cabled.far (present_right up.good) cabled.cable in
          let cable = cabled_of fabric.cables at cabled.far cabled.cable in
          rw (kind, port, cable) (found (slice_get fabric.nodes at.node) refl)

      planned_by : (b : Bool) → is_end_port plan at ≡ b → is_end_port plan at ≡ true
      planned_by true is = is
      planned_by false is =
          absurd (none-some (port_held at.port one) (ap (λ (b : Bool). if b then Some (planned_port plan at) else None) (sym is) ∙ sym (end_at at) ∙ is_there))

      planned : is_end_port plan at ≡ true → planned_port plan at ≡ port_held at.port one
      planned here =
          same_Some (planned_port plan at) (port_held at.port one)
          (ap (λ (b : Bool). if b then Some (planned_port plan at) else None) (sym here) ∙ sym (end_at at) ∙ is_there)

      guid_planned : is_end_port plan at ≡ true → port_guid_at plan.nodes at ≡ one.port_guid
      guid_planned here = ap (λ (end : FabricPort). end.guid) (planned here)

      planned_kind : is_end_port plan at ≡ true → is_switch_at plan.nodes at.node ≡ false
      planned_kind here = ap (λ (end : FabricPort). end.is_switch) (planned here)

  forwards : ForwardsByLid fabric
  forwards = brought_up_forwards_by_lid routes keys fabric home (length-map ports (λ (port : SubnetPort). port.keys) ∙ as_many) up

  -- there are not as many as there are unicast LIDs
  unicast : (k : ℕ) (port : SubnetPort) → slice_get ports k ≡ Some port → is_multicast port.lid ≡ false
  unicast k port there =
      let lid = (placed k port there).lid in
      let within = slice_get_within ports k port there in
      let few = home.chosen.few_lids in
      let homes = ap length home.of.homes_are ∙ length-map routes.lids (home_in routes.graph) in
      low_lid port.lid (omega (arith, lid, within, few, homes, as_many))

  pub is_fabric : IsFabricOf ports nobody fabric
  is_fabric = record {
    forwards = forwards;
    spreads = spreads_to_nobody plan routes keys forwards;
    groups = λ mlid guid none. absurd (false≢true none);
    own_guids = λ guid a b one other. known_distinct fabric.nodes up.good.end_guids.own a b guid one other;
    order = in_lid_order 1 ports ends.lids;
    unicast =
        All-from_recursion (λ port. is_multicast port.lid ≡ false) ports (all_of (λ port. is_multicast port.lid ≡ false) ports unicast);
    there =
        All-from_recursion (λ port. is_switch_type port.node_type ≡ false → IsThere fabric port) ports
        (all_of (λ port. is_switch_type port.node_type ≡ false → IsThere fabric port) ports
        (λ k port there adapter. let end = is_end k port there in let is = set_up k port there end adapter in record { at = end.at; one = is.one; is = is.is }));
    listed = listed;
  }

pub a_fabric_is_brought_up_as_listed : AFabricIsBroughtUpAsListed
a_fabric_is_brought_up_as_listed plan partitions state sound whole up =
    subst (IsFabricOf (ports_of partitions plan) nobody) (sym up.by.is) (is_fabric plan partitions sound whole up.routes up.by.are up.by.home up.by.pushed)
