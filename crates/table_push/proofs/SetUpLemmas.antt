-- What a fabric has whose ports, P_Key tables and LFTs were pushed in turn.
use Rattle.std.proofs.Common.{ℕ, ◌≡◌, ◌-◌, ◌<◌, ◌==◌, ◌∙◌, ap, refl, sym, subst, true, false, List, [], map, length, slice_get, Option, Some, None, option_map, unwrap_or, arith}
use Rattle.std.specs.List.{range_with_len}
use Rattle.std.specs.Option.{option_and_then, option_map_or}
use Rattle.std.proofs.Math.Nat.{zero-add}
use Rattle.std.proofs.lemmas.Bool.{ne_eqb}
use Rattle.std.proofs.lemmas.Option.{same_Some, slice_get-map}
use Rattle.std.proofs.lemmas.Simd.{map-map}
use Rattle.step_results.proofs.ListLemmas.{range_at}
use Rattle.agent_rules.specs.declared.power_up.TheConstants.{LINEAR_TABLE}
use Rattle.attr_tables.specs.declared.port_info.PortInfo.{PortInfo}
use Rattle.attr_tables.specs.declared.switch_info.SwitchInfo.{SwitchInfo}
use Rattle.lid_assign.specs.Lids.{lid_in}
use Rattle.smp_wire.specs.FabricState.{FabricState}
use Rattle.smp_wire.specs.Good.{node_guid, port_info_at}
use Rattle.smp_wire.specs.declared.node.Node.{Node}
use Rattle.smp_wire.specs.declared.node.Node.TheVariants.{Switch, Adapter}
use Rattle.switch_model.specs.SwitchState.{SwitchState}
use Rattle.table_push.specs.SetUp.{EachPortIsServed, EachSwitchIsSetUp, Enforces, InfoIs, IsActive, IsEndPort, KeysAre, port_keys_at}
use Rattle.table_push.specs.Pushed.{all_pushed}
use Rattle.table_push.specs.Keys.{guid_of, key_table, keys_of, keys_wanted}
use Rattle.table_push.specs.Linear.{linear_entry, linear_table, with_linear}
use Rattle.table_push.specs.Nodes.{infos_by, keys_by, switch_by}
use Rattle.table_push.specs.Ports.{change_wanted, changed, set_top, stays, with_top}
use Rattle.table_push.specs.declared.ports.PortChange.{PortChange}
use Rattle.table_push.proofs.CableLemmas.{own_guids, attachment}
use Rattle.table_push.proofs.GuidLemmas.{no_place, place_is}
use Rattle.table_push.proofs.InfoPortLemmas.{info_after_node}
use Rattle.table_push.proofs.PartLemmas.{info_part, keys_part, other_part, part_after}
use Rattle.table_push.proofs.SightLemmas.{infos_unseen, keys_unseen, switches_unseen}
use Rattle.table_push.proofs.WantedChangeLemmas.{wanted_adapter, wanted_before, wanted_link, wanted_own}
use Rattle.table_push.proofs.WantedLemmas.{guid_there, attached_is, port_is, wanted_adapter as keys_at_adapter, wanted_own as keys_at_own, wanted_there as keys_before}
use Rattle.updn_routes.specs.Subnet.{RoutesState, place_of}

module _ (routes : RoutesState) (keys : List (List ℕ)) where
  -- ---- a node
  abbrev pub with_info : ℕ → ℕ → PortInfo → PortInfo
  with_info guid number = changed (change_wanted routes guid number)

  abbrev pub with_table : ℕ → ℕ → List ℕ → List ℕ
  with_table guid number held = unwrap_or (keys_wanted routes keys guid number) held

  abbrev top : ℕ
  top = length routes.lids

  abbrev pub with_ports : Node → Node
  with_ports node = switch_by (λ guid. set_top top) (infos_by with_info node)

  abbrev pub with_all : Node → Node
  with_all node = switch_by (with_linear routes) (keys_by with_table (with_ports node))

  guid_of_ports : (node : Node) → node_guid (with_ports node) ≡ node_guid node
  guid_of_ports node = (switches_unseen (λ guid. set_top top) (λ guid held. (_, _, _, refl))).guid (infos_by with_info node) ∙ (infos_unseen with_info).guid node

  guid_after : (node : Node) → node_guid (with_all node) ≡ node_guid node
  guid_after node =
      (switches_unseen (with_linear routes) (λ guid held. (_, _, _, refl))).guid (keys_by with_table (with_ports node))
      ∙ (keys_unseen with_table).guid (with_ports node) ∙ guid_of_ports node

  info_linear : (node : Node) (number : ℕ) → port_info_at (switch_by (with_linear routes) node) number ≡ port_info_at node number
  info_linear (Switch held) number = refl
  info_linear (Adapter ports) number = refl

  info_keys : (node : Node) (number : ℕ) → port_info_at (keys_by with_table node) number ≡ port_info_at node number
  info_keys (Switch held) number = other_part keys_part info_part (record { switch = λ keys port. refl; adapter = λ keys port. refl }) with_table (Switch held) number
  info_keys (Adapter ports) number = other_part keys_part info_part (record { switch = λ keys port. refl; adapter = λ keys port. refl }) with_table (Adapter ports) number

  info_top : (node : Node) (number : ℕ) → port_info_at (switch_by (λ guid. set_top top) node) number ≡ port_info_at node number
  info_top (Switch held) number = refl
  info_top (Adapter ports) number = refl

  info_after : (node : Node) (number : ℕ) → port_info_at (with_all node) number ≡ option_map (with_info (node_guid node) number) (port_info_at node number)
  info_after node number =
      info_linear (keys_by with_table (with_ports node)) number ∙ info_keys (with_ports node) number ∙ info_top (infos_by with_info node) number
      ∙ info_after_node with_info node number

  keys_linear : (node : Node) (number : ℕ) → port_keys_at (switch_by (with_linear routes) node) number ≡ port_keys_at node number
  keys_linear (Switch held) number = refl
  keys_linear (Adapter ports) number = refl

  keys_top : (node : Node) (number : ℕ) → port_keys_at (switch_by (λ guid. set_top top) node) number ≡ port_keys_at node number
  keys_top (Switch held) number = refl
  keys_top (Adapter ports) number = refl

  keys_info : (node : Node) (number : ℕ) → port_keys_at (infos_by with_info node) number ≡ port_keys_at node number
  keys_info (Switch held) number = other_part info_part keys_part (record { switch = λ info port. refl; adapter = λ info port. refl }) with_info (Switch held) number
  keys_info (Adapter ports) number = other_part info_part keys_part (record { switch = λ info port. refl; adapter = λ info port. refl }) with_info (Adapter ports) number

  keys_after : (node : Node) (number : ℕ) → port_keys_at (keys_by with_table node) number ≡ option_map (with_table (node_guid node) number) (port_keys_at node number)
  keys_after (Switch held) number = part_after keys_part with_table (Switch held) number
  keys_after (Adapter ports) number = part_after keys_part with_table (Adapter ports) number

  keys_after_all : (node : Node) (number : ℕ) → port_keys_at (with_all node) number ≡ option_map (with_table (node_guid node) number) (port_keys_at node number)
  keys_after_all node number =
      keys_linear (keys_by with_table (with_ports node)) number ∙ keys_after (with_ports node) number
      ∙ ap (λ (guid : ℕ). option_map (with_table guid number) (port_keys_at (with_ports node) number)) (guid_of_ports node)
      ∙ ap (option_map (with_table (node_guid node) number)) (keys_top (infos_by with_info node) number ∙ keys_info node number)

  -- ---- the fabric
  module _ (fabric : FabricState) where
    nodes_after : (all_pushed routes keys fabric).nodes ≡ map with_all fabric.nodes
    nodes_after =
        ap (λ (nodes : List Node). map (switch_by (with_linear routes)) (map (keys_by with_table) nodes))
        (map-map (switch_by (λ guid. set_top top)) (infos_by with_info) fabric.nodes)
        ∙ ap (map (switch_by (with_linear routes))) (map-map (keys_by with_table) with_ports fabric.nodes)
        ∙ map-map (switch_by (with_linear routes)) (λ node. keys_by with_table (with_ports node)) fabric.nodes

    pub node_after : (place : ℕ) → slice_get (all_pushed routes keys fabric).nodes place ≡ option_map with_all (slice_get fabric.nodes place)
    node_after place = ap (λ (nodes : List Node). slice_get nodes place) nodes_after ∙ slice_get-map with_all fabric.nodes place

    -- whatever the port had, it has that change
    info_is : (guid number : ℕ) (wanted : PortChange) (Is : PortInfo → Type 0) → change_wanted routes guid number ≡ wanted
        → ((info : PortInfo) → Is (changed wanted info)) → InfoIs (all_pushed routes keys fabric) guid number Is
    info_is guid number wanted Is are each at info at_guid at_number held =
        by (slice_get fabric.nodes at.node)
        (ap (λ (o : Option Node). option_map_or node_guid o 0) (sym (node_after at.node)) ∙ at_guid)
        (ap (λ (o : Option Node). option_and_then (λ node. port_info_at node at.port) o) (sym (node_after at.node)) ∙ held)
      where
        by_port : (node : Node) → node_guid node ≡ guid → (o : Option PortInfo) → option_map (with_info (node_guid node) at.port) o ≡ Some info → Is info
        by_port node is None found = absurd (cc)
        by_port node is (Some was) found =
            let same : changed (change_wanted routes (node_guid node) at.port) was ≡ info = same_Some _ info found in
            let its : change_wanted routes (node_guid node) at.port ≡ wanted = (λ i. change_wanted routes (is i) (at_number i)) ∙ are in
            subst Is (ap (λ (one : PortChange). changed one was) (sym its) ∙ same) (each was)

        by : (o : Option Node) → option_map_or node_guid (option_map with_all o) 0 ≡ guid
            → option_and_then (λ node. port_info_at node at.port) (option_map with_all o) ≡ Some info → Is info
        by None is found = absurd (cc)
        by (Some node) is found = by_port node (sym (guid_after node) ∙ is) (port_info_at node at.port) (sym (info_after node at.port) ∙ found)

    keys_are : (guid number : ℕ) (table : List ℕ) → keys_wanted routes keys guid number ≡ Some table → KeysAre (all_pushed routes keys fabric) guid number table
    keys_are guid number table are at held at_guid at_number found =
        by (slice_get fabric.nodes at.node)
        (ap (λ (o : Option Node). option_map_or node_guid o 0) (sym (node_after at.node)) ∙ at_guid)
        (ap (λ (o : Option Node). option_and_then (λ node. port_keys_at node at.port) o) (sym (node_after at.node)) ∙ found)
      where
        by_port : (node : Node) → node_guid node ≡ guid → (o : Option (List ℕ)) → option_map (with_table (node_guid node) at.port) o ≡ Some held → held ≡ table
        by_port node is None found = absurd (cc)
        by_port node is (Some was) found =
            let its : keys_wanted routes keys (node_guid node) at.port ≡ Some table = (λ i. keys_wanted routes keys (is i) (at_number i)) ∙ are in
            sym (same_Some _ held found) ∙ ap (λ (some : Option (List ℕ)). unwrap_or some was) its

        by : (o : Option Node) → option_map_or node_guid (option_map with_all o) 0 ≡ guid
            → option_and_then (λ node. port_keys_at node at.port) (option_map with_all o) ≡ Some held → held ≡ table
        by None is found = absurd (cc)
        by (Some node) is found = by_port node (sym (guid_after node) ∙ is) (port_keys_at node at.port) (sym (keys_after_all node at.port) ∙ found)

    -- what stood where a switch stands then
    record WasSwitch (node : ℕ) (held : SwitchState) : Type 0 where
      was : SwitchState
      guid_is : held.node_guid ≡ was.node_guid
      linear_is : held.linear ≡ option_map_or (linear_table routes) (place_of routes.graph.switches was.node_guid) was.linear
      info_is : held.info ≡ with_top top was.info

    was_switch : (node : ℕ) (held : SwitchState) → slice_get (all_pushed routes keys fabric).nodes node ≡ Some (Switch held) → WasSwitch node held
    was_switch node held there = by (slice_get fabric.nodes node) (sym (node_after node) ∙ there)
      where
        linear_of : Node → List ℕ
        linear_of (Switch one) = one.linear
        linear_of (Adapter ports) = []

        info_of : SwitchInfo → Node → SwitchInfo
        info_of none (Switch one) = one.info
        info_of none (Adapter ports) = none

        by : (o : Option Node) → option_map with_all o ≡ Some (Switch held) → WasSwitch node held
        by None is = absurd (cc)
        by (Some (Adapter ports)) is = absurd (cc)
        by (Some (Switch was)) is =
            let same : Switch held ≡ with_all (Switch was) = sym (same_Some (with_all (Switch was)) (Switch held) is) in
            record { was = was; guid_is = ap node_guid same; linear_is = ap linear_of same; info_is = ap (info_of was.info) same }

given : (routes : RoutesState) (keys : List (List ℕ)) (guid lid : ℕ) (own : List ℕ) → lid_in routes.lids guid ≡ Some lid → slice_get keys (lid - 1) ≡ Some own
    → keys_of routes keys guid ≡ Some own
given routes keys guid lid own is stands = rw (is, stands) refl

pub ports_are_served : EachPortIsServed
ports_are_served routes keys fabric k one lid own is of at lid_is stands =
    let sits = attachment routes.graph k one is at in
    let none = no_place routes.graph.switches one.node_guid sits.no_switch in
    let guid : guid_of routes.graph.switches one.at.node ≡ sits.switch.guid = guid_there routes.graph.switches one.at.node sits.switch sits.there in
    let place : place_of routes.graph.switches (guid_of routes.graph.switches one.at.node) ≡ Some one.at.node =
    ap (place_of routes.graph.switches) guid ∙ place_is routes.graph.switches one.at.node sits.switch (own_guids routes.graph is) sits.there in
    let some : (one.at.port == 0) ≡ false = ne_eqb one.at.port 0 (λ zero. omega (arith, zero, sits.from)) in
    let attached = attached_is fabric routes.graph k one of at in
    let here = port_is routes.graph k one is at in
    let has = given routes keys one.port_guid lid own lid_is stands in
    let adapter : change_wanted routes one.node_guid one.number ≡ record stays { lid = Some lid; active = true } =
    wanted_adapter routes one.node_guid one.number one none here ∙ ap (λ (o : Option ℕ). record stays { lid = o; active = true }) lid_is in
    let before = wanted_before routes (guid_of routes.graph.switches one.at.node) one.at.node one.at.port one place some attached in
    record {
      end_port = info_is routes keys fabric one.node_guid one.number _ (IsEndPort lid) adapter (λ info. record { gid_prefix = refl; lid_is = refl; master_sm_lid = refl });
      active = info_is routes keys fabric one.node_guid one.number _ IsActive adapter (λ info. refl);
      keys = keys_are routes keys fabric one.node_guid one.number (key_table false own)
          (keys_at_adapter routes keys one.node_guid one.number (Some one) none here ∙ ap (option_map (key_table false)) has);
      before_active = info_is routes keys fabric (guid_of routes.graph.switches one.at.node) one.at.port _ IsActive before (λ info. refl);
      before_enforces = info_is routes keys fabric (guid_of routes.graph.switches one.at.node) one.at.port _ Enforces before (λ info. (refl, refl));
      before_keys = keys_are routes keys fabric (guid_of routes.graph.switches one.at.node) one.at.port (key_table true own)
          (keys_before routes keys (guid_of routes.graph.switches one.at.node) one.at.node one.at.port (Some one) place some attached ∙ ap (option_map (key_table true)) has);
    }

entry_at : (routes : RoutesState) (place to : ℕ) → to < LINEAR_TABLE → slice_get (linear_table routes place) to ≡ Some (linear_entry routes place to)
entry_at routes place to within =
    slice_get-map (linear_entry routes place) (range_with_len 0 LINEAR_TABLE) to
    ∙ ap (option_map (linear_entry routes place)) (range_at 0 LINEAR_TABLE to within ∙ ap (λ (n : ℕ). Some n) (zero-add to))

pub switches_are_set_up : EachSwitchIsSetUp
switches_are_set_up routes keys fabric place switch lid own is of at lid_is stands =
    let here = place_is routes.graph.switches place switch (own_guids routes.graph is) at in
    let reported : change_wanted routes switch.guid 0 ≡ record stays { lid = Some lid } =
    wanted_own routes switch.guid place here ∙ ap (λ (o : Option ℕ). record stays { lid = o }) lid_is in
    record {
      end_port = info_is routes keys fabric switch.guid 0 _ (IsEndPort lid) reported (λ info. record { gid_prefix = refl; lid_is = refl; master_sm_lid = refl });
      keys = keys_are routes keys fabric switch.guid 0 (key_table false own)
          (keys_at_own routes keys switch.guid place here ∙ ap (option_map (key_table false)) (given routes keys switch.guid lid own lid_is stands));
      entries = λ node held there guid to within.
          let was = was_switch routes keys fabric node held there in
          let table : held.linear ≡ linear_table routes place =
          was.linear_is ∙ ap (λ (g : ℕ). option_map_or (linear_table routes) (place_of routes.graph.switches g) was.was.linear) (sym was.guid_is ∙ guid)
          ∙ ap (λ (o : Option ℕ). option_map_or (linear_table routes) o was.was.linear) here in
          ap (λ (linear : List ℕ). slice_get linear to) table ∙ entry_at routes place to within;
      links = λ k row link there is_link some.
          info_is routes keys fabric switch.guid link.port _ IsActive (wanted_link fabric routes switch.guid place k row link of here some there is_link) (λ info. refl);
      top = λ node held there. ap (λ (info : SwitchInfo). info.linear_fdb_top) (was_switch routes keys fabric node held there).info_is;
    }
