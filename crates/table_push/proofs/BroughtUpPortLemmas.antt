-- What the pushes leave at each port.
use Rattle.std.proofs.Common.{ℕ, ◌≡◌, ◌+◌, ◌-◌, ◌==◌, ◌&&◌, ◌∙◌, ap, refl, sym, subst, nat_le, nat_lt, Bool, true, false, if◌then◌else◌, List, [], ◌∷◌, length, map, slice_get, Option, Some, None, option_map, unwrap_or, arith}
use Rattle.std.specs.List.{Contains, list_any}
use Rattle.std.specs.Option.{option_and_then, option_map_or}
use Rattle.std.proofs.lemmas.Bool.{and_parts, eq-eqb, false≢true, not-true}
use Rattle.std.proofs.lemmas.Bool.Decides.{nat_tests}
use Rattle.std.proofs.lemmas.Option.{get_or_from_slice_get, same_Some, slice_get-map}
use Rattle.attr_tables.specs.PortState.{port_state_code}
use Rattle.attr_tables.specs.declared.port_state.PortState.TheVariants.{Active}
use Rattle.fabric_parts.specs.Cable.{far_end, is_same_port, port}
use Rattle.fabric_parts.specs.declared.cable.PortRef.{PortRef}
use Rattle.lid_assign.specs.Lids.{adapter_end, end_ports, lid_in, switch_end}
use Rattle.smp_wire.specs.Deliveries.{adapter_at}
use Rattle.smp_wire.specs.Forwards.{IsCabledPort, switch_port_at}
use Rattle.port_model.specs.AdapterState.{AdapterState}
use Rattle.port_model.specs.Packets.{is_active}
use Rattle.step_results.proofs.ListLemmas.{all_have, all_there}
use Rattle.smp_wire.proofs.CableLemmas.{cabled_is_port, same_port}
use Rattle.smp_wire.specs.FabricState.{FabricState, is_switch, is_switch_at}
use Rattle.smp_wire.specs.Good.{IsGood, node_guid}
use Rattle.smp_wire.specs.declared.node.Node.{Node}
use Rattle.subnet_model.specs.EndPorts.{lid_of}
use Rattle.sweep.specs.Graph.{hops_to, is_no_switch, is_right_port, is_switch_port}
use Rattle.sweep.specs.declared.path.TheConstants.{PATH_HOPS}
use Rattle.fabric_parts.specs.NodeType.{most_ports}
use Rattle.fabric_parts.specs.declared.node_type.NodeType.TheVariants as node_type
use Rattle.sweep.specs.OfFabric.{Found, IsGraphOf, guid_at, link_to, node_at, nodes_of, placed, ports_at, row_of, switch_of}
use Rattle.sweep.specs.declared.graph.GraphPort.{GraphPort}
use Rattle.sweep.specs.declared.graph.GraphSwitch.{GraphSwitch}
use Rattle.sweep.specs.declared.graph.GraphLink.{GraphLink}
use Rattle.sweep.proofs.EndPortLemmas.{in_all, stands, there_is}
use Rattle.sweep.proofs.FoundLemmas.{among_place, any_by}
use Rattle.sweep.proofs.LeastLemmas.{in_range}
use Rattle.sweep.proofs.MetLemmas.{good_once}
use Rattle.sweep.proofs.ProgressLemmas.{node_of}
use Rattle.sweep.proofs.WholeLemmas.{found_there}
use Rattle.switch_model.specs.declared.switch_port.SwitchPort.{SwitchPort}
use Rattle.table_push.specs.Keys.{attached_at, key_table, keys_of, port_of}
use Rattle.table_push.specs.Ports.{change_wanted, changed, has_link, stays}
use Rattle.table_push.proofs.GuidLemmas.{no_place}
use Rattle.table_push.proofs.AttachedLemmas.{found_is, is_hung}
use Rattle.table_push.proofs.WantedLemmas.{attached_is, port_is, wanted_adapter, wanted_there}
use Rattle.updn_routes.specs.Subnet.{RoutesState, place_of}
use Rattle.table_push.specs.BroughtUp.{AreGiven, RoutesLeadHome}
use Rattle.table_push.specs.Pushed.{all_pushed}
use Rattle.table_push.proofs.HomeLemmas.{later, own_switch}
use Rattle.table_push.proofs.BroughtUpNodeLemmas.{SwitchPortAfter, adapter_port_after, switch_port_after}
use Rattle.table_push.proofs.AttachmentLemmas.{IsAttached, attached}
use Rattle.smp_wire.proofs.PresentLemmas.{present_right}

fourth : (a b c d e : Bool) → (a && (b && (c && (d && e)))) ≡ true → d ≡ true
fourth a b c d e all =
    let one = and_parts a (b && (c && (d && e))) all in
    let two = and_parts b (c && (d && e)) one.1 in
    let three = and_parts c (d && e) two.1 in
    (and_parts d e three.1).0

-- no switch has the GUID of an adapter
apart : (switches : List GraphSwitch) (one : GraphPort) → is_right_port switches one ≡ true → place_of switches one.node_guid ≡ None
apart switches one right =
    no_place switches one.node_guid
    (not-true (list_any (λ switch. switch.guid == one.node_guid) switches)
    (fourth (is_switch_port switches one.at) (nat_le 1 one.number && nat_le one.number one.num_ports) (nat_le one.num_ports (most_ports node_type.ChannelAdapter))
    (is_no_switch switches one.node_guid) (nat_lt (hops_to switches one.at.node) PATH_HOPS) right))

module _ (routes : RoutesState) (keys : List (List ℕ)) (fabric : FabricState) (home : RoutesLeadHome routes) (of : IsGraphOf routes.graph fabric)
    (good : IsGood fabric) where
  -- ---- what is wanted of a port
  changed_adapter : (guid number : ℕ) (one : GraphPort) → place_of routes.graph.switches guid ≡ None → port_of routes.graph.ports guid number ≡ Some one
      → change_wanted routes guid number ≡ record stays { lid = lid_in routes.lids one.port_guid; active = true }
  unfolding change_wanted
  changed_adapter guid number one none there = rw (none, there) refl

  changed_between : (guid place number : ℕ) → place_of routes.graph.switches guid ≡ Some place → (number == 0) ≡ false
      → attached_at routes.graph.ports place number ≡ None → has_link routes.graph place number ≡ true
      → change_wanted routes guid number ≡ record stays { enforcement = Some false; active = true }
  unfolding change_wanted
  changed_between guid place number there some none linked = rw (there, some, none, linked) refl

  -- ---- a port of a channel adapter
  lid_there : (k : ℕ) (one : GraphPort) → slice_get routes.graph.ports k ≡ Some one → (lid : ℕ) × (lid_in routes.lids one.port_guid ≡ Some lid)
  lid_there k one there =
      let end = adapter_end routes.graph.manager one in
      let ends : slice_get (map (adapter_end routes.graph.manager) routes.graph.ports) k ≡ Some end =
      slice_get-map (adapter_end routes.graph.manager) routes.graph.ports k ∙ ap (option_map (adapter_end routes.graph.manager)) there in (
        lid_of (end_ports routes.graph) end,
        all_have (λ other. lid_in routes.lids other.guid ≡ Some (lid_of (end_ports routes.graph) other)) (end_ports routes.graph)
            (length (map switch_end routes.graph.switches) + k) end home.of.lids_are.each
            (later (map switch_end routes.graph.switches) (map (adapter_end routes.graph.manager) routes.graph.ports) k end ends),
      )

  pub record IsSet (at : PortRef) (one : AdapterState) (cabled : IsCabledPort (all_pushed routes keys fabric) at one) : Type 0 where
    pub was : AdapterState
    pub attachment : IsAttached fabric routes.graph of at cabled.far was
    pub lid_is : lid_in routes.lids one.port_guid ≡ Some one.info.lid
    pub active : is_active one.info ≡ true
    pub wanted : (own : List ℕ) → AreGiven keys one own → keys_of routes keys attachment.hung.port_guid ≡ Some own
    pub own : (own : List ℕ) → AreGiven keys one own → one.keys ≡ key_table false own

  pub is_set : (at : PortRef) (one : AdapterState) (cabled : IsCabledPort (all_pushed routes keys fabric) at one) → IsSet at one cabled
  is_set at one cabled =
      let after = adapter_port_after routes keys fabric at one cabled.there in
      let attachment = attached fabric routes.graph at after.was good of (record { there = after.there; far = cabled.far; cable = cabled.cable }) in
      let there : port_of routes.graph.ports (guid_at fabric at.node) at.port ≡ Some attachment.hung =
      (λ i. port_of routes.graph.ports (sym attachment.node_is i) (sym attachment.number_is i)) ∙ port_is routes.graph attachment.index attachment.hung home.graph attachment.has in
      let right = all_there (is_right_port routes.graph.switches) routes.graph.ports attachment.index attachment.hung home.graph.ports attachment.has in
      let none : place_of routes.graph.switches (guid_at fabric at.node) ≡ None =
      ap (place_of routes.graph.switches) (sym attachment.node_is) ∙ apart routes.graph.switches attachment.hung right in
      let lid = lid_there attachment.index attachment.hung attachment.has in
      let change : change_wanted routes (guid_at fabric at.node) at.port ≡ record stays { lid = Some lid.0; active = true } =
      changed_adapter (guid_at fabric at.node) at.port attachment.hung none there ∙ ap (λ (o : Option ℕ). record stays { lid = o; active = true }) lid.1 in
      let all = after.info_is ∙ ap (λ (c : _). changed c after.was.info) change in
      let info : one.info.lid ≡ lid.0 = ap (λ (info : _). info.lid) all in
      let found : (own : List ℕ) → AreGiven keys one own → keys_of routes keys attachment.hung.port_guid ≡ Some own =
      λ own given. ap (option_and_then (λ n. slice_get keys (n - 1))) lid.1 ∙ ap (λ (n : ℕ). slice_get keys (n - 1)) (sym info) ∙ given in
      record {
        was = after.was;
        attachment = attachment;
        lid_is = ap (lid_in routes.lids) (after.guid_is ∙ sym attachment.guid_is) ∙ lid.1 ∙ ap (λ (n : ℕ). Some n) (sym info);
        active = eq-eqb one.info.port_state (port_state_code Active) (ap (λ (info : _). info.port_state) all);
        wanted = found;
        own = λ own given. after.keys_are
            ∙ ap (λ (o : Option (List ℕ)). unwrap_or o after.was.keys)
            (wanted_adapter routes keys (guid_at fabric at.node) at.port (Some attachment.hung) none there ∙ ap (option_map (key_table false)) (found own given));
      }

  -- ---- a port of a switch
  record IsFoundAt (node : ℕ) : Type 0 where
    place : ℕ
    found : Found
    there : slice_get of.layout.found place ≡ Some found
    node_is : found.node ≡ node
    at_place : node_at of.layout.found place ≡ node

  found_at : (node : ℕ) → is_switch_at fabric.nodes node ≡ true → IsFoundAt node
  found_at node switch =
      let at = among_place (nodes_of of.layout.found) node (of.layout.all node ∙ switch) in
      let found = found_there of.layout.found at.0 node at.1 in
      record {
        place = at.0;
        found = found.0;
        there = found.1;
        node_is = found.2;
        at_place = node_of of.layout.found at.0 found.0 found.1 ∙ found.2;
      }

  -- the graph has it where its node stands
  place_at : (place node guid : ℕ) (found : Found) → slice_get of.layout.found place ≡ Some found → found.node ≡ node → guid_at fabric node ≡ guid
      → place_of routes.graph.switches guid ≡ Some place
  place_at place node guid found there node_is guid_is =
      let one = switch_of fabric found in
      let stands_there : slice_get routes.graph.switches place ≡ Some one =
      ap (λ (switches : List GraphSwitch). slice_get switches place) of.layout.switches ∙ slice_get-map (switch_of fabric) of.layout.found place
      ∙ ap (option_map (switch_of fabric)) there in
      ap (place_of routes.graph.switches) (sym (ap (guid_at fabric) node_is ∙ guid_is)) ∙ own_switch routes.graph place one home.graph stands_there

  guid_held : (here : PortRef) (mine : SwitchPort) (after : SwitchPortAfter routes keys fabric here mine) → guid_at fabric here.node ≡ after.held.node_guid
  guid_held here mine after = ap (λ (o : Option Node). option_map_or node_guid o 0) after.node

  not_first : (here at : PortRef) → far_end fabric.cables here ≡ Some at → (here.port == 0) ≡ false
  not_first here at cable =
      let range = in_range fabric here.node here.port (cabled_is_port fabric.nodes fabric.cables here at (present_right good) cable) in
      let low = range.0 in grind (arith, nat_tests, low)

  pub faces_adapter : (here at : PortRef) (mine : SwitchPort) (one : AdapterState) (own : List ℕ) → switch_port_at (all_pushed routes keys fabric).nodes here ≡ Some mine
      → far_end fabric.cables here ≡ Some at → adapter_at (all_pushed routes keys fabric).nodes at ≡ Some one → AreGiven keys one own
      → mine.keys ≡ key_table true own
  faces_adapter here at mine one own there cable port_there given =
      let after = switch_port_after routes keys fabric here mine there in
      let set = is_set at one (record { there = port_there; far = here; cable = good_once fabric here at good cable }) in
      let attachment = set.attachment in
      let place = place_at attachment.place here.node after.held.node_guid attachment.found attachment.there attachment.node (guid_held here mine after) in
      let attached : attached_at routes.graph.ports attachment.place here.port ≡ Some attachment.hung =
      (λ i. attached_at routes.graph.ports (sym attachment.at_is i).node (sym attachment.at_is i).port) ∙ attached_is fabric routes.graph attachment.index attachment.hung of attachment.has in
      after.keys_are
      ∙ ap (λ (o : Option (List ℕ)). unwrap_or o after.was.keys)
      (wanted_there routes keys after.held.node_guid attachment.place here.port (Some attachment.hung) place (not_first here at cable) attached
      ∙ ap (option_map (key_table true)) (set.wanted own given))

  -- ---- ports of switches that face each other
  none_attached : (here at : PortRef) (at_place : IsFoundAt here.node) → far_end fabric.cables here ≡ Some at → is_switch_at fabric.nodes at.node ≡ true
      → attached_at routes.graph.ports at_place.place here.port ≡ None
  none_attached here at at_place cable switch = by (attached_at routes.graph.ports at_place.place here.port) refl
    where
      by : (o : Option GraphPort) → attached_at routes.graph.ports at_place.place here.port ≡ o → o ≡ None
      by None none = refl
      by (Some one) some =
          let found = found_is (λ other. is_same_port other.at (port at_place.place here.port)) routes.graph.ports one some in
          let attached = is_hung fabric routes.graph found.0 one of found.1 in
          let same : one.at ≡ port at_place.place here.port = same_port one.at (port at_place.place here.port) found.2 in
          let near : far_end fabric.cables here ≡ far_end fabric.cables (port (node_at of.layout.found one.at.node) one.at.port) =
          ap (λ (n : ℕ). far_end fabric.cables (port n here.port)) (sym at_place.at_place)
          ∙ ap (λ (p : PortRef). far_end fabric.cables (port (node_at of.layout.found p.node) p.port)) (sym same) in
          let there : attached.there ≡ at = same_Some _ at (sym attached.cable ∙ sym near ∙ cable) in
          absurd (false≢true (sym attached.adapter ∙ ap (λ (p : PortRef). is_switch_at fabric.nodes p.node) there ∙ switch))

  is_linked : (here at : PortRef) (at_place : IsFoundAt here.node) → far_end fabric.cables here ≡ Some at → is_switch_at fabric.nodes at.node ≡ true
      → has_link routes.graph at_place.place here.port ≡ true
  is_linked here at at_place cable switch =
      let row = row_of fabric (nodes_of of.layout.found) at_place.found.node in
      let link : GraphLink = record { port = here.port; to = placed (nodes_of of.layout.found) at } in
      let range = in_range fabric here.node here.port (cabled_is_port fabric.nodes fabric.cables here at (present_right good) cable) in
      let node = at_place.node_is in
      let made : option_map_or (link_to fabric (nodes_of of.layout.found) here.port) (far_end fabric.cables (port at_place.found.node here.port)) [] ≡ link ∷ [] =
      ap (λ (n : ℕ). option_map_or (link_to fabric (nodes_of of.layout.found) here.port) (far_end fabric.cables (port n here.port)) []) node
      ∙ ap (λ (o : Option PortRef). option_map_or (link_to fabric (nodes_of of.layout.found) here.port) o []) cable
      ∙ ap (λ (b : Bool). if b then link ∷ [] else []) switch in
      let has : Contains row link =
      in_all (λ number. option_map_or (link_to fabric (nodes_of of.layout.found) number) (far_end fabric.cables (port at_place.found.node number)) [])
      1 (ports_at fabric at_place.found.node) here.port link range.0 (rw node (omega (arith, range.1)))
      (subst (λ (links : List GraphLink). Contains links link) (sym made) (there_is (link ∷ []) 0 link refl)) in
      let at_row = stands row link has in
      let rows : slice_get routes.graph.rows at_place.place ≡ Some row =
      ap (λ (rows : List (List GraphLink)). slice_get rows at_place.place) of.layout.rows
      ∙ slice_get-map (λ (found : Found). row_of fabric (nodes_of of.layout.found) found.node) of.layout.found at_place.place
      ∙ ap (option_map (λ (found : Found). row_of fabric (nodes_of of.layout.found) found.node)) at_place.there in
      ap (list_any (λ (other : GraphLink). other.port == here.port)) (get_or_from_slice_get routes.graph.rows at_place.place row [] rows)
      ∙ any_by (λ (other : GraphLink). other.port == here.port) row at_row.0 link at_row.1 (eq-eqb here.port here.port refl)

  pub faces_switch : (here at : PortRef) (mine : SwitchPort) → switch_port_at (all_pushed routes keys fabric).nodes here ≡ Some mine
      → far_end fabric.cables here ≡ Some at → is_switch_at fabric.nodes at.node ≡ true
      → (mine.info.partition_enforcement_inbound ≡ false) × (mine.info.partition_enforcement_outbound ≡ false)
  faces_switch here at mine there cable switch =
      let after = switch_port_after routes keys fabric here mine there in
      let is_one : is_switch_at fabric.nodes here.node ≡ true = ap (λ (o : Option Node). option_map_or is_switch o false) after.node in
      let at_place = found_at here.node is_one in
      let place = place_at at_place.place here.node after.held.node_guid at_place.found at_place.there at_place.node_is (guid_held here mine after) in
      let change = changed_between after.held.node_guid at_place.place here.port place (not_first here at cable)
      (none_attached here at at_place cable switch) (is_linked here at at_place cable switch) in
      let info = after.info_is ∙ ap (λ (c : _). changed c after.was.info) change in
      (ap (λ (info : _). info.partition_enforcement_inbound) info, ap (λ (info : _). info.partition_enforcement_outbound) info)
