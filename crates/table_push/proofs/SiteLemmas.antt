-- The ports of a graph's fabric, each with the path that leads there and what it can be set to.
use Rattle.std.proofs.Common.{ℕ, zero, suc, ◌≡◌, ◌+◌, ◌<◌, ◌≤◌, ◌==◌, ◌&&◌, nat_le, nat_lt, not, ◌∙◌, ap, refl, sym, subst, Bool, true, false, if◌then◌else◌, List, [], ◌∷◌, ◌++◌, map, length, position, slice_get, Option, Some, None, option_map, arith}
use Rattle.std.specs.List.{Contains}
use Rattle.std.specs.Option.{is_some, option_map_or}
use Rattle.std.proofs.lemmas.Bool.{and_from, and_parts, eqb-true, false≢true, le-leb, lt-ltb, ne_eqb}
use Rattle.std.proofs.lemmas.Option.{same_Some, slice_get_within}
use Rattle.agent_rules.specs.PortSetting.{is_down}
use Rattle.attr_tables.specs.declared.port_info.PortInfo.{PortInfo}
use Rattle.attr_tables.specs.declared.port_state.PortState.TheVariants.{Armed, Active}
use Rattle.fabric_parts.specs.Cable.{far_end, is_cabled, port}
use Rattle.fabric_parts.specs.declared.cable.PortRef.{PortRef}
use Rattle.fabric_parts.specs.declared.lid.TheConstants.{LAST_UNICAST_LID}
use Rattle.lid_assign.specs.Lids.{lid_in}
use Rattle.step_results.proofs.ListLemmas.{all_have}
use Rattle.smp_wire.specs.FabricState.{FabricState, is_port, is_switch, is_switch_at, port_count}
use Rattle.smp_wire.specs.Good.{IsGood, ShowsLinks, info_at, is_up}
use Rattle.smp_wire.specs.Shape.{IsSameShape}
use Rattle.smp_wire.specs.Walk.{end_of}
use Rattle.smp_wire.proofs.CableLemmas.{cabled_is_port, far_is_port}
use Rattle.step_results.proofs.ElementLemmas.{or_same}
use Rattle.smp_wire.proofs.PortLemmas.{cabled_ports_are_up}
use Rattle.sweep.specs.Graph.{GraphState}
use Rattle.sweep.specs.OfFabric.{Found, IsGraphOf, Leads, guid_at, link_to, node_at, nodes_of, placed, ports_at, row_of}
use Rattle.sweep.specs.declared.graph.GraphPort.{GraphPort}
use Rattle.sweep.specs.declared.graph.GraphSwitch.{GraphSwitch}
use Rattle.sweep.specs.declared.graph.GraphLink.{GraphLink}
use Rattle.sweep.proofs.CabledLemmas.{cabled_of, end_more}
use Rattle.sweep.proofs.EndPortLemmas.{of_one, one_of, there_is}
use Rattle.sweep.proofs.FoundLemmas.{among_at, node_there}
use Rattle.sweep.proofs.LeastLemmas.{in_range}
use Rattle.sweep.proofs.MetLemmas.{good_once}
use Rattle.sweep.proofs.PlaceLemmas.{position_at}
use Rattle.sweep.proofs.ProgressLemmas.{node_of}
use Rattle.table_push.specs.Nodes.{with_infos}
use Rattle.table_push.specs.Ports.{TakesChange, armed, change_wanted, changed_in, changed_where, enforces, in_round, stays, with_end_set, with_state}
use Rattle.table_push.specs.Pushes.{IsAskedFor, LeadsToPort}
use Rattle.table_push.specs.declared.ports.PortChange.{PortChange}
use Rattle.table_push.specs.declared.ports.Round.{Round}
use Rattle.table_push.specs.declared.ports.Round.TheVariants.{Arming, Activating}
use Rattle.table_push.proofs.AttachedLemmas.{adapter_leads, is_hung, switch_leads}
use Rattle.table_push.proofs.InfoPortLemmas.{info_after}
use Rattle.table_push.proofs.LeadLemmas.{found_at_place}
use Rattle.table_push.proofs.PortLemmas.{port_on}
use Rattle.updn_routes.specs.Subnet.{RoutesState}
use Rattle.smp_wire.proofs.PresentLemmas.{present_right}

-- ---- a switch of the graph
pub record Attached (fabric : FabricState) (found : List Found) (place : ℕ) (switch : GraphSwitch) : Type 0 where
  pub at : PortRef
  pub ends : end_of fabric switch.path ≡ Some at
  pub node : at.node ≡ node_at found place
  pub is : is_switch_at fabric.nodes at.node ≡ true
  pub count : switch.num_ports ≡ ports_at fabric (node_at found place)

pub attached : (fabric : FabricState) (graph : GraphState) (place : ℕ) (switch : GraphSwitch) → (of : IsGraphOf graph fabric)
    → slice_get graph.switches place ≡ Some switch → Attached fabric of.layout.found place switch
attached fabric graph place switch of there =
    let f = found_at_place fabric of.layout.found place switch (ap (λ (switches : List GraphSwitch). slice_get switches place) (sym of.layout.switches) ∙ there) in
    let leads = all_have (Leads fabric) of.layout.found place f.0 of.lead f.1 in
    let among = among_at (nodes_of of.layout.found) place f.0.node (node_there of.layout.found place f.0 f.1) in
    let node = node_of of.layout.found place f.0 f.1 in
    record {
      at = leads.at;
      ends = ap (λ (one : GraphSwitch). end_of fabric one.path) f.2 ∙ leads.ends;
      node = leads.node ∙ sym node;
      is = ap (λ (n : ℕ). is_switch_at fabric.nodes n) leads.node ∙ sym (of.layout.all f.0.node) ∙ among;
      count = ap (λ (one : GraphSwitch). one.num_ports) f.2 ∙ ap (ports_at fabric) (sym node);
    }

-- ---- a link of the graph
pub record Linked (fabric : FabricState) (found : List Found) (place number : ℕ) : Type 0 where
  pub there : PortRef
  pub cable : far_end fabric.cables (port (node_at found place) number) ≡ Some there
  pub switch : is_switch_at fabric.nodes there.node ≡ true

mapped_at : {X Y : Type 0} (f : X → Y) (xs : List X) (k : ℕ) (y : Y) → slice_get (map f xs) k ≡ Some y → (x : X) × (slice_get xs k ≡ Some x) × (y ≡ f x)
mapped_at f [] k y there = absurd (cc)
mapped_at f (x ∷ xs) zero y there = (x, refl, sym (same_Some _ _ there))
mapped_at f (x ∷ xs) (suc k) y there = mapped_at f xs k y there

by_link : (fabric : FabricState) (found : List Found) (place number : ℕ) (link : GraphLink)
    → Contains (option_map_or (link_to fabric (nodes_of found) number) (far_end fabric.cables (port (node_at found place) number)) []) link
    → Linked fabric found place link.port
by_link fabric found place number link has = by_far (far_end fabric.cables (port (node_at found place) number)) refl has
  where
    none : Contains [] link → ⊥
    none has = omega (arith, has.1)

    by_kind : (there : PortRef) → far_end fabric.cables (port (node_at found place) number) ≡ Some there → (b : Bool) → is_switch_at fabric.nodes there.node ≡ b
        → Contains (if b then record { port = number; to = placed (nodes_of found) there } ∷ [] else []) link → Linked fabric found place link.port
    by_kind there far true kind has =
        let is = one_of (record { port = number; to = placed (nodes_of found) there }) link has in
        let same : number ≡ link.port = ap (λ (one : GraphLink). one.port) is in
        record { there = there; cable = subst (λ (n : ℕ). far_end fabric.cables (port (node_at found place) n) ≡ Some there) same far; switch = kind }
    by_kind there far false kind has = absurd (none has)

    by_far : (o : Option PortRef) → far_end fabric.cables (port (node_at found place) number) ≡ o
        → Contains (option_map_or (link_to fabric (nodes_of found) number) o []) link → Linked fabric found place link.port
    by_far None far has = absurd (none has)
    by_far (Some there) far has = by_kind there far (is_switch_at fabric.nodes there.node) refl has

pub linked : (fabric : FabricState) (graph : GraphState) (place k : ℕ) (row : List GraphLink) (link : GraphLink) → (of : IsGraphOf graph fabric)
    → slice_get graph.rows place ≡ Some row → slice_get row k ≡ Some link → Linked fabric of.layout.found place link.port
linked fabric graph place k row link of there at =
    let f = mapped_at (λ (one : Found). row_of fabric (nodes_of of.layout.found) one.node) of.layout.found place row
    (ap (λ (rows : List (List GraphLink)). slice_get rows place) (sym of.layout.rows) ∙ there) in
    let node = node_of of.layout.found place f.0 f.1 in
    let same : row ≡ row_of fabric (nodes_of of.layout.found) (node_at of.layout.found place) = f.2 ∙ ap (row_of fabric (nodes_of of.layout.found)) (sym node) in
    let has = subst (λ (links : List GraphLink). Contains links link) same (there_is row k link at) in
    let number = of_one (λ number. option_map_or (link_to fabric (nodes_of of.layout.found) number) (far_end fabric.cables (port (node_at of.layout.found place) number)) [])
    1 (ports_at fabric (node_at of.layout.found place)) link has in
    by_link fabric of.layout.found place number.number link number.has

-- its port is not port 0
pub link_number : (fabric : FabricState) (graph : GraphState) (place k : ℕ) (row : List GraphLink) (link : GraphLink) → IsGood fabric → IsGraphOf graph fabric
    → slice_get graph.rows place ≡ Some row → slice_get row k ≡ Some link → (link.port == 0) ≡ false
link_number fabric graph place k row link good of there at =
    let is = linked fabric graph place k row link of there at in
    let range = in_range fabric (node_at of.layout.found place) link.port
    (cabled_is_port fabric.nodes fabric.cables (port (node_at of.layout.found place) link.port) is.there (present_right good) is.cable) in
    ne_eqb link.port 0 (λ none. omega (arith, none, range.0))

-- ---- LIDs are unicast
below : (n : ℕ) → n < 320 → nat_le (n + 1) LAST_UNICAST_LID ≡ true
below n small = le-leb (n + 1) LAST_UNICAST_LID (omega (arith, small))

pub unicast : (guids : List ℕ) (guid : ℕ) → length guids ≤ 320 → option_map_or (λ lid. nat_le lid LAST_UNICAST_LID) (lid_in guids guid) true ≡ true
unicast guids guid few = by (position (λ other. other == guid) guids) refl
  where
    by : (place : Option ℕ) → position (λ other. other == guid) guids ≡ place
        → option_map_or (λ lid. nat_le lid LAST_UNICAST_LID) (option_map (λ place. place + 1) place) true ≡ true
    by None is = refl
    by (Some place) is =
        let at = position_at (λ other. other == guid) guids place is in
        let within = slice_get_within guids place at.0 at.1 in
        below place (omega (arith, few, within))

-- ---- what a port with a cable takes
module _ (fabric : FabricState) (good : IsGood fabric) (shows : ShowsLinks fabric) where
  takes_up : (path : List ℕ) (asked guid number : ℕ) (change : PortChange) (at : PortRef) → end_of fabric path ≡ Some at
      → LeadsToPort fabric path asked guid number → option_map_or (λ lid. nat_le lid LAST_UNICAST_LID) change.lid true ≡ true
      → (is_some change.enforcement ≡ true → (is_switch_at fabric.nodes at.node && nat_lt 0 number) ≡ true)
      → is_port fabric.nodes (port at.node number) ≡ true → is_cabled fabric.cables (port at.node number) ≡ true
      → TakesChange fabric path asked guid number change
  takes_up path asked guid number change at ends leads lid enforces is_there cabled =
      let same : at ≡ leads.at = same_Some _ _ (sym ends ∙ leads.ends) in
      record {
        leads = leads;
        lid = lid;
        enforces = λ some. ap (λ (one : PortRef). is_switch_at fabric.nodes one.node && nat_lt 0 number) (sym same) ∙ enforces some;
        up = λ active info held. cabled_ports_are_up fabric (port at.node number) info good shows is_there cabled
            (ap (λ (one : PortRef). info_at fabric (port one.node number)) same ∙ held);
      }

  -- port 0 of a switch
  pub takes_own : (graph : GraphState) (place : ℕ) (switch : GraphSwitch) (guids : List ℕ) → IsGraphOf graph fabric → slice_get graph.switches place ≡ Some switch
      → length guids ≤ 320 → TakesChange fabric switch.path 0 switch.guid 0 (record stays { lid = lid_in guids switch.guid })
  takes_own graph place switch guids of there few = record {
    leads = switch_leads fabric graph place 0 switch of there (omega arith);
    lid = unicast guids switch.guid few;
    enforces = λ some. absurd (false≢true some);
    up = λ active info held. absurd (false≢true active);
  }

  -- a port of a switch, with a cable
  at_switch : (graph : GraphState) (place number : ℕ) (switch : GraphSwitch) (there : PortRef) (on : Bool) → (of : IsGraphOf graph fabric)
      → slice_get graph.switches place ≡ Some switch → far_end fabric.cables (port (node_at of.layout.found place) number) ≡ Some there
      → TakesChange fabric switch.path number switch.guid number (record stays { enforcement = Some on; active = true })
  at_switch graph place number switch there on of home cable =
      let sits = attached fabric graph place switch of home in
      let near : far_end fabric.cables (port sits.at.node number) ≡ Some there = ap (λ (n : ℕ). far_end fabric.cables (port n number)) sits.node ∙ cable in
      let is_there = cabled_is_port fabric.nodes fabric.cables (port sits.at.node number) there (present_right good) near in
      let range = in_range fabric sits.at.node number is_there in
      let count : ports_at fabric sits.at.node ≡ switch.num_ports = ap (ports_at fabric) sits.node ∙ sym sits.count in
      takes_up switch.path number switch.guid number (record stays { enforcement = Some on; active = true }) sits.at sits.ends
      (switch_leads fabric graph place number switch of home (omega (arith, range.1, count))) refl
      (λ some. and_from _ _ sits.is (lt-ltb 0 number (omega (arith, range.0)))) is_there (cabled_of fabric.cables (port sits.at.node number) there near)

  pub takes_link : (graph : GraphState) (place k : ℕ) (row : List GraphLink) (link : GraphLink) (switch : GraphSwitch) → IsGraphOf graph fabric
      → slice_get graph.switches place ≡ Some switch → slice_get graph.rows place ≡ Some row → slice_get row k ≡ Some link
      → TakesChange fabric switch.path link.port switch.guid link.port (record stays { enforcement = Some false; active = true })
  takes_link graph place k row link switch of home there at =
      let is = linked fabric graph place k row link of there at in
      at_switch graph place link.port switch is.there false of home is.cable

  -- before a port of an adapter
  pub takes_before : (graph : GraphState) (k : ℕ) (one : GraphPort) (switch : GraphSwitch) → IsGraphOf graph fabric → slice_get graph.ports k ≡ Some one
      → slice_get graph.switches one.at.node ≡ Some switch
      → TakesChange fabric switch.path one.at.port switch.guid one.at.port (record stays { enforcement = Some true; active = true })
  takes_before graph k one switch of there home =
      let is = is_hung fabric graph k one of there in
      at_switch graph one.at.node one.at.port switch is.there true of home is.cable

  -- and that port
  pub takes_adapter : (graph : GraphState) (k : ℕ) (one : GraphPort) (switch : GraphSwitch) (guids : List ℕ) → IsGraphOf graph fabric
      → slice_get graph.ports k ≡ Some one → slice_get graph.switches one.at.node ≡ Some switch → length guids ≤ 320
      → TakesChange fabric (switch.path ++ one.at.port ∷ []) 0 one.node_guid one.number (record stays { lid = lid_in guids one.port_guid; active = true })
  takes_adapter graph k one switch guids of there home few =
      let is = is_hung fabric graph k one of there in
      let sits = attached fabric graph one.at.node switch of home in
      let near : far_end fabric.cables (port sits.at.node one.at.port) ≡ Some is.there =
      ap (λ (n : ℕ). far_end fabric.cables (port n one.at.port)) sits.node ∙ is.cable in
      let ends = end_more fabric switch.path sits.at is.there one.at.port sits.ends sits.is
      (cabled_is_port fabric.nodes fabric.cables (port sits.at.node one.at.port) is.there (present_right good) near) near in
      let leads = adapter_leads fabric graph k one switch good of there home in
      let same : leads.at ≡ is.there = same_Some _ _ (sym leads.ends ∙ ends) in
      let asked : IsAskedFor false (ports_at fabric leads.at.node) leads.at.port 0 one.number =
      subst (λ (b : Bool). IsAskedFor b (ports_at fabric leads.at.node) leads.at.port 0 one.number)
      (ap (λ (at : PortRef). is_switch_at fabric.nodes at.node) same ∙ is.adapter) leads.there in
      let number : is.there.port ≡ one.number = ap (λ (at : PortRef). at.port) (sym same) ∙ asked.1 in
      let back = good_once fabric (port sits.at.node one.at.port) is.there good near in
      takes_up (switch.path ++ one.at.port ∷ []) 0 one.node_guid one.number (record stays { lid = lid_in guids one.port_guid; active = true }) is.there ends
      leads (unicast guids one.port_guid few) (λ some. absurd (false≢true some))
      (subst (λ (n : ℕ). is_port fabric.nodes (port is.there.node n) ≡ true) number (far_is_port fabric.nodes fabric.cables (port sits.at.node one.at.port) is.there (present_right good) near))
      (subst (λ (n : ℕ). is_cabled fabric.cables (port is.there.node n) ≡ true) number (cabled_of fabric.cables is.there (port sits.at.node one.at.port) back))

-- ---- a port takes a change as long as others were set
still_up : (lid : Option ℕ) (enforcement : Option Bool) (info : PortInfo) → is_up info ≡ true → is_up (enforces enforcement (with_end_set lid info)) ≡ true
still_up None None info up = up
still_up None (Some on) info up = up
still_up (Some lid) None info up = up
still_up (Some lid) (Some on) info up = up

changed_up : (round : Round) (change : PortChange) (info : PortInfo) → is_up info ≡ true → is_up (in_round round change info) ≡ true
changed_up Arming change info up =
    still_up change.lid change.enforcement (if change.active && (info.port_state == 2) then with_state Armed info else info) (by (change.active && (info.port_state == 2)))
  where
    by : (b : Bool) → is_up (if b then with_state Armed info else info) ≡ true
    by true = refl
    by false = up
changed_up Activating change info up = by change.active
  where
    by : (b : Bool) → is_up (if b then with_state Active info else info) ≡ true
    by true = refl
    by false = up

pub takes_on : (round : Round) (fabric : FabricState) (path : List ℕ) (asked guid number : ℕ) (change : PortChange) (routes : RoutesState) (there : ℕ → ℕ → Bool)
    → IsSameShape fabric (with_infos (changed_where round there routes) fabric) → TakesChange fabric path asked guid number change
    → TakesChange (with_infos (changed_where round there routes) fabric) path asked guid number change
takes_on round fabric path asked guid number change routes there same takes = record {
  leads = port_on fabric now path asked guid number same takes.leads;
  lid = takes.lid;
  enforces = λ some. ap (λ (b : Bool). b && nat_lt 0 number) (or_same is_switch false fabric.nodes now.nodes takes.leads.at.node same.switches) ∙ takes.enforces some;
  up = λ active info held. by active (info_at fabric at) refl info (sym (info_after (changed_where round there routes) fabric at) ∙ held);
}
  where
    now : FabricState
    now = with_infos (changed_where round there routes) fabric

    at : PortRef
    at = port takes.leads.at.node number

    up_where : (b : Bool) (c : PortChange) (info : PortInfo) → is_up info ≡ true → is_up (if b then in_round round c info else info) ≡ true
    up_where true c info up = changed_up round c info up
    up_where false c info up = up

    by : change.active ≡ true → (o : Option PortInfo) → info_at fabric at ≡ o → (info : PortInfo)
        → option_map (changed_where round there routes (guid_at fabric at.node) number) o ≡ Some info → is_up info ≡ true
    by active None is info held = absurd (cc)
    by active (Some was) is info held =
        let up = takes.up active was is in
        subst (λ (one : PortInfo). is_up one ≡ true) (same_Some _ info held) (up_where (there (guid_at fabric at.node) number) _ was up)

-- ---- links show as before
still_down : (lid : Option ℕ) (enforcement : Option Bool) (info : PortInfo) → is_down (enforces enforcement (with_end_set lid info)) ≡ is_down info
still_down None None info = refl
still_down None (Some on) info = refl
still_down (Some lid) None info = refl
still_down (Some lid) (Some on) info = refl

armed_down : (change : PortChange) (info : PortInfo) → is_down (armed change info) ≡ is_down info
armed_down change info =
    still_down change.lid change.enforcement (if change.active && (info.port_state == 2) then with_state Armed info else info)
    ∙ by (change.active && (info.port_state == 2)) refl
  where
    by : (b : Bool) → (change.active && (info.port_state == 2)) ≡ b → is_down (if b then with_state Armed info else info) ≡ is_down info
    by false is = refl
    by true is =
        let two = eqb-true info.port_state 2 (and_parts change.active (info.port_state == 2) is).1 in
        ap (λ (n : ℕ). n == 1) (sym two)

pub links_show : (routes : RoutesState) (fabric : FabricState) → IsSameShape fabric (with_infos (changed_in Arming routes) fabric) → ShowsLinks fabric
    → ShowsLinks (with_infos (changed_in Arming routes) fabric)
links_show routes fabric same shows at info is_there held = by (info_at fabric at) refl (sym (info_after (changed_in Arming routes) fabric at) ∙ held)
  where
    was_there : is_port fabric.nodes at ≡ true
    was_there =
        ap (λ (count : ℕ). nat_le 1 at.port && nat_le at.port count)
        (sym (or_same port_count 0 fabric.nodes (with_infos (changed_in Arming routes) fabric).nodes at.node same.port_counts)) ∙ is_there

    by : (o : Option PortInfo) → info_at fabric at ≡ o → option_map (changed_in Arming routes (guid_at fabric at.node) at.port) o ≡ Some info
        → is_down info ≡ not (is_cabled fabric.cables at)
    by None is reported = absurd (cc)
    by (Some was) is reported =
        ap is_down (sym (same_Some _ info reported)) ∙ armed_down (change_wanted routes (guid_at fabric at.node) at.port) was ∙ shows at was was_there is
