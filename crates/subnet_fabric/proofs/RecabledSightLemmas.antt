-- What the graph of a fabric reports of a port of a switch: by where its cable leads alone.
use Rattle.std.proofs.Common.{ℕ, zero, suc, ◌≡◌, ◌-◌, ◌<◌, ◌==◌, ◌&&◌, ◌∙◌, nat_le, ap, refl, sym, subst, Bool, true, false, if◌then◌else◌, List, [], ◌∷◌, length, slice_get, Option, Some, None, option_map, arith}
use Rattle.std.specs.List.{Contains, list_any}
use Rattle.std.specs.Option.{option_and_then, option_map_or}
use Rattle.std.proofs.lemmas.Bool.{and_parts, eq-eqb, eqb-true, false≢true, leb-true}
use Rattle.std.proofs.lemmas.Bool.Decides.{nat_tests}
use Rattle.std.proofs.lemmas.Option.{get_or_from_slice_get, none-some, same_Some, slice_get-map}
use Rattle.fabric_parts.specs.Cable.{far_end, is_same_port, port}
use Rattle.fabric_parts.specs.declared.cable.PortRef.{PortRef}
use Rattle.smp_wire.specs.Deliveries.{adapter_at, adapter_ports, guid_at as port_guid_at}
use Rattle.port_model.specs.AdapterState.{AdapterState}
use Rattle.smp_wire.proofs.CableLemmas.{cabled_is_port, far_is_port, same_port}
use Rattle.smp_wire.proofs.PresentLemmas.{present_right}
use Rattle.smp_wire.specs.FabricState.{FabricState, adapter_port, is_switch, is_switch_at, port_count}
use Rattle.smp_wire.specs.Good.{IsGood}
use Rattle.smp_wire.specs.declared.node.Node.{Node}
use Rattle.smp_wire.specs.declared.node.Node.TheVariants.{Switch, Adapter}
use Rattle.sweep.proofs.EndPortLemmas.{in_all, stands, there_is}
use Rattle.sweep.proofs.FoundLemmas.{among_place, any_at, any_by, node_there, one_place}
use Rattle.sweep.proofs.LeastLemmas.{in_range}
use Rattle.sweep.proofs.MetLemmas.{good_once}
use Rattle.sweep.proofs.ProgressLemmas.{node_of}
use Rattle.sweep.proofs.WholeLemmas.{found_there}
use Rattle.sweep.specs.Graph.{GraphState, IsGraph}
use Rattle.sweep.specs.OfFabric.{Found, IsGraphOf, guid_at, link_to, node_at, nodes_of, placed, ports_at, row_of, switch_of}
use Rattle.sweep.specs.declared.graph.GraphLink.{GraphLink}
use Rattle.sweep.specs.declared.graph.GraphPort.{GraphPort}
use Rattle.sweep.specs.declared.graph.GraphSwitch.{GraphSwitch}
use Rattle.table_push.proofs.AttachedLemmas.{found_is, is_hung}
use Rattle.table_push.proofs.HomeLemmas.{own_switch}
use Rattle.table_push.proofs.AttachmentLemmas.{attached}
use Rattle.table_push.proofs.SiteLemmas.{linked}
use Rattle.table_push.proofs.WantedLemmas.{attached_is}
use Rattle.table_push.specs.Keys.{attached_at}
use Rattle.table_push.specs.Ports.{has_link}
use Rattle.updn_routes.specs.Subnet.{place_of}

-- ---- where a cable leads
-- the GUID of the adapter's port at its other end, if one is there
abbrev pub hung_guid : FabricState → PortRef → Option ℕ
hung_guid fabric here = option_and_then (port_guid_at fabric.nodes) (far_end fabric.cables here)

-- a switch is there
abbrev pub leads_to_switch : FabricState → PortRef → Bool
leads_to_switch fabric here = option_map_or (λ there. is_switch_at fabric.nodes there.node) (far_end fabric.cables here) false

-- ---- a port of an adapter is there
some_at : {X : Type 0} (xs : List X) (k : ℕ) → k < length xs → slice_get xs k ≡ None → ⊥
some_at [] k within none = omega (arith, within)
some_at (x ∷ xs) zero within none = none-some x (sym none)
some_at (x ∷ xs) (suc k) within none = some_at xs k (omega (arith, within)) none

port_stands : (nodes : List Node) (at : PortRef) (count : ℕ) (ports : List AdapterState) → count ≡ length ports
    → nat_le 1 at.port && nat_le at.port count ≡ true → adapter_port ports at.port ≡ None → ⊥
port_stands nodes at count ports is within none =
    let parts = and_parts (nat_le 1 at.port) _ within in
    let low = leb-true 1 at.port parts.0 in
    let high = leb-true at.port count parts.1 in
    let positive : (at.port == 0) ≡ false = grind (arith, nat_tests, low) in
    some_at ports (at.port - 1) (omega (arith, low, high, is)) (rw positive at none)

adapter_stands : (nodes : List Node) (at : PortRef) (found : Option Node) → option_map_or is_switch found false ≡ false
    → nat_le 1 at.port && nat_le at.port (option_map_or port_count found 0) ≡ true
    → option_and_then (λ node. adapter_port (adapter_ports node) at.port) found ≡ None → ⊥
adapter_stands nodes at None kind within none =
    let parts = and_parts (nat_le 1 at.port) _ within in
    let low = leb-true 1 at.port parts.0 in
    let high = leb-true at.port 0 parts.1 in
    omega (arith, low, high)
adapter_stands nodes at (Some (Switch held)) kind within none = false≢true (sym kind)
adapter_stands nodes at (Some (Adapter ports)) kind within none = port_stands nodes at (length ports) ports refl within none

module _ (fabric : FabricState) (graph : GraphState) (good : IsGood fabric) (of : IsGraphOf graph fabric) where
  -- ---- where a switch stands in the graph
  pub record IsFoundAt (node : ℕ) : Type 0 where
    pub place : ℕ
    pub found : Found
    pub there : slice_get of.layout.found place ≡ Some found
    pub node_is : found.node ≡ node
    pub at_place : node_at of.layout.found place ≡ node
    pub among : slice_get (nodes_of of.layout.found) place ≡ Some node

  pub found_at : (node : ℕ) → is_switch_at fabric.nodes node ≡ true → IsFoundAt node
  found_at node switch =
      let at = among_place (nodes_of of.layout.found) node (of.layout.all node ∙ switch) in
      let found = found_there of.layout.found at.0 node at.1 in
      record {
        place = at.0;
        found = found.0;
        there = found.1;
        node_is = found.2;
        at_place = node_of of.layout.found at.0 found.0 found.1 ∙ found.2;
        among = at.1;
      }

  pub place_at : (node guid : ℕ) → IsGraph graph → (at : IsFoundAt node) → guid_at fabric node ≡ guid → place_of graph.switches guid ≡ Some at.place
  place_at node guid whole at guid_is =
      let one = switch_of fabric at.found in
      let stands_there : slice_get graph.switches at.place ≡ Some one =
      ap (λ (switches : List GraphSwitch). slice_get switches at.place) of.layout.switches ∙ slice_get-map (switch_of fabric) of.layout.found at.place
      ∙ ap (option_map (switch_of fabric)) at.there in
      ap (place_of graph.switches) (sym (ap (guid_at fabric) at.node_is ∙ guid_is)) ∙ own_switch graph at.place one whole stands_there

  -- ---- what is attached to a port of it
  module _ (node number : ℕ) (at : IsFoundAt node) where
    abbrev here : PortRef
    here = port node number

    record Attached : Type 0 where
      there : PortRef
      cable : far_end fabric.cables here ≡ Some there
      adapter : is_switch_at fabric.nodes there.node ≡ false

    attached_here : (one : GraphPort) → attached_at graph.ports at.place number ≡ Some one → Attached
    attached_here one is =
        let found = found_is (λ other. is_same_port other.at (port at.place number)) graph.ports one is in
        let hung = is_hung fabric graph found.0 one of found.1 in
        let same : one.at ≡ port at.place number = same_port one.at (port at.place number) found.2 in
        record {
          there = hung.there;
          cable =
              ap (λ (n : ℕ). far_end fabric.cables (port n number)) (sym at.at_place)
              ∙ ap (λ (p : PortRef). far_end fabric.cables (port (node_at of.layout.found p.node) p.port)) (sym same) ∙ hung.cable;
          adapter = hung.adapter;
        }

    nothing_attached : ((one : GraphPort) → attached_at graph.ports at.place number ≡ Some one → ⊥) → attached_at graph.ports at.place number ≡ None
    nothing_attached none = by (attached_at graph.ports at.place number) refl
      where
        by : (o : Option GraphPort) → attached_at graph.ports at.place number ≡ o → o ≡ None
        by None is = refl
        by (Some one) is = absurd (none one is)

    hung_there : (there : PortRef) (one : AdapterState) → far_end fabric.cables here ≡ Some there → adapter_at fabric.nodes there ≡ Some one
        → option_map (λ hung. hung.port_guid) (attached_at graph.ports at.place number) ≡ Some one.port_guid
    hung_there there one cable stands_there =
        let attachment = attached fabric graph there one good of (record { there = stands_there; far = here; cable = good_once fabric here there good cable }) in
        let place : attachment.place ≡ at.place =
        one_place (nodes_of of.layout.found) attachment.place at.place node of.layout.once
        (node_there of.layout.found attachment.place attachment.found attachment.there ∙ ap (λ (n : ℕ). Some n) attachment.node) at.among in
        let is : attached_at graph.ports at.place number ≡ Some attachment.hung =
        ap (λ (n : ℕ). attached_at graph.ports n number) (sym place)
        ∙ (λ i. attached_at graph.ports (sym attachment.at_is i).node (sym attachment.at_is i).port) ∙ attached_is fabric graph attachment.index attachment.hung of attachment.has in
        ap (option_map (λ (hung : GraphPort). hung.port_guid)) is ∙ ap (λ (guid : ℕ). Some guid) attachment.guid_is

    pub hung_is : option_map (λ hung. hung.port_guid) (attached_at graph.ports at.place number) ≡ hung_guid fabric here
    hung_is = by (far_end fabric.cables here) refl
      where
        by_port : (there : PortRef) → far_end fabric.cables here ≡ Some there → (o : Option AdapterState) → adapter_at fabric.nodes there ≡ o
            → option_map (λ (hung : GraphPort). hung.port_guid) (attached_at graph.ports at.place number) ≡ option_map (λ (one : AdapterState). one.port_guid) o
        by_port there cable (Some one) stands_there = hung_there there one cable stands_there
        by_port there cable None none =
            ap (option_map (λ (hung : GraphPort). hung.port_guid)) (nothing_attached (λ one is.
            let hung = attached_here one is in
            let same : hung.there ≡ there = same_Some hung.there there (sym hung.cable ∙ cable) in
            adapter_stands fabric.nodes there (slice_get fabric.nodes there.node)
            (ap (λ (p : PortRef). is_switch_at fabric.nodes p.node) (sym same) ∙ hung.adapter)
            (far_is_port fabric.nodes fabric.cables here there (present_right good) cable) none))

        by : (o : Option PortRef) → far_end fabric.cables here ≡ o
            → option_map (λ (hung : GraphPort). hung.port_guid) (attached_at graph.ports at.place number) ≡ option_and_then (port_guid_at fabric.nodes) o
        by None none =
            ap (option_map (λ (hung : GraphPort). hung.port_guid)) (nothing_attached (λ one is.
            let hung = attached_here one is in none-some hung.there (sym none ∙ hung.cable)))
        by (Some there) cable = by_port there cable (adapter_at fabric.nodes there) refl

    -- ---- its link
    abbrev row : List GraphLink
    row = row_of fabric (nodes_of of.layout.found) at.found.node

    row_there : slice_get graph.rows at.place ≡ Some row
    row_there =
        ap (λ (rows : List (List GraphLink)). slice_get rows at.place) of.layout.rows
        ∙ slice_get-map (λ (found : Found). row_of fabric (nodes_of of.layout.found) found.node) of.layout.found at.place
        ∙ ap (option_map (λ (found : Found). row_of fabric (nodes_of of.layout.found) found.node)) at.there

    has_row : has_link graph at.place number ≡ list_any (λ link. link.port == number) row
    has_row = ap (list_any (λ (link : GraphLink). link.port == number)) (get_or_from_slice_get graph.rows at.place row [] row_there)

    leads_on : has_link graph at.place number ≡ true → leads_to_switch fabric here ≡ true
    leads_on has =
        let link = any_at (λ (link : GraphLink). link.port == number) row (sym has_row ∙ has) in
        let is = linked fabric graph at.place link.place row link.one of row_there link.there in
        let cable : far_end fabric.cables here ≡ Some is.there =
        (λ i. far_end fabric.cables (port (sym at.at_place i) (sym (eqb-true link.one.port number link.passes) i))) ∙ is.cable in
        ap (λ (o : Option PortRef). option_map_or (λ there. is_switch_at fabric.nodes there.node) o false) cable ∙ is.switch

    is_linked : (there : PortRef) → far_end fabric.cables here ≡ Some there → is_switch_at fabric.nodes there.node ≡ true → has_link graph at.place number ≡ true
    is_linked there cable switch =
        let link : GraphLink = record { port = number; to = placed (nodes_of of.layout.found) there } in
        let range = in_range fabric node number (cabled_is_port fabric.nodes fabric.cables here there (present_right good) cable) in
        let made : option_map_or (link_to fabric (nodes_of of.layout.found) number) (far_end fabric.cables (port at.found.node number)) [] ≡ link ∷ [] =
        ap (λ (n : ℕ). option_map_or (link_to fabric (nodes_of of.layout.found) number) (far_end fabric.cables (port n number)) []) at.node_is
        ∙ ap (λ (o : Option PortRef). option_map_or (link_to fabric (nodes_of of.layout.found) number) o []) cable
        ∙ ap (λ (b : Bool). if b then link ∷ [] else []) switch in
        let has : Contains row link =
        in_all (λ number. option_map_or (link_to fabric (nodes_of of.layout.found) number) (far_end fabric.cables (port at.found.node number)) [])
        1 (ports_at fabric at.found.node) number link range.0 (rw at.node_is (omega (arith, range.1)))
        (subst (λ (links : List GraphLink). Contains links link) (sym made) (there_is (link ∷ []) 0 link refl)) in
        let at_row = stands row link has in
        has_row ∙ any_by (λ (other : GraphLink). other.port == number) row at_row.0 link at_row.1 (eq-eqb number number refl)

    pub link_is : has_link graph at.place number ≡ leads_to_switch fabric here
    link_is = by (has_link graph at.place number) refl (far_end fabric.cables here) refl
      where
        by_kind : (there : PortRef) → far_end fabric.cables here ≡ Some there → has_link graph at.place number ≡ false
            → (b : Bool) → is_switch_at fabric.nodes there.node ≡ b → false ≡ b
        by_kind there cable none true switch = absurd (false≢true (sym none ∙ is_linked there cable switch))
        by_kind there cable none false adapter = refl

        by : (b : Bool) → has_link graph at.place number ≡ b → (o : Option PortRef) → far_end fabric.cables here ≡ o
            → b ≡ option_map_or (λ there. is_switch_at fabric.nodes there.node) o false
        by true has o cable =
            sym (ap (λ (o : Option PortRef). option_map_or (λ there. is_switch_at fabric.nodes there.node) o false) (sym cable) ∙ leads_on has)
        by false has None cable = refl
        by false has (Some there) cable = by_kind there cable has (is_switch_at fabric.nodes there.node) refl
