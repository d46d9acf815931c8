-- The graph of a fabric whose nodes have other tables.
use Rattle.std.proofs.Common.{ℕ, ◌≡◌, ◌∙◌, ap, refl, sym, subst, false, List, [], map, flat_map, length, slice_get, Option, Some, None, option_map, unwrap_or}
use Rattle.std.specs.List.{range_with_len}
use Rattle.std.specs.Option.{option_and_then, option_map_or}
use Rattle.std.proofs.lemmas.Option.{slice_get-map}
use Rattle.std.proofs.lemmas.Simd.{map-map}
use Rattle.attr_tables.specs.declared.port_info.PortInfo.{PortInfo}
use Rattle.fabric_parts.specs.Cable.{far_end, port}
use Rattle.fabric_parts.specs.declared.cable.PortRef.{PortRef}
use Rattle.smp_wire.specs.FabricState.{FabricState, is_switch, is_switch_at, port_count}
use Rattle.smp_wire.specs.Good.{node_guid}
use Rattle.smp_wire.specs.Shape.{IsSameShape}
use Rattle.smp_wire.specs.declared.node.Node.{Node}
use Rattle.sweep.specs.Graph.{GraphState}
use Rattle.sweep.specs.OfFabric.{Found, IsGraphOf, Leads, all_ports, guid_at, link_to, node_at, nodes_of, port_to, ports_at, row_of, switch_of}
use Rattle.sweep.specs.Seen.{name_at, name_in, seen_at, seen_in}
use Rattle.sweep.specs.declared.seen.Seen.{Seen}
use Rattle.table_push.specs.Keys.{keys_wanted}
use Rattle.table_push.specs.Laws.{PushesKeepTheGraph}
use Rattle.table_push.specs.Linear.{with_linear}
use Rattle.table_push.specs.Nodes.{infos_by, keys_by, switch_by, with_infos, with_nodes}
use Rattle.table_push.specs.Ports.{change_wanted, changed, ports_pushed, set_top}
use Rattle.table_push.proofs.LeadLemmas.{ends_on}
use Rattle.table_push.proofs.SightLemmas.{IsUnseen, both_unseen, infos_unseen, keys_unseen, switches_unseen}

module _ (change : Node → Node) (unseen : IsUnseen change) (fabric : FabricState) where
  or_stays : {Y : Type 0} (f : Node → Y) (d : Y) → ((node : Node) → f (change node) ≡ f node) → (k : ℕ)
      → option_map_or f (slice_get (map change fabric.nodes) k) d ≡ option_map_or f (slice_get fabric.nodes k) d
  or_stays f d same k = ap (λ (o : Option Node). option_map_or f o d) (slice_get-map change fabric.nodes k) ∙ by (slice_get fabric.nodes k)
    where
      by : (o : Option Node) → option_map_or f (option_map change o) d ≡ option_map_or f o d
      by None = refl
      by (Some node) = same node

  then_stays : {Y : Type 0} (f : Node → Option Y) → ((node : Node) → f (change node) ≡ f node) → (k : ℕ)
      → option_and_then f (slice_get (map change fabric.nodes) k) ≡ option_and_then f (slice_get fabric.nodes k)
  then_stays f same k = ap (λ (o : Option Node). option_and_then f o) (slice_get-map change fabric.nodes k) ∙ by (slice_get fabric.nodes k)
    where
      by : (o : Option Node) → option_and_then f (option_map change o) ≡ option_and_then f o
      by None = refl
      by (Some node) = same node

  switches_stay : (node : ℕ) → is_switch_at (with_nodes change fabric).nodes node ≡ is_switch_at fabric.nodes node
  switches_stay node = or_stays is_switch false unseen.kind node

  guids_stay : (node : ℕ) → guid_at (with_nodes change fabric) node ≡ guid_at fabric node
  guids_stay node = or_stays node_guid 0 unseen.guid node

  counts_stay : (node : ℕ) → ports_at (with_nodes change fabric) node ≡ ports_at fabric node
  counts_stay node = or_stays port_count 0 unseen.count node

  names_stay : (at : PortRef) → name_at (with_nodes change fabric) at ≡ name_at fabric at
  names_stay at = then_stays (λ node. name_in node at.port) (unseen.name at.port) at.node

  sights_stay : (at : PortRef) → seen_at (with_nodes change fabric) at ≡ seen_at fabric at
  sights_stay at = then_stays (λ node. seen_in node at.port) (unseen.seen at.port) at.node

  switch_same : (one : Found) → switch_of (with_nodes change fabric) one ≡ switch_of fabric one
  switch_same one =
      let guid = guids_stay one.node in
      let count = counts_stay one.node in
      let name = names_stay (port one.node 0) in
      λ i. record { guid = guid i; num_ports = count i; name = unwrap_or (name i) []; path = one.path }

  row_same : (nodes : List ℕ) (node : ℕ) → row_of (with_nodes change fabric) nodes node ≡ row_of fabric nodes node
  row_same nodes node =
      let links : (number : ℕ) (there : PortRef) → link_to (with_nodes change fabric) nodes number there ≡ link_to fabric nodes number there =
      λ number there. rw (switches_stay there.node) refl in
      λ i. flat_map (λ number. option_map_or (λ there. links number there i) (far_end fabric.cables (port node number)) [])
      (range_with_len 1 (counts_stay node i))

  ports_same : (found : List Found) → all_ports (with_nodes change fabric) found ≡ all_ports fabric found
  ports_same found =
      let one : (at there : PortRef) → port_to (with_nodes change fabric) at there ≡ port_to fabric at there =
      λ at there. rw (switches_stay there.node, names_stay there, sights_stay there) refl in
      λ i. flat_map (λ place. flat_map (λ number. option_map_or (λ there. one (port place number) there i) (far_end fabric.cables (port (node_at found place) number)) [])
      (range_with_len 1 (counts_stay (node_at found place) i))) (range_with_len 0 (length found))

  leads_same : (one : Found) → IsSameShape fabric (with_nodes change fabric) → Leads fabric one → Leads (with_nodes change fabric) one
  leads_same one same leads = record {
    rest = leads.rest;
    leaves = leads.leaves;
    at = leads.at;
    ends = ends_on fabric (with_nodes change fabric) one.path leads.at same leads.ends;
    node = leads.node;
    short = leads.short;
  }

  pub graph_stays : (graph : GraphState) → IsSameShape fabric (with_nodes change fabric) → IsGraphOf graph fabric → IsGraphOf graph (with_nodes change fabric)
  graph_stays graph same of = record {
    layout = record {
      found = of.layout.found;
      once = of.layout.once;
      all = λ node. of.layout.all node ∙ sym (switches_stay node);
      manager = ap (option_map (λ (seen : Seen). seen.port_guid)) (sights_stay fabric.manager) ∙ of.layout.manager;
      switches = of.layout.switches ∙ sym (λ i. map (λ one. switch_same one i) of.layout.found);
      rows = of.layout.rows ∙ sym (λ i. map (λ one. row_same (nodes_of of.layout.found) one.node i) of.layout.found);
      ports = of.layout.ports ∙ sym (ports_same of.layout.found);
    };
    lead = λ i d within. leads_same _ same (of.lead i d within);
  }

-- the PortInfo of ports changes
pub infos_keep_the_graph : (change : ℕ → ℕ → PortInfo → PortInfo) (fabric : FabricState) (graph : GraphState)
    → IsSameShape fabric (with_infos change fabric) → IsGraphOf graph fabric → IsGraphOf graph (with_infos change fabric)
infos_keep_the_graph change fabric graph same of = graph_stays (infos_by change) (infos_unseen change) fabric graph same of

pub pushes_keep_the_graph : PushesKeepTheGraph
pushes_keep_the_graph routes keys fabric graph of = (
  λ same. graph_stays (switch_by (with_linear routes)) (switches_unseen (with_linear routes) (λ guid held. (_, _, _, refl))) fabric graph same of,
  λ same. graph_stays (keys_by (λ guid number held. unwrap_or (keys_wanted routes keys guid number) held))
      (keys_unseen (λ guid number held. unwrap_or (keys_wanted routes keys guid number) held)) fabric graph same of,
  λ same. subst (λ (nodes : List Node). IsGraphOf graph (record fabric { nodes = nodes })) (sym at_once)
      (graph_stays (λ node. tops (infos node)) (both_unseen tops infos
      (switches_unseen (λ guid. set_top (length routes.lids)) (λ guid held. (_, _, _, refl)))
      (infos_unseen (λ guid number. changed (change_wanted routes guid number)))) fabric graph
      (subst (λ (nodes : List Node). IsSameShape fabric (record fabric { nodes = nodes })) at_once same) of),
)
  where
    infos : Node → Node
    infos = infos_by (λ guid number. changed (change_wanted routes guid number))

    tops : Node → Node
    tops = switch_by (λ guid. set_top (length routes.lids))

    at_once : (ports_pushed routes fabric).nodes ≡ map (λ node. tops (infos node)) fabric.nodes
    at_once = map-map tops infos fabric.nodes
