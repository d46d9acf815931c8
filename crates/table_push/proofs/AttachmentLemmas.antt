-- Where the nodes and ports of a fabric stand in its graph.
use Rattle.std.proofs.Common.{ℕ, ◌≡◌, ◌==◌, ◌∙◌, ap, refl, sym, subst, Bool, true, false, if◌then◌else◌, List, [], ◌∷◌, length, slice_get, Option, Some, None, unwrap_or, arith}
use Rattle.std.specs.List.{Contains}
use Rattle.std.specs.Option.{option_and_then, option_map_or}
use Rattle.std.proofs.lemmas.Bool.{false≢true}
use Rattle.std.proofs.lemmas.Option.{none-some, slice_get_within}
use Rattle.fabric_parts.specs.Cable.{far_end, port}
use Rattle.fabric_parts.specs.declared.cable.PortRef.{PortRef}
use Rattle.fabric_parts.specs.declared.node_type.NodeType.TheVariants as node_type
use Rattle.smp_wire.specs.Deliveries.{adapter_at, adapter_ports}
use Rattle.smp_wire.specs.Forwards.{IsCabledPort}
use Rattle.port_model.specs.AdapterState.{AdapterState}
use Rattle.smp_wire.proofs.CableLemmas.{far_is_port}
use Rattle.smp_wire.specs.FabricState.{FabricState, adapter_port, is_switch, is_switch_at}
use Rattle.smp_wire.specs.Good.{IsGood, node_guid}
use Rattle.smp_wire.specs.declared.node.Node.{Node}
use Rattle.smp_wire.specs.declared.node.Node.TheVariants.{Switch, Adapter}
use Rattle.sweep.specs.Graph.{GraphState}
use Rattle.sweep.specs.OfFabric.{Found, IsGraphOf, all_ports, guid_at, node_at, nodes_of, port_seen, port_to, ports_at, ports_up_to}
use Rattle.sweep.specs.Seen.{name_at, seen_at}
use Rattle.sweep.specs.declared.graph.GraphPort.{GraphPort}
use Rattle.sweep.specs.declared.seen.Seen.{Seen}
use Rattle.sweep.proofs.EndPortLemmas.{in_all, stands, there_is, to_switch}
use Rattle.sweep.proofs.FoundLemmas.{among_place}
use Rattle.sweep.proofs.LeastLemmas.{in_range}
use Rattle.sweep.proofs.MetLemmas.{good_once}
use Rattle.sweep.proofs.ProgressLemmas.{node_of}
use Rattle.sweep.proofs.VisitLemmas.{port_is}
use Rattle.sweep.proofs.WholeLemmas.{found_there}
use Rattle.smp_wire.proofs.PresentLemmas.{present_right}

-- ---- a port of a channel adapter
no_switch_by : (found : Option Node) (number : ℕ) (one : AdapterState) → option_and_then (λ node. adapter_port (adapter_ports node) number) found ≡ Some one
    → option_map_or is_switch found false ≡ false
no_switch_by None number one there = refl
no_switch_by (Some (Adapter ports)) number one there = refl
no_switch_by (Some (Switch held)) number one there = by (number == 0) there
  where
    by : (b : Bool) → (if b then None else None) ≡ Some one → true ≡ false
    by true there = absurd (none-some one there)
    by false there = absurd (none-some one there)

pub is_no_switch : (nodes : List Node) (at : PortRef) (one : AdapterState) → adapter_at nodes at ≡ Some one → is_switch_at nodes at.node ≡ false
is_no_switch nodes at one there = no_switch_by (slice_get nodes at.node) at.port one there

-- ---- what is seen of it
record IsSeen (fabric : FabricState) (at : PortRef) (one : AdapterState) : Type 0 where
  seen : Seen
  is : seen_at fabric at ≡ Some seen
  guid : seen.port_guid ≡ one.port_guid
  node : seen.node_guid ≡ guid_at fabric at.node
  number : seen.local_port_num ≡ at.port

seen_by : (fabric : FabricState) (at : PortRef) (one : AdapterState) (found : Option Node) → slice_get fabric.nodes at.node ≡ found
    → option_and_then (λ node. adapter_port (adapter_ports node) at.port) found ≡ Some one → IsSeen fabric at one
seen_by fabric at one None stands there = absurd (none-some one there)
seen_by fabric at one (Some (Switch held)) stands there = absurd (false≢true (sym (no_switch_by (Some (Switch held)) at.port one there)))
seen_by fabric at one (Some (Adapter ports)) stands there =
    record {
      seen = record {
        node_type = node_type.ChannelAdapter;
        num_ports = length ports;
        node_guid = node_guid (Adapter ports);
        port_guid = one.port_guid;
        local_port_num = at.port;
      };
      is = rw (stands, there) refl;
      guid = refl;
      node = sym (ap (λ (o : Option Node). option_map_or node_guid o 0) stands);
      number = refl;
    }

is_seen : (fabric : FabricState) (at : PortRef) (one : AdapterState) → adapter_at fabric.nodes at ≡ Some one → IsSeen fabric at one
is_seen fabric at one there = seen_by fabric at one (slice_get fabric.nodes at.node) refl there

-- ---- where it is attached
-- its cable leads to a port of a switch, and the graph has it there
pub record IsAttached (fabric : FabricState) (graph : GraphState) (of : IsGraphOf graph fabric) (at back : PortRef) (one : AdapterState) : Type 0 where
  pub home : far_end fabric.cables back ≡ Some at
  pub switch : is_switch_at fabric.nodes back.node ≡ true
  pub place : ℕ
  pub found : Found
  pub there : slice_get of.layout.found place ≡ Some found
  pub node : found.node ≡ back.node
  pub index : ℕ
  pub hung : GraphPort
  pub has : slice_get graph.ports index ≡ Some hung
  pub at_is : hung.at ≡ port place back.port
  pub guid_is : hung.port_guid ≡ one.port_guid
  pub node_is : hung.node_guid ≡ guid_at fabric at.node
  pub number_is : hung.number ≡ at.port

pub attached : (fabric : FabricState) (graph : GraphState) (at : PortRef) (one : AdapterState) → IsGood fabric → (of : IsGraphOf graph fabric)
    → (cabled : IsCabledPort fabric at one) → IsAttached fabric graph of at cabled.far one
attached fabric graph at one good of cabled =
    let back = cabled.far in
    let adapter = is_no_switch fabric.nodes at one cabled.there in
    let home : far_end fabric.cables back ≡ Some at = good_once fabric at back good cabled.cable in
    let range = in_range fabric back.node back.port (far_is_port fabric.nodes fabric.cables at back (present_right good) cabled.cable) in
    let switch = to_switch fabric at back good adapter cabled.cable in
    let place = among_place (nodes_of of.layout.found) back.node (of.layout.all back.node ∙ switch) in
    let found = found_there of.layout.found place.0 back.node place.1 in
    let node : node_at of.layout.found place.0 ≡ back.node = node_of of.layout.found place.0 found.0 found.1 ∙ found.2 in
    let seen = is_seen fabric at one cabled.there in
    let hung = port_seen (port place.0 back.port) (unwrap_or (name_at fabric at) []) seen.seen in
    let here : Contains (option_map_or (port_to fabric (port place.0 back.port)) (far_end fabric.cables (port (node_at of.layout.found place.0) back.port)) []) hung =
    subst (λ (n : ℕ). Contains (option_map_or (port_to fabric (port place.0 back.port)) (far_end fabric.cables (port n back.port)) []) hung) (sym node)
    (subst (λ (o : Option PortRef). Contains (option_map_or (port_to fabric (port place.0 back.port)) o []) hung) (sym home)
    (subst (λ (some : List GraphPort). Contains some hung) (sym (port_is fabric (port place.0 back.port) at seen.seen adapter seen.is))
    (there_is (hung ∷ []) 0 hung refl))) in
    let among : Contains (all_ports fabric of.layout.found) hung =
    in_all (λ place. ports_up_to fabric place (node_at of.layout.found place) (ports_at fabric (node_at of.layout.found place))) 0 (length of.layout.found) place.0 hung (omega arith)
    (omega (arith, slice_get_within of.layout.found place.0 found.0 found.1))
    (in_all (λ number. option_map_or (port_to fabric (port place.0 number)) (far_end fabric.cables (port (node_at of.layout.found place.0) number)) [])
    1 (ports_at fabric (node_at of.layout.found place.0)) back.port hung range.0 (rw node (omega (arith, range.1))) here) in
    let stood = stands (all_ports fabric of.layout.found) hung among in
    record {
      home = home;
      switch = switch;
      place = place.0;
      found = found.0;
      there = found.1;
      node = found.2;
      index = stood.0;
      hung = hung;
      has = ap (λ (ports : List GraphPort). slice_get ports stood.0) of.layout.ports ∙ stood.1;
      at_is = refl;
      guid_is = seen.guid;
      node_is = seen.node;
      number_is = seen.number;
    }
