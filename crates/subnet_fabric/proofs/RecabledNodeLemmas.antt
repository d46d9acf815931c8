-- What the nodes of a fabric are of which a cable was cut or mended: what a sweep sees of them stays.
use Rattle.std.proofs.Common.{ℕ, ◌≡◌, ◌≢◌, ◌-◌, ◌==◌, ◌&&◌, ◌∙◌, ap, refl, sym, Bool, true, false, if◌then◌else◌, List, length, slice_get, slice_set, Option, Some, None, option_map}
use Rattle.std.specs.Option.{option_and_then, option_map_or}
use Rattle.std.proofs.Math.ListN.{length-set}
use Rattle.std.proofs.lemmas.Bool.{eq-eqb, eqb-true, false≢true}
use Rattle.fabric_parts.specs.Cable.{far_end, is_cabled}
use Rattle.fabric_parts.specs.declared.cable.Cable.{Cable}
use Rattle.fabric_parts.specs.declared.cable.PortRef.{PortRef}
use Rattle.fabric_parts.specs.declared.node_type.NodeType.TheVariants as node_type
use Rattle.fabric_wire.proofs.RecablingLemmas.{asked, nodes_alike, not_there, port_same, switch_same}
use Rattle.fabric_wire.specs.Recabling.{cabling_of, can_change, changed, node_linked, nodes_linked}
use Rattle.smp_wire.specs.Deliveries.{adapter_at, adapter_ports}
use Rattle.step_results.proofs.ElementLemmas.{get_other, get_written, or_same}
use Rattle.smp_wire.specs.FabricState.{FabricState, adapter_port, is_port, is_switch_at}
use Rattle.smp_wire.specs.Good.{IsGood, node_guid}
use Rattle.smp_wire.specs.declared.node.Node.{Node}
use Rattle.smp_wire.specs.declared.node.Node.TheVariants.{Switch, Adapter}
use Rattle.subnet_fabric.proofs.RecabledCableLemmas.{Moves, cables_move}
use Rattle.sweep.proofs.CabledLemmas.{far_none, far_of}
use Rattle.sweep.specs.EndPorts.{FabricPort, end_port_in, held_in}
use Rattle.sweep.specs.OfFabric.{guid_at}
use Rattle.sweep.specs.Seen.{seen_at, seen_in}
use Rattle.switch_model.specs.Links.{port_linked, ports_linked}
use Rattle.switch_model.specs.declared.switch_port.SwitchPort.{SwitchPort}

-- ---- one node
-- the node at a place, where a port of it may be linked
abbrev pub linked_at : Bool → PortRef → ℕ → Node → Node
linked_at up at place node = if at.node == place then node_linked at.port up node else node

one_after : (up : Bool) (at : PortRef) (nodes : List Node) (place : ℕ)
    → slice_get (nodes_linked up at nodes) place ≡ option_map (linked_at up at place) (slice_get nodes place)
one_after up at nodes place = by (slice_get nodes at.node) refl (at.node == place) refl
  where
    stays : (o : Option Node) → o ≡ option_map (λ node. node) o
    stays None = refl
    stays (Some node) = refl

    by : (found : Option Node) → slice_get nodes at.node ≡ found → (here : Bool) → (at.node == place) ≡ here
        → slice_get (option_map_or (λ node. slice_set nodes at.node (node_linked at.port up node)) found nodes) place
        ≡ option_map (λ node. if here then node_linked at.port up node else node) (slice_get nodes place)
    by None is true here =
        let none : slice_get nodes place ≡ None = ap (slice_get nodes) (sym (eqb-true at.node place here)) ∙ is in rw none refl
    by None is false here = stays (slice_get nodes place)
    by (Some node) is true here =
        let same = eqb-true at.node place here in
        let there : slice_get nodes place ≡ Some node = ap (slice_get nodes) (sym same) ∙ is in
        ap (slice_get (slice_set nodes at.node (node_linked at.port up node))) (sym same)
        ∙ get_written nodes at.node (node_linked at.port up node) node is
        ∙ ap (option_map (node_linked at.port up)) (sym there)
    by (Some node) is false here =
        let apart : place ≢ at.node = λ same. false≢true (sym here ∙ eq-eqb at.node place (sym same)) in
        get_other nodes at.node place (node_linked at.port up node) apart ∙ stays (slice_get nodes place)

-- of two ports
abbrev pub both_linked : Bool → PortRef → PortRef → ℕ → Node → Node
both_linked up a b place node = linked_at up a place (linked_at up b place node)

pub nodes_after : (up : Bool) (a b : PortRef) (nodes : List Node) (place : ℕ)
    → slice_get (nodes_linked up a (nodes_linked up b nodes)) place ≡ option_map (both_linked up a b place) (slice_get nodes place)
nodes_after up a b nodes place =
    one_after up a (nodes_linked up b nodes) place ∙ ap (option_map (linked_at up a place)) (one_after up b nodes place) ∙ by (slice_get nodes place)
  where
    by : (o : Option Node) → option_map (linked_at up a place) (option_map (linked_at up b place) o) ≡ option_map (both_linked up a b place) o
    by None = refl
    by (Some node) = refl

-- ---- what is read of a node whose links change
-- where it does not report one link of another
reported_after : {X : Type 0} (read : Node → Option X) → ((number : ℕ) (up : Bool) (node : Node) → read (node_linked number up node) ≡ read node)
    → (up : Bool) (a b : PortRef) (nodes : List Node) (place : ℕ)
    → option_and_then read (slice_get (nodes_linked up a (nodes_linked up b nodes)) place) ≡ option_and_then read (slice_get nodes place)
reported_after read same up a b nodes place =
    ap (option_and_then read) (nodes_after up a b nodes place) ∙ by (slice_get nodes place)
  where
    one : (at : PortRef) (node : Node) → read (linked_at up at place node) ≡ read node
    one at node = by_place (at.node == place)
      where
        by_place : (here : Bool) → read (if here then node_linked at.port up node else node) ≡ read node
        by_place true = same at.port up node
        by_place false = refl

    by : (o : Option Node) → option_and_then read (option_map (both_linked up a b place) o) ≡ option_and_then read o
    by None = refl
    by (Some node) = one a (linked_at up b place node) ∙ one b node

pub as_many : (number : ℕ) (up : Bool) (ports : List SwitchPort) → length (ports_linked number up ports) ≡ length ports
as_many number up ports = by (slice_get ports number)
  where
    by : (found : Option SwitchPort) → length (option_map_or (λ port. slice_set ports number (port_linked up port)) found ports) ≡ length ports
    by None = refl
    by (Some port) = length-set ports number (port_linked up port)

held_after : (at number : ℕ) (up : Bool) (node : Node) → held_in (node_linked number up node) at ≡ held_in node at
held_after at number up (Switch held) =
    ap (λ (count : ℕ). Some (record {
      guid = held.node_guid;
      number = at;
      node_guid = held.node_guid;
      description = held.description;
      num_ports = count - 1;
      is_switch = true;
    })) (as_many number up held.ports)
held_after at number up (Adapter ports) = refl

seen_after : (at number : ℕ) (up : Bool) (node : Node) → seen_in (node_linked number up node) at ≡ seen_in node at
seen_after at number up (Switch held) =
    ap (λ (count : ℕ). Some (record {
      node_type = node_type.Switch;
      num_ports = count - 1;
      node_guid = held.node_guid;
      port_guid = held.node_guid;
      local_port_num = at;
    })) (as_many number up held.ports)
seen_after at number up (Adapter ports) = refl

adapter_after : (at number : ℕ) (up : Bool) (node : Node)
    → adapter_port (adapter_ports (node_linked number up node)) at ≡ adapter_port (adapter_ports node) at
adapter_after at number up (Switch held) = refl
adapter_after at number up (Adapter ports) = refl

-- ---- the fabric
-- a port of another kind of node is another
-- where cables lead to the same, there is a cable or there is none
pub cabled_same : (old new : List Cable) (at : PortRef) → far_end new at ≡ far_end old at → is_cabled new at ≡ is_cabled old at
cabled_same old new at same = by (is_cabled old at) refl (is_cabled new at) refl
  where
    none_some : {X : Type 0} (o : Option X) (x : X) → o ≡ None → o ≡ Some x → ⊥
    none_some None x none some = absurd cc
    none_some (Some y) x none some = absurd cc

    by : (b : Bool) → is_cabled old at ≡ b → (c : Bool) → is_cabled new at ≡ c → c ≡ b
    by true was true is = refl
    by false was false is = refl
    by true was false is = let far = far_of old at was in absurd (none_some (far_end new at) far.0 (far_none new at is) (same ∙ far.1))
    by false was true is = let far = far_of new at is in absurd (none_some (far_end old at) far.0 (far_none old at was) (sym same ∙ far.1))

module _ (a b : PortRef) (up : Bool) (fabric : FabricState) (good : IsGood fabric) (can : can_change a b up fabric ≡ true) where
  abbrev next : FabricState
  next = changed a b up fabric

  pub moves : Moves a b up fabric.cables next.cables
  moves = cables_move a b up (cabling_of fabric) good.once (asked a b up fabric can).some

  pub kind_stays : (place : ℕ) → is_switch_at next.nodes place ≡ is_switch_at fabric.nodes place
  kind_stays place = switch_same fabric.nodes next.nodes (nodes_alike up a b fabric.nodes) place

  pub guid_stays : (place : ℕ) → guid_at next place ≡ guid_at fabric place
  guid_stays place = or_same node_guid 0 fabric.nodes next.nodes place (nodes_alike up a b fabric.nodes).guids

  pub seen_stays : (at : PortRef) → seen_at next at ≡ seen_at fabric at
  seen_stays at = reported_after (λ node. seen_in node at.port) (seen_after at.port) up a b fabric.nodes at.node

  pub adapter_stays : (at : PortRef) → adapter_at next.nodes at ≡ adapter_at fabric.nodes at
  adapter_stays at = reported_after (λ node. adapter_port (adapter_ports node) at.port) (adapter_after at.port) up a b fabric.nodes at.node

  -- a port of an adapter keeps its cable
  pub cable_stays : (at : PortRef) → is_switch_at fabric.nodes at.node ≡ false → far_end next.cables at ≡ far_end fabric.cables at
  cable_stays at adapter =
      let asks = asked a b up fabric can in
      moves.elsewhere at (not_there fabric.nodes a at asks.first adapter) (not_there fabric.nodes b at asks.second adapter)

  pub end_stays : (at : PortRef) → end_port_in next at ≡ end_port_in fabric at
  end_stays at =
      ap (λ (b : Bool). if (if b then at.port == 0 else is_port next.nodes at && is_cabled next.cables at) then held_next else None) (kind_stays at.node)
      ∙ by (is_switch_at fabric.nodes at.node) refl
    where
      held_next : Option FabricPort
      held_next = option_and_then (λ node. held_in node at.port) (slice_get next.nodes at.node)

      held_was : Option FabricPort
      held_was = option_and_then (λ node. held_in node at.port) (slice_get fabric.nodes at.node)

      held : held_next ≡ held_was
      held = reported_after (λ node. held_in node at.port) (held_after at.port) up a b fabric.nodes at.node

      by : (b : Bool) → is_switch_at fabric.nodes at.node ≡ b
          → (if (if b then at.port == 0 else is_port next.nodes at && is_cabled next.cables at) then held_next else None)
          ≡ (if (if b then at.port == 0 else is_port fabric.nodes at && is_cabled fabric.cables at) then held_was else None)
      by true kind = ap (λ (one : Option FabricPort). if at.port == 0 then one else None) held
      by false kind =
          let is_there = port_same fabric.nodes next.nodes (nodes_alike up a b fabric.nodes) at in
          let cabled = cabled_same fabric.cables next.cables at (cable_stays at kind) in
          λ i. if is_there i && cabled i then held i else None
