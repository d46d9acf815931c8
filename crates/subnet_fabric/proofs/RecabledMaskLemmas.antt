-- Multicast forwarding tables do not matter to a change of cables, nor to what is pushed after it.
use Rattle.std.proofs.Common.{ℕ, ◌≡◌, ◌==◌, ◌&&◌, nat_lt, ◌∙◌, ap, refl, sym, Bool, true, false, if◌then◌else◌, List, map, replicate, slice_get, Option, Some, None, option_map}
use Rattle.std.specs.List.{list_any}
use Rattle.std.proofs.lemmas.List.{length-replicate}
use Rattle.std.proofs.lemmas.List.Elements.{All-map, All-replicate, All-weaker}
use Rattle.std.proofs.lemmas.Option.{slice_get-map}
use Rattle.std.proofs.lemmas.Simd.{map-map}
use Rattle.agent_rules.specs.Good.{IsTable}
use Rattle.agent_rules.specs.declared.power_up.TheConstants.{MULTICAST_TABLE}
use Rattle.fabric_parts.specs.declared.cable.PortRef.{PortRef}
use Rattle.fabric_parts.specs.declared.node_type.NodeType.{NodeType}
use Rattle.fabric_parts.specs.declared.node_type.NodeType.TheVariants as node_type
use Rattle.fabric_wire.proofs.OfTopologyLemmas.{node_at}
use Rattle.fabric_wire.specs.Cabling.{is_between}
use Rattle.fabric_wire.specs.OfTopology.{fabric_of, node_of, node_of_type}
use Rattle.fabric_wire.specs.Recabling.{can_change, candidates, changed, node_linked, nodes_linked}
use Rattle.step_results.proofs.ListLemmas.{all_alike}
use Rattle.smp_wire.specs.FabricState.{FabricState}
use Rattle.smp_wire.specs.Good.{IsGood, IsGoodNode}
use Rattle.smp_wire.specs.declared.node.Node.{Node}
use Rattle.smp_wire.specs.declared.node.Node.TheVariants.{Switch, Adapter}
use Rattle.subnet_fabric.proofs.RecabledLookLemmas.{LooksSame, good_too, kind_same, look}
use Rattle.subnet_fabric.proofs.RecabledNodeLemmas.{both_linked, linked_at, nodes_after}
use Rattle.subnet_fabric.proofs.RecabledPortLemmas.{by_places}
use Rattle.subnet_fabric.proofs.RecabledPowerUpLemmas.{with_all_are}
use Rattle.subnet_fabric.specs.Recabled.{cleared, masks_in}
use Rattle.table_push.proofs.SetUpLemmas.{with_all}
use Rattle.table_push.specs.Nodes.{switch_by, with_switches}
use Rattle.table_push.specs.Pushed.{all_pushed}
use Rattle.topo_file.specs.Topology.{TopologyState}
use Rattle.topo_file.specs.declared.node.Node.{Node as PlannedNode}
use Rattle.updn_routes.specs.Subnet.{RoutesState}

-- ---- with no bit set
abbrev pub clear : Node → Node
clear node = switch_by (λ guid. cleared) node

abbrev pub unmasked : FabricState → FabricState
unmasked fabric = with_switches (λ guid. cleared) fabric

-- the same shows
pub masks_hidden : (nodes : List Node) → LooksSame nodes (map clear nodes)
masks_hidden nodes = map-map look clear nodes ∙ (λ i. map (λ node. one node i) nodes)
  where
    one : (node : Node) → look (clear node) ≡ look node
    one (Switch held) = refl
    one (Adapter ports) = refl

-- and it is as good
pub unmasked_good : (fabric : FabricState) → IsGood fabric → IsGood (unmasked fabric)
unmasked_good fabric good =
    good_too fabric (map clear fabric.nodes) (masks_hidden fabric.nodes)
    (All-map IsGoodNode clear fabric.nodes (All-weaker IsGoodNode (λ node. IsGoodNode (clear node)) one fabric.nodes good.holdings)) good
  where
    one : (node : Node) → IsGoodNode node → IsGoodNode (clear node)
    one (Switch held) is = record {
      description = is.description;
      info = is.info;
      ports = is.ports;
      linear = is.linear;
      positions = refl;
      masks = All-replicate (IsTable MULTICAST_TABLE 65536) 3 (replicate MULTICAST_TABLE 0)
          (record { count = length-replicate {A = ℕ} MULTICAST_TABLE 0; below = all_alike (λ entry. nat_lt entry 65536) 0 MULTICAST_TABLE refl });
    }
    one (Adapter ports) is = is

-- ---- a change of cables
linked_clear : (up : Bool) (at : PortRef) (place : ℕ) (node : Node) → clear (linked_at up at place node) ≡ linked_at up at place (clear node)
linked_clear up at place node = by (at.node == place) node
  where
    by : (b : Bool) (node : Node) → clear (if b then node_linked at.port up node else node) ≡ (if b then node_linked at.port up (clear node) else clear node)
    by true (Switch held) = refl
    by true (Adapter ports) = refl
    by false node = refl

both_clear : (up : Bool) (a b : PortRef) (place : ℕ) (node : Node) → clear (both_linked up a b place node) ≡ both_linked up a b place (clear node)
both_clear up a b place node = linked_clear up a place (linked_at up b place node) ∙ ap (linked_at up a place) (linked_clear up b place node)

pub changes_unmasked : (a b : PortRef) (up : Bool) (fabric : FabricState) → unmasked (changed a b up fabric) ≡ changed a b up (unmasked fabric)
changes_unmasked a b up fabric =
    let nodes = nodes_clear in
    λ i. record (changed a b up fabric) { nodes = nodes i }
  where
    by : (place : ℕ) (o : Option Node) → option_map clear (option_map (both_linked up a b place) o) ≡ option_map (both_linked up a b place) (option_map clear o)
    by place None = refl
    by place (Some node) = ap (λ (one : Node). Some one) (both_clear up a b place node)

    nodes_clear : map clear (nodes_linked up a (nodes_linked up b fabric.nodes)) ≡ nodes_linked up a (nodes_linked up b (map clear fabric.nodes))
    nodes_clear =
        by_places _ _ (λ place.
        slice_get-map clear (nodes_linked up a (nodes_linked up b fabric.nodes)) place
        ∙ ap (option_map clear) (nodes_after up a b fabric.nodes place)
        ∙ by place (slice_get fabric.nodes place)
        ∙ ap (option_map (both_linked up a b place)) (sym (slice_get-map clear fabric.nodes place))
        ∙ sym (nodes_after up a b (map clear fabric.nodes) place))

pub can_unmasked : (a b : PortRef) (up : Bool) (fabric : FabricState) → can_change a b up (unmasked fabric) ≡ can_change a b up fabric
can_unmasked a b up fabric =
    let first = kind_same fabric (map clear fabric.nodes) (masks_hidden fabric.nodes) a.node in
    let second = kind_same fabric (map clear fabric.nodes) (masks_hidden fabric.nodes) b.node in
    λ i. first i && (second i && list_any (is_between a b) (candidates up fabric))

-- ---- pushes
pub pushes_unmasked : (routes : RoutesState) (keys : List (List ℕ)) (fabric : FabricState)
    → unmasked (all_pushed routes keys fabric) ≡ all_pushed routes keys (unmasked fabric)
pushes_unmasked routes keys fabric =
    let nodes =
    ap (map clear) (with_all_are routes keys fabric) ∙ map-map clear (with_all routes keys) fabric.nodes
    ∙ (λ i. map (λ node. one node i) fabric.nodes) ∙ sym (map-map (with_all routes keys) clear fabric.nodes)
    ∙ sym (with_all_are routes keys (unmasked fabric)) in
    λ i. record fabric { nodes = nodes i }
  where
    one : (node : Node) → clear (with_all routes keys node) ≡ with_all routes keys (clear node)
    one (Switch held) = refl
    one (Adapter ports) = refl

-- ---- at power-up no bit is set
pub new_unmasked : (plan : TopologyState) → unmasked (fabric_of plan) ≡ fabric_of plan
new_unmasked plan =
    let nodes : map clear (fabric_of plan).nodes ≡ (fabric_of plan).nodes =
    by_places _ _ (λ place.
    slice_get-map clear (fabric_of plan).nodes place ∙ ap (option_map clear) (node_at plan.cables plan.nodes place)
    ∙ by place (slice_get plan.nodes place) ∙ sym (node_at plan.cables plan.nodes place)) in
    λ i. record (fabric_of plan) { nodes = nodes i }
  where
    one : (of : NodeType) (place : ℕ) (node : PlannedNode) → clear (node_of_type of plan.cables place node) ≡ node_of_type of plan.cables place node
    one node_type.Switch place node = refl
    one node_type.ChannelAdapter place node = refl

    by : (place : ℕ) (o : Option PlannedNode) → option_map clear (option_map (node_of plan.cables place) o) ≡ option_map (node_of plan.cables place) o
    by place None = refl
    by place (Some node) = ap (λ (made : Node). Some made) (one node.node_type place node)

-- ---- neither a change of cables nor a push writes masks
pub masks_stay : (a b : PortRef) (up : Bool) (routes : RoutesState) (keys : List (List ℕ)) (fabric : FabricState)
    → map masks_in (all_pushed routes keys (changed a b up fabric)).nodes ≡ map masks_in fabric.nodes
masks_stay a b up routes keys fabric =
    ap (map masks_in) (with_all_are routes keys (changed a b up fabric)) ∙ map-map masks_in (with_all routes keys) (changed a b up fabric).nodes
    ∙ (λ i. map (λ node. pushed node i) (changed a b up fabric).nodes) ∙ by_places _ _ at
  where
    pushed : (node : Node) → masks_in (with_all routes keys node) ≡ masks_in node
    pushed (Switch held) = refl
    pushed (Adapter ports) = refl

    one : (at : PortRef) (place : ℕ) (node : Node) → masks_in (linked_at up at place node) ≡ masks_in node
    one at place node = by (at.node == place) node
      where
        by : (b : Bool) (node : Node) → masks_in (if b then node_linked at.port up node else node) ≡ masks_in node
        by true (Switch held) = refl
        by true (Adapter ports) = refl
        by false node = refl

    by : (place : ℕ) (o : Option Node) → option_map masks_in (option_map (both_linked up a b place) o) ≡ option_map masks_in o
    by place None = refl
    by place (Some node) = ap (λ (masks : List (List ℕ)). Some masks) (one a place (linked_at up b place node) ∙ one b place node)

    at : (place : ℕ) → slice_get (map masks_in (changed a b up fabric).nodes) place ≡ slice_get (map masks_in fabric.nodes) place
    at place =
        slice_get-map masks_in (changed a b up fabric).nodes place ∙ ap (option_map masks_in) (nodes_after up a b fabric.nodes place)
        ∙ by place (slice_get fabric.nodes place) ∙ sym (slice_get-map masks_in fabric.nodes place)
