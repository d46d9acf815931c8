-- A fabric that is brought up has the masks of power-up, which lead nowhere: so nobody receives what is sent to groups.
use Rattle.std.proofs.Common.{ℕ, ◌≡◌, ◌==◌, ◌-◌, ◌/◌, ◌%◌, ◌∙◌, ap, refl, sym, Bool, true, false, List, [], ◌∷◌, length, map, replicate, unwrap_or, slice_get, Option, Some, None, if◌then◌else◌}
use Rattle.std.specs.Int.{bit_at}
use Rattle.std.specs.List.{enumerate_from, list_all}
use Rattle.std.specs.Option.{option_and_then, option_map_or}
use Rattle.std.proofs.lemmas.Bool.{and_parts, and_from, eqb-true, false≢true}
use Rattle.std.proofs.lemmas.Nat.Bits.{bit_at-zero}
use Rattle.attr_tables.specs.declared.port_info.PortInfo.{PortInfo}
use Rattle.agent_rules.specs.declared.power_up.TheConstants.{MULTICAST_TABLE}
use Rattle.fabric_parts.specs.Lid.{is_multicast}
use Rattle.fabric_parts.specs.declared.lid.TheConstants.{FIRST_MULTICAST_LID}
use Rattle.fabric_parts.specs.declared.cable.Cable.{Cable}
use Rattle.fabric_parts.specs.declared.cable.PortRef.{PortRef}
use Rattle.fabric_parts.specs.declared.node_type.NodeType.{NodeType}
use Rattle.fabric_parts.specs.declared.node_type.NodeType.TheVariants as node_type
use Rattle.fabric_wire.specs.OfTopology.{fabric_of, node_of, node_of_type}
use Rattle.smp_wire.proofs.FreeLemmas.{first_switch}
use Rattle.smp_wire.specs.Forwards.{ForwardsByLid, IsCabledPort}
use Rattle.smp_wire.specs.Groups.{ForwardsByMlid, GoesByMasks, is_in_masks_at, is_in_node_masks}
use Rattle.port_model.specs.AdapterState.{AdapterState}
use Rattle.step_results.proofs.ListLemmas.{all_alike, all_there}
use Rattle.smp_wire.specs.FabricState.{FabricState, is_switch_at}
use Rattle.smp_wire.specs.declared.node.Node.{Node}
use Rattle.smp_wire.specs.declared.node.Node.TheVariants.{Switch, Adapter}
use Rattle.subnet_fabric.specs.OfFabric.{nobody}
use Rattle.switch_model.specs.Multicast.{is_in_masks, mask_of}
use Rattle.switch_model.specs.SwitchState.{SwitchState}
use Rattle.table_push.proofs.AttachmentLemmas.{is_no_switch}
use Rattle.table_push.specs.Keys.{keys_wanted}
use Rattle.table_push.specs.Linear.{with_linear}
use Rattle.table_push.specs.Nodes.{infos_by, keys_by, switch_by, with_infos, with_keys, with_switches}
use Rattle.table_push.specs.Ports.{change_wanted, changed, ports_pushed, set_top}
use Rattle.table_push.specs.Pushed.{all_pushed, ports_and_keys}
use Rattle.topo_file.specs.Topology.{TopologyState}
use Rattle.topo_file.specs.declared.node.Node.{Node as PlannedNode}
use Rattle.updn_routes.specs.Subnet.{RoutesState}

-- ---- masks without a bit
abbrev pub are_empty : List (List ℕ) → Bool
are_empty masks = list_all (λ words. list_all (λ word. word == 0) words) masks

no_bit : (words : Option (List ℕ)) (mlid bit : ℕ) → ((some : List ℕ) → words ≡ Some some → list_all (λ word. word == 0) some ≡ true)
    → option_map_or (λ mask. bit_at mask bit == 1) (option_and_then (mask_of mlid) words) false ≡ false
no_bit None mlid bit each = refl
no_bit (Some words) mlid bit each = by (is_multicast mlid)
  where
    of_word : (word : Option ℕ) → slice_get words (mlid - FIRST_MULTICAST_LID) ≡ word → option_map_or (λ mask. bit_at mask bit == 1) word false ≡ false
    of_word None there = refl
    of_word (Some word) there =
        let none : word ≡ 0 = eqb-true word 0 (all_there (λ (w : ℕ). w == 0) words (mlid - FIRST_MULTICAST_LID) word (each words refl) there) in
        rw (none, bit_at-zero bit) refl

    by : (group : Bool) → option_map_or (λ mask. bit_at mask bit == 1) (if group then slice_get words (mlid - FIRST_MULTICAST_LID) else None) false ≡ false
    by true = of_word (slice_get words (mlid - FIRST_MULTICAST_LID)) refl
    by false = refl

none_in : (masks : List (List ℕ)) (mlid number : ℕ) → are_empty masks ≡ true → is_in_masks masks mlid number ≡ false
none_in masks mlid number empty =
    no_bit (slice_get masks (number / 16)) mlid (number % 16)
    (λ words there. all_there (λ (words : List ℕ). list_all (λ word. word == 0) words) masks (number / 16) words empty there)

-- ---- of nodes
abbrev pub masks_of : Node → List (List ℕ)
masks_of (Switch held) = held.masks
masks_of (Adapter ports) = []

abbrev pub are_unmasked : List Node → Bool
are_unmasked nodes = list_all (λ node. are_empty (masks_of node)) nodes

stay_unmasked : (change : Node → Node) → ((node : Node) → masks_of (change node) ≡ masks_of node) → (nodes : List Node) → are_unmasked nodes ≡ true
    → are_unmasked (map change nodes) ≡ true
stay_unmasked change same [] all = refl
stay_unmasked change same (node ∷ nodes) all =
    let parts = and_parts (are_empty (masks_of node)) (are_unmasked nodes) all in
    and_from (are_empty (masks_of (change node))) (are_unmasked (map change nodes)) (ap are_empty (same node) ∙ parts.0)
    (stay_unmasked change same nodes parts.1)

pub made_unmasked : (cables : List Cable) (nodes : List (ℕ × PlannedNode)) → are_unmasked (map (λ p. node_of cables p.0 p.1) nodes) ≡ true
made_unmasked cables [] = refl
made_unmasked cables (p ∷ nodes) =
    and_from (are_empty (masks_of (node_of cables p.0 p.1))) (are_unmasked (map (λ p. node_of cables p.0 p.1) nodes)) (by p.1.node_type)
    (made_unmasked cables nodes)
  where
    by : (kind : NodeType) → are_empty (masks_of (node_of_type kind cables p.0 p.1)) ≡ true
    by node_type.Switch =
        all_alike (λ (words : List ℕ). list_all (λ word. word == 0) words) (replicate MULTICAST_TABLE 0) 3
        (all_alike (λ (word : ℕ). word == 0) 0 MULTICAST_TABLE refl)
    by node_type.ChannelAdapter = refl

none_at : (nodes : List Node) (mlid : ℕ) (at : PortRef) → are_unmasked nodes ≡ true → is_in_masks_at nodes mlid at ≡ false
none_at nodes mlid at all = by (slice_get nodes at.node) refl
  where
    by : (found : Option Node) → slice_get nodes at.node ≡ found → option_map_or (λ node. is_in_node_masks node mlid at.port) found false ≡ false
    by None there = refl
    by (Some (Switch held)) there =
        none_in held.masks mlid at.port (all_there (λ (node : Node). are_empty (masks_of node)) nodes at.node (Switch held) all there)
    by (Some (Adapter ports)) there = refl

-- ---- of the fabric that is brought up
by_switches : (change : ℕ → SwitchState → SwitchState) → ((guid : ℕ) (held : SwitchState) → (change guid held).masks ≡ held.masks)
    → (fabric : FabricState) → are_unmasked fabric.nodes ≡ true → are_unmasked (with_switches change fabric).nodes ≡ true
by_switches change same fabric all = stay_unmasked (switch_by change) by fabric.nodes all
  where
    by : (node : Node) → masks_of (switch_by change node) ≡ masks_of node
    by (Switch held) = same held.node_guid held
    by (Adapter ports) = refl

by_infos : (change : ℕ → ℕ → PortInfo → PortInfo) (fabric : FabricState) → are_unmasked fabric.nodes ≡ true
    → are_unmasked (with_infos change fabric).nodes ≡ true
by_infos change fabric all = stay_unmasked (infos_by change) by fabric.nodes all
  where
    by : (node : Node) → masks_of (infos_by change node) ≡ masks_of node
    by (Switch held) = refl
    by (Adapter ports) = refl

by_keys : (change : ℕ → ℕ → List ℕ → List ℕ) (fabric : FabricState) → are_unmasked fabric.nodes ≡ true
    → are_unmasked (with_keys change fabric).nodes ≡ true
by_keys change fabric all = stay_unmasked (keys_by change) by fabric.nodes all
  where
    by : (node : Node) → masks_of (keys_by change node) ≡ masks_of node
    by (Switch held) = refl
    by (Adapter ports) = refl

pub pushed_unmasked : (routes : RoutesState) (keys : List (List ℕ)) (fabric : FabricState) → are_unmasked fabric.nodes ≡ true
    → are_unmasked (all_pushed routes keys fabric).nodes ≡ true
pushed_unmasked routes keys fabric all =
    by_switches (with_linear routes) (λ guid held. refl) (ports_and_keys routes keys fabric)
    (by_keys (λ guid number held. unwrap_or (keys_wanted routes keys guid number) held) (ports_pushed routes fabric)
    (by_switches (λ guid. set_top (length routes.lids)) (λ guid held. refl)
    (with_infos (λ guid number. changed (change_wanted routes guid number)) fabric)
    (by_infos (λ guid number. changed (change_wanted routes guid number)) fabric all)))

-- where no mask has a bit, what is sent to groups comes to nobody
leads_nowhere : (fabric : FabricState) → ForwardsByLid fabric → are_unmasked fabric.nodes ≡ true → ForwardsByMlid fabric nobody
leads_nowhere fabric forwards all = record {
  free = forwards.free;
  own = λ mlid here at port group cable there. none_at fabric.nodes mlid here all;
  lead = λ mlid from at sender port begin cabled other joined group. absurd (false≢true joined);
  away = λ mlid from sender begin way. back mlid from sender begin way;
}
  where
    back : (mlid : ℕ) (from : PortRef) (sender : AdapterState) (begin : IsCabledPort fabric from sender) (way : List PortRef)
        → GoesByMasks fabric.nodes fabric.cables mlid begin.far way from → ⊥
    back mlid from sender begin [] goes =
        false≢true (sym (is_no_switch fabric.nodes from sender begin.there) ∙ ap (λ (p : PortRef). is_switch_at fabric.nodes p.node) (sym goes)
        ∙ first_switch fabric forwards.free from sender begin)
    back mlid from sender begin (next ∷ later) goes =
        false≢true (sym (none_at fabric.nodes mlid (record { node = begin.far.node; port = goes.0.out }) all) ∙ goes.0.group)

pub spreads_to_nobody : (plan : TopologyState) (routes : RoutesState) (keys : List (List ℕ)) → ForwardsByLid (all_pushed routes keys (fabric_of plan))
    → ForwardsByMlid (all_pushed routes keys (fabric_of plan)) nobody
spreads_to_nobody plan routes keys forwards =
    leads_nowhere (all_pushed routes keys (fabric_of plan)) forwards
    (pushed_unmasked routes keys (fabric_of plan) (made_unmasked plan.cables (enumerate_from 0 plan.nodes)))
