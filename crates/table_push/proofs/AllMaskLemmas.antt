-- A fabric whose switches have all masks of a test is up where it was, and each MLID range is part of them.
use Rattle.std.proofs.Common.{ℕ, ◌≡◌, ◌+◌, ◌*◌, ◌<◌, ◌∙◌, ap, refl, sym, true, false, nat_lt, Bool, List, [], ◌∷◌, get_or, length, map, slice_get, Option, Some, None, option_map}
use Rattle.std.specs.List.{All, list_all, range_with_len}
use Rattle.std.specs.Option.{option_and_then, option_map_or}
use Rattle.std.proofs.lemmas.Bool.{lt-ltb}
use Rattle.std.proofs.lemmas.List.Elements.{All-map, All-weaker}
use Rattle.std.proofs.lemmas.List.FromFn.{length-map-range_with_len}
use Rattle.std.proofs.lemmas.Option.{slice_get-map}
use Rattle.std.proofs.lemmas.Simd.{map-map}
use Rattle.agent_rules.specs.Good.{IsTable}
use Rattle.agent_rules.specs.declared.power_up.TheConstants.{MULTICAST_TABLE}
use Rattle.fabric_parts.specs.declared.cable.PortRef.{PortRef}
use Rattle.fabric_parts.specs.declared.lid.TheConstants.{FIRST_MULTICAST_LID}
use Rattle.smp_wire.specs.Deliveries.{adapter_at, adapter_ports}
use Rattle.smp_wire.specs.Forwards.{IsCabledPort, node_switch_port, switch_port_at}
use Rattle.port_model.specs.AdapterState.{AdapterState}
use Rattle.step_results.proofs.ElementLemmas.{or_same}
use Rattle.smp_wire.proofs.GoodLemmas.{down_at}
use Rattle.smp_wire.proofs.KeptLemmas.{IsSame, stays_good, walk_same}
use Rattle.smp_wire.specs.FabricState.{FabricState, adapter_port, is_switch, port_count}
use Rattle.smp_wire.specs.Good.{IsGoodNode, end_port_guids, has_a_right_count, is_in_order, node_guid}
use Rattle.smp_wire.specs.Shape.{IsSameShape}
use Rattle.smp_wire.specs.declared.node.Node.{Node}
use Rattle.smp_wire.specs.declared.node.Node.TheVariants.{Switch, Adapter}
use Rattle.switch_model.specs.SwitchState.{SwitchState}
use Rattle.table_push.proofs.KeptLemmas.{graph_stays}
use Rattle.table_push.proofs.MaskLemmas.{WasSwitch, bits_below, was_switch, whole_slice}
use Rattle.table_push.proofs.NodeLemmas.{both_written}
use Rattle.table_push.proofs.SightLemmas.{IsUnseen, switches_unseen}
use Rattle.table_push.specs.BroughtUp.{IsBroughtUp}
use Rattle.table_push.specs.BroughtUpLaws.{AllMasksAreThere, MasksKeepWhatIsUp}
use Rattle.table_push.specs.Laws.{HasItsTable, MlidRangesMakeAll}
use Rattle.table_push.specs.Masks.{all_masks_pushed, is_in_mask, is_in_mlid_range, mask_of_position, mask_word, masks_of, wanted_range, with_all_masks, with_masks, with_range}
use Rattle.table_push.specs.Nodes.{switch_by}
use Rattle.updn_routes.specs.Subnet.{RoutesState, place_of}

-- ---- the masks of a test are tables
word_below : (routes : RoutesState) (receives : ℕ → ℕ → Bool) (place position mlid : ℕ) → mask_word routes receives place position mlid < 65536
word_below routes receives place position mlid = bits_below 16 (λ k. is_in_mask routes receives place mlid (16 * position + k))

words_below : (word : ℕ → ℕ) (numbers : List ℕ) → ((i : ℕ) → word i < 65536) → list_all (λ entry. nat_lt entry 65536) (map word numbers) ≡ true
words_below word [] each = refl
words_below word (i ∷ numbers) each = rw (lt-ltb (word i) 65536 (each i)) (words_below word numbers each)

table_of_masks : (routes : RoutesState) (receives : ℕ → ℕ → Bool) (place position : ℕ) → IsTable MULTICAST_TABLE 65536 (mask_of_position routes receives place position)
table_of_masks routes receives place position =
    let word : ℕ → ℕ = λ i. mask_word routes receives place position (FIRST_MULTICAST_LID + i) in
    record {
      count = length-map-range_with_len word 0 MULTICAST_TABLE;
      below = words_below word (range_with_len 0 MULTICAST_TABLE) (λ i. word_below routes receives place position (FIRST_MULTICAST_LID + i));
    }

-- three positions of masks
record AreMasks (masks : List (List ℕ)) : Type 0 where
  positions : length masks ≡ 3
  tables : All (IsTable MULTICAST_TABLE 65536) masks

are_masks : (routes : RoutesState) (receives : ℕ → ℕ → Bool) (place : ℕ) → AreMasks (masks_of routes receives place)
are_masks routes receives place = record {
  positions = refl;
  tables =
      All-map (IsTable MULTICAST_TABLE 65536) (mask_of_position routes receives place) (range_with_len 0 3)
      (λ i d within. table_of_masks routes receives place (get_or (range_with_len 0 3) i d));
}

-- ---- MLID ranges
slice_of_all : (routes : RoutesState) (partition : ℕ) (one other : ℕ → ℕ → Bool) (masks : List (List ℕ))
    → ((mlid lid : ℕ) → is_in_mlid_range partition mlid ≡ false → one mlid lid ≡ other mlid lid) → (o : Option ℕ)
    → option_map_or (λ place. with_range partition (wanted_range routes partition other place) (option_map_or (masks_of routes one) o masks)) o (option_map_or (masks_of routes one) o masks)
    ≡ option_map_or (masks_of routes other) o masks
slice_of_all routes partition one other masks agree None = refl
slice_of_all routes partition one other masks agree (Some place) = whole_slice routes partition place one other agree

pub mlid_ranges_make_all : MlidRangesMakeAll
mlid_ranges_make_all routes partition fabric one other agree =
    both_written (with_masks routes partition other) (with_all_masks routes one) (with_all_masks routes other) fabric (λ guid held. refl)
    (λ guid held. ap (λ (masks : List (List ℕ)). record held { masks = masks })
    (slice_of_all routes partition one other held.masks agree (place_of routes.graph.switches guid)))

module _ (routes : RoutesState) (receives : ℕ → ℕ → Bool) where
  abbrev change : Node → Node
  change = switch_by (with_all_masks routes receives)

  -- ---- what is not of masks stays
  same_of : {Y : Type 0} (f : Node → Y) → ((held : SwitchState) → f (Switch (with_all_masks routes receives held.node_guid held)) ≡ f (Switch held))
      → (node : Node) → f (change node) ≡ f node
  same_of f same (Switch held) = same held
  same_of f same (Adapter ports) = refl

  still : {Y : Type 0} (f : Node → Y) → ((held : SwitchState) → f (Switch (with_all_masks routes receives held.node_guid held)) ≡ f (Switch held))
      → (nodes : List Node) → map f (map change nodes) ≡ map f nodes
  still f same nodes = map-map f change nodes ∙ (λ i. map (λ node. same_of f same node i) nodes)

  then_still : {Y : Type 0} (f : Node → Option Y) → ((held : SwitchState) → f (Switch (with_all_masks routes receives held.node_guid held)) ≡ f (Switch held))
      → (nodes : List Node) (k : ℕ) → option_and_then f (slice_get (map change nodes) k) ≡ option_and_then f (slice_get nodes k)
  then_still f same nodes k = ap (λ (o : Option Node). option_and_then f o) (slice_get-map change nodes k) ∙ by (slice_get nodes k)
    where
      by : (o : Option Node) → option_and_then f (option_map change o) ≡ option_and_then f o
      by None = refl
      by (Some node) = same_of f same node

  unseen : IsUnseen change
  unseen = switches_unseen (with_all_masks routes receives) (λ guid held. (_, _, _, refl))

  -- ---- and nodes stay good
  masks_stay : (o : Option ℕ) (masks : List (List ℕ)) → AreMasks masks → AreMasks (option_map_or (masks_of routes receives) o masks)
  masks_stay None masks are = are
  masks_stay (Some place) masks are = are_masks routes receives place

  node_stays : (node : Node) → IsGoodNode node → IsGoodNode (change node)
  node_stays (Switch held) good =
      let are = masks_stay (place_of routes.graph.switches held.node_guid) held.masks (record { positions = good.positions; tables = good.masks }) in
      record {
        description = good.description;
        info = good.info;
        ports = good.ports;
        linear = good.linear;
        positions = are.positions;
        masks = are.tables;
      }
  node_stays (Adapter ports) good = good

  module _ (fabric : FabricState) where
    abbrev next : FabricState
    next = all_masks_pushed routes receives fabric

    same : IsSame fabric next
    same = record {
      cables = refl;
      cut = refl;
      manager = refl;
      guids = still node_guid (λ held. refl) fabric.nodes;
      ends = still end_port_guids (λ held. refl) fabric.nodes;
      counts = still port_count (λ held. refl) fabric.nodes;
      right = still has_a_right_count (λ held. refl) fabric.nodes;
      order = still is_in_order (λ held. refl) fabric.nodes;
      switches = still is_switch (λ held. refl) fabric.nodes;
      holdings = λ all. All-map IsGoodNode change fabric.nodes (All-weaker IsGoodNode (λ node. IsGoodNode (change node)) node_stays fabric.nodes all);
      downs = λ number. still (λ node. down_at node number) (λ held. refl) fabric.nodes;
    }

    pub masks_keep_shape : IsSameShape fabric next
    masks_keep_shape = record {
      cables = refl;
      cut = refl;
      manager = refl;
      switches = same.switches;
      node_guids = same.guids;
      end_port_guids = same.ends;
      port_counts = same.counts;
      walks = λ starts here numbers. walk_same fabric next same starts here numbers;
    }

    pub adapter_still : (at : PortRef) → adapter_at next.nodes at ≡ adapter_at fabric.nodes at
    adapter_still at = then_still (λ node. adapter_port (adapter_ports node) at.port) (λ held. refl) fabric.nodes at.node

    port_still : (at : PortRef) → switch_port_at next.nodes at ≡ switch_port_at fabric.nodes at
    port_still at = then_still (λ node. node_switch_port node at.port) (λ held. refl) fabric.nodes at.node

    pub cabled_still : (at : PortRef) (port : AdapterState) → IsCabledPort next at port → IsCabledPort fabric at port
    cabled_still at port cabled = record { there = sym (adapter_still at) ∙ cabled.there; far = cabled.far; cable = cabled.cable }

    pub cabled_then : (at : PortRef) (port : AdapterState) → IsCabledPort fabric at port → IsCabledPort next at port
    cabled_then at port cabled = record { there = adapter_still at ∙ cabled.there; far = cabled.far; cable = cabled.cable }

    was : (node : ℕ) (held : SwitchState) → slice_get next.nodes node ≡ Some (Switch held) → WasSwitch (with_all_masks routes receives) fabric.nodes node held
    was node held there = was_switch (with_all_masks routes receives) fabric.nodes node held there

    table_still : (held was : SwitchState) → held ≡ with_all_masks routes receives was.node_guid was → HasItsTable routes was → HasItsTable routes held
    table_still held was is has = record {
      place = has.place;
      guid_is = has.guid_is ∙ ap (λ (one : SwitchState). Some one.node_guid) (sym is);
      table = ap (λ (one : SwitchState). one.linear) is ∙ has.table;
    }

    stays_up : (keys : List (List ℕ)) → IsBroughtUp routes keys fabric → IsBroughtUp routes keys next
    stays_up keys up = record {
      good = stays_good fabric next same up.good;
      graph = graph_stays change unseen fabric routes.graph masks_keep_shape up.graph;
      tables = λ node held there.
          let before = was node held there in
          let has = up.tables node before.was before.there in
          (table_still held before.was before.is has.0, ap (λ (one : SwitchState). one.info.linear_fdb_top) before.is ∙ has.1);
      lids = λ at port cabled. up.lids at port (cabled_still at port cabled);
      active = λ at port cabled. up.active at port (cabled_still at port cabled);
      own_keys = λ at port own cabled given. up.own_keys at port own (cabled_still at port cabled) given;
      facing = λ here at mine port own there cable adapter given.
          up.facing here at mine port own (sym (port_still here) ∙ there) cable (sym (adapter_still at) ∙ adapter) given;
      between = λ here at mine there cable switch.
          up.between here at mine (sym (port_still here) ∙ there) cable (sym (or_same is_switch false fabric.nodes next.nodes at.node same.switches) ∙ switch);
    }

pub masks_keep_what_is_up : MasksKeepWhatIsUp
masks_keep_what_is_up routes keys receives fabric up = stays_up routes receives fabric keys up

pub all_masks_are_there : AllMasksAreThere
all_masks_are_there routes receives fabric node place held there at =
    let before = was routes receives fabric node held there in
    let place_was : place_of routes.graph.switches before.was.node_guid ≡ Some place =
    ap (λ (one : SwitchState). place_of routes.graph.switches one.node_guid) (sym before.is) ∙ at in
    ap (λ (one : SwitchState). one.masks) before.is
    ∙ ap (λ (o : Option ℕ). option_map_or (masks_of routes receives) o before.was.masks) place_was
