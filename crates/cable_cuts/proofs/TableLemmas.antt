-- What the linear forwarding tables of a fabric that is brought up have is what its routes say.
use Rattle.std.proofs.Common.{ℕ, ◌+◌, ◌-◌, ◌<◌, ◌≡◌, ◌∙◌, ap, refl, sym, Bool, true, false, cond, List, [], ◌∷◌, find, get_or, length, map, slice_get, unwrap_or, Option, Some, None, option_map}
use Rattle.std.specs.Option.{option_and_then, option_map_or}
use Rattle.std.proofs.lemmas.Bool.{eqb-true, eq-eqb, false≢true}
use Rattle.std.proofs.lemmas.Option.{none-some}
use Rattle.agent_rules.specs.declared.power_up.TheConstants.{MULTICAST_TABLE}
use Rattle.fabric_parts.specs.Lid.{is_multicast}
use Rattle.fabric_parts.specs.declared.lid.TheConstants.{FIRST_MULTICAST_LID}
use Rattle.subnet_fabric.specs.Recabled.{masks_in}
use Rattle.switch_model.specs.Multicast.{is_in_masks}
use Rattle.table_push.proofs.AttachedLemmas.{found_is}
use Rattle.table_push.proofs.EntryLemmas.{entry_read}
use Rattle.table_push.proofs.MaskLemmas.{masks_are_read}
use Rattle.table_push.proofs.SetUpLemmas.{with_all}
use Rattle.table_push.specs.Masks.{all_masks_pushed, is_in_mask, masks_of, with_all_masks}
use Rattle.cable_cuts.specs.Masks.{masks_of_switch}
use Rattle.fabric_wire.specs.OfTopology.{fabric_of}
use Rattle.updn_routes.proofs.OfFabricLemmas.{has_switch, not_without}
use Rattle.smp_wire.specs.FabricState.{FabricState, is_switch, is_switch_at}
use Rattle.smp_wire.specs.Good.{node_guid}
use Rattle.smp_wire.specs.declared.node.Node.{Node}
use Rattle.smp_wire.specs.declared.node.Node.TheVariants.{Switch, Adapter}
use Rattle.subnet_fabric.specs.BringUp.{IsBroughtUpBy}
use Rattle.sweep.proofs.CabledLemmas.{any_found}
use Rattle.sweep.proofs.FoundLemmas.{any_by}
use Rattle.sweep.specs.OfFabric.{IsLayoutOf, guid_at}
use Rattle.table_push.specs.Keys.{keys_wanted}
use Rattle.table_push.specs.Linear.{linear_table, with_linear}
use Rattle.table_push.specs.Nodes.{infos_by, keys_by, switch_by}
use Rattle.table_push.specs.Ports.{change_wanted, changed, set_top}
use Rattle.table_push.specs.Pushed.{all_pushed}
use Rattle.topo_file.specs.Topology.{TopologyState}
use Rattle.updn_routes.specs.Routes.{next_hop}
use Rattle.updn_routes.specs.Subnet.{RoutesState, place_of}
use Rattle.cable_cuts.specs.Changes.{entry_by, entry_in, is_switch_of, linear_in}

-- ---- lists
none_passes : {X : Type 0} (p : X → Bool) (xs : List X) (k : ℕ) (x : X) → find p xs ≡ None → slice_get xs k ≡ Some x → p x ≡ true → ⊥
none_passes p xs k x none there passes = let one = any_found p xs (any_by p xs k x there passes) in none-some one.0 (sym none ∙ one.1)

-- what a test that a change keeps finds
found_once : (p : Node → Bool) (a : Node → Node) → ((node : Node) → p (a node) ≡ p node) → (nodes : List Node)
    → find p (map a nodes) ≡ option_map a (find p nodes)
found_once p a same [] = refl
found_once p a same (node ∷ nodes) =
    ap (λ (here : Bool). cond here (Some (a node)) (find p (map a nodes))) (same node) ∙ by (p node) (found_once p a same nodes)
  where
    by : (here : Bool) → find p (map a nodes) ≡ option_map a (find p nodes)
        → cond here (Some (a node)) (find p (map a nodes)) ≡ option_map a (cond here (Some node) (find p nodes))
    by true rest = refl
    by false rest = rest

found_moved : (p : Node → Bool) (a b c d : Node → Node) → ((node : Node) → p (a (b (c (d node)))) ≡ p node) → (nodes : List Node)
    → find p (map a (map b (map c (map d nodes)))) ≡ option_map (λ node. a (b (c (d node)))) (find p nodes)
found_moved p a b c d same [] = refl
found_moved p a b c d same (node ∷ nodes) =
    ap (λ (here : Bool). cond here (Some (a (b (c (d node))))) (find p (map a (map b (map c (map d nodes)))))) (same node)
    ∙ by (p node) (found_moved p a b c d same nodes)
  where
    by : (here : Bool) → find p (map a (map b (map c (map d nodes)))) ≡ option_map (λ node. a (b (c (d node)))) (find p nodes)
        → cond here (Some (a (b (c (d node))))) (find p (map a (map b (map c (map d nodes)))))
        ≡ option_map (λ node. a (b (c (d node)))) (cond here (Some node) (find p nodes))
    by true rest = refl
    by false rest = rest

-- ---- a table of routes
module _ (plan : TopologyState) (keys : List (List ℕ)) (routes : RoutesState) (fabric : FabricState) (up : IsBroughtUpBy plan keys routes fabric) where
  abbrev was : FabricState
  was = fabric_of plan

  abbrev layout : IsLayoutOf routes.graph was
  layout = up.are.found.of.layout

  abbrev pushed : Node → Node
  pushed node = with_all routes keys node

  -- ---- and of the fabric
  module _ (guid lid : ℕ) where
    same_test : (node : Node) → is_switch_of guid (pushed node) ≡ is_switch_of guid node
    same_test (Switch held) = refl
    same_test (Adapter ports) = refl

    -- a switch of the graph is one of the fabric
    stands : (k : ℕ) → place_of routes.graph.switches guid ≡ Some k → find (is_switch_of guid) was.nodes ≡ None → ⊥
    stands k at none =
        let has = has_switch was routes.graph layout guid k at in
        by (slice_get was.nodes has.node) refl has.switch has.guid_is
      where
        has : (node : ℕ) × (is_switch_at was.nodes node ≡ true) × (guid_at was node ≡ guid)
        has = let one = has_switch was routes.graph layout guid k at in (one.node, one.switch, one.guid_is)

        by : (o : Option Node) → slice_get was.nodes has.0 ≡ o → option_map_or is_switch o false ≡ true → option_map_or node_guid o 0 ≡ guid → ⊥
        by None there switch is = false≢true switch
        by (Some (Switch held)) there switch is = none_passes (is_switch_of guid) was.nodes has.0 (Switch held) none there (eq-eqb held.node_guid guid is)
        by (Some (Adapter ports)) there switch is = false≢true switch

    abbrev Reads : Option Node → Type 0
    Reads o = get_or (option_map_or linear_in (option_map pushed o) []) lid 255 ≡ entry_by routes guid lid

    read_none : find (is_switch_of guid) was.nodes ≡ None → Reads None
    read_none none = by (place_of routes.graph.switches guid) refl
      where
        by : (o : Option ℕ) → place_of routes.graph.switches guid ≡ o → 255 ≡ unwrap_or (option_and_then (λ place. next_hop routes.between place lid) o) 255
        by None at = refl
        by (Some k) at = absurd (stands k at none)

    read : (o : Option Node) → find (is_switch_of guid) was.nodes ≡ o → Reads o
    read None none = read_none none
    read (Some (Adapter ports)) is = absurd (false≢true (found_is (is_switch_of guid) was.nodes (Adapter ports) is).2)
    read (Some (Switch held)) is =
        let at = found_is (is_switch_of guid) was.nodes (Switch held) is in
        let same : held.node_guid ≡ guid = eqb-true held.node_guid guid at.2 in
        by at.0 at.1 same (place_of routes.graph.switches guid) refl
      where
        by : (k : ℕ) → slice_get was.nodes k ≡ Some (Switch held) → held.node_guid ≡ guid → (o : Option ℕ) → place_of routes.graph.switches guid ≡ o
            → get_or (option_map_or (linear_table routes) (place_of routes.graph.switches held.node_guid) held.linear) lid 255
            ≡ unwrap_or (option_and_then (λ place. next_hop routes.between place lid) (place_of routes.graph.switches guid)) 255
        by k there same None at =
            absurd (not_without was routes.graph layout guid k (ap (λ (o : Option Node). option_map_or is_switch o false) there)
            (ap (λ (o : Option Node). option_map_or node_guid o 0) there ∙ same) at)
        by k there same (Some place) at =
            ap (λ (o : Option ℕ). get_or (option_map_or (linear_table routes) o held.linear) lid 255) (ap (place_of routes.graph.switches) same ∙ at)
            ∙ entry_read routes up.home place lid
            ∙ sym (ap (λ (o : Option ℕ). unwrap_or (option_and_then (λ place. next_hop routes.between place lid) o) 255) at)

  pub entry_is : (guid lid : ℕ) → entry_in fabric guid lid ≡ entry_by routes guid lid
  entry_is guid lid =
      ap (λ (one : FabricState). entry_in one guid lid) up.is
      ∙ ap (λ (o : Option Node). get_or (option_map_or linear_in o []) lid 255)
      (found_moved (is_switch_of guid) (switch_by (with_linear routes)) (keys_by (λ guid number held. unwrap_or (keys_wanted routes keys guid number) held))
      (switch_by (λ guid. set_top (length routes.lids))) (infos_by (λ guid number. changed (change_wanted routes guid number))) (same_test guid lid) was.nodes)
      ∙ read guid lid (find (is_switch_of guid) was.nodes) refl

  -- ---- masks that are pushed to it
  module _ (receives : ℕ → ℕ → Bool) (guid mlid port : ℕ) (multicast : is_multicast mlid ≡ true) (within : mlid < FIRST_MULTICAST_LID + MULTICAST_TABLE)
      (low : port < 48) where
    abbrev masked : Node → Node
    masked node = switch_by (with_all_masks routes receives) node

    abbrev Shows : Option Node → Type 0
    Shows o =
        is_in_masks (option_map_or masks_in (option_map masked (option_map pushed o)) []) mlid port
        ≡ option_map_or (λ place. is_in_mask routes receives place mlid port) (place_of routes.graph.switches guid) false

    show_none : find (is_switch_of guid) was.nodes ≡ None → Shows None
    show_none none = by (place_of routes.graph.switches guid) refl
      where
        by : (o : Option ℕ) → place_of routes.graph.switches guid ≡ o → false ≡ option_map_or (λ place. is_in_mask routes receives place mlid port) o false
        by None at = refl
        by (Some k) at = absurd (stands guid mlid k at none)

    show : (o : Option Node) → find (is_switch_of guid) was.nodes ≡ o → Shows o
    show None none = show_none none
    show (Some (Adapter ports)) is = absurd (false≢true (found_is (is_switch_of guid) was.nodes (Adapter ports) is).2)
    show (Some (Switch held)) is =
        let at = found_is (is_switch_of guid) was.nodes (Switch held) is in
        let same : held.node_guid ≡ guid = eqb-true held.node_guid guid at.2 in
        by at.0 at.1 same (place_of routes.graph.switches guid) refl
      where
        by : (k : ℕ) → slice_get was.nodes k ≡ Some (Switch held) → held.node_guid ≡ guid → (o : Option ℕ) → place_of routes.graph.switches guid ≡ o
            → is_in_masks (option_map_or (masks_of routes receives) (place_of routes.graph.switches held.node_guid) held.masks) mlid port
            ≡ option_map_or (λ place. is_in_mask routes receives place mlid port) (place_of routes.graph.switches guid) false
        by k there same None at =
            absurd (not_without was routes.graph layout guid k (ap (λ (o : Option Node). option_map_or is_switch o false) there)
            (ap (λ (o : Option Node). option_map_or node_guid o 0) there ∙ same) at)
        by k there same (Some place) at =
            ap (λ (o : Option ℕ). is_in_masks (option_map_or (masks_of routes receives) o held.masks) mlid port) (ap (place_of routes.graph.switches) same ∙ at)
            ∙ masks_are_read routes receives place mlid port multicast within low
            ∙ sym (ap (λ (o : Option ℕ). option_map_or (λ place. is_in_mask routes receives place mlid port) o false) at)

    keeps_test : (node : Node) → is_switch_of guid (masked node) ≡ is_switch_of guid node
    keeps_test (Switch held) = refl
    keeps_test (Adapter ports) = refl

    pub bit_is : is_in_masks (masks_of_switch (all_masks_pushed routes receives fabric) guid) mlid port
        ≡ option_map_or (λ place. is_in_mask routes receives place mlid port) (place_of routes.graph.switches guid) false
    bit_is =
        ap (λ (one : FabricState). is_in_masks (masks_of_switch (all_masks_pushed routes receives one) guid) mlid port) up.is
        ∙ ap (λ (o : Option Node). is_in_masks (option_map_or masks_in o []) mlid port)
        (found_once (is_switch_of guid) masked keeps_test (all_pushed routes keys was).nodes
        ∙ ap (option_map masked)
        (found_moved (is_switch_of guid) (switch_by (with_linear routes)) (keys_by (λ guid number held. unwrap_or (keys_wanted routes keys guid number) held))
        (switch_by (λ guid. set_top (length routes.lids))) (infos_by (λ guid number. changed (change_wanted routes guid number))) (same_test guid mlid) was.nodes))
        ∙ show (find (is_switch_of guid) was.nodes) refl
