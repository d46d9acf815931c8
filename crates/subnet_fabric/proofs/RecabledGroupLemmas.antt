-- MFTs of groups in a fabric that is up with some of its cables.
use Rattle.std.proofs.Common.{ℕ, ◌≡◌, ◌∙◌, ap, refl, subst, sym, Bool, false, List, [], map, slice_get, Option, Some, None, option_map}
use Rattle.std.specs.List.{All}
use Rattle.std.specs.Option.{option_map_or}
use Rattle.std.proofs.lemmas.Option.{slice_get-map}
use Rattle.std.proofs.lemmas.Simd.{map-map}
use Rattle.fabric_wire.specs.Cabling.{CablingState}
use Rattle.fabric_wire.specs.OfTopology.{fabric_of}
use Rattle.updn_routes.proofs.OfFabricLemmas.{not_without}
use Rattle.smp_wire.specs.FabricState.{FabricState, is_switch}
use Rattle.smp_wire.specs.Good.{IsGoodNode, node_guid}
use Rattle.smp_wire.specs.declared.node.Node.{Node}
use Rattle.smp_wire.specs.declared.node.Node.TheVariants.{Switch, Adapter}
use Rattle.subnet_fabric.proofs.RecabledLookLemmas.{LooksSame, good_too, look}
use Rattle.subnet_fabric.proofs.RecabledMaskLemmas.{clear}
use Rattle.subnet_fabric.proofs.RecabledPortLemmas.{by_places}
use Rattle.subnet_fabric.proofs.RecabledPowerUpLemmas.{was_good}
use Rattle.subnet_fabric.specs.Recabled.{IsUpWith, MasksKeepItUp, base_of, with_cables}
use Rattle.subnet_fabric.specs.SetUp.{IsSetUpBy}
use Rattle.switch_model.specs.SwitchState.{SwitchState}
use Rattle.table_push.proofs.AllMaskLemmas.{masks_keep_what_is_up}
use Rattle.table_push.proofs.BroughtUpLemmas.{brings_up}
use Rattle.table_push.specs.BroughtUp.{IsBroughtUp}
use Rattle.table_push.specs.Masks.{all_masks_pushed, masks_of, with_all_masks}
use Rattle.table_push.specs.Nodes.{switch_by}
use Rattle.topo_file.specs.Topology.{TopologyState}
use Rattle.updn_routes.specs.Subnet.{RoutesState, place_of}

module _ (plan : TopologyState) (cabling : CablingState) (roots : List ℕ) (keys : List (List ℕ)) (routes : RoutesState)
    (receives : ℕ → ℕ → Bool) (fabric : FabricState) (up : IsUpWith plan cabling roots keys routes fabric) where
  abbrev masked : Node → Node
  masked node = switch_by (with_all_masks routes receives) node

  abbrev next : FabricState
  next = all_masks_pushed routes receives fabric

  base_up : IsBroughtUp routes keys (base_of fabric)
  base_up =
      let set = up.set_up in
      subst (IsBroughtUp routes keys) (sym set.is)
      (brings_up routes keys (fabric_of (with_cables cabling.cables plan)) set.home set.are.found.of
      (was_good routes keys (with_cables cabling.cables plan) set.pushed.linear.good) set.pushed)

  -- ---- the tables are written whole, whatever they were
  -- since the graph has each switch
  has_place : (place : ℕ) (held : SwitchState) → slice_get fabric.nodes place ≡ Some (Switch held) → place_of routes.graph.switches held.node_guid ≡ None → ⊥
  has_place place held there none =
      let at : slice_get (base_of fabric).nodes place ≡ Some (clear (Switch held)) = slice_get-map clear fabric.nodes place ∙ ap (option_map clear) there in
      not_without (base_of fabric) routes.graph base_up.graph.layout held.node_guid place
      (ap (λ (o : Option Node). option_map_or is_switch o false) at) (ap (λ (o : Option Node). option_map_or node_guid o 0) at) none

  written : (place : Option ℕ) (one other : List (List ℕ)) → (place ≡ None → ⊥)
      → option_map_or (masks_of routes receives) place one ≡ option_map_or (masks_of routes receives) place other
  written None one other some = absurd (some refl)
  written (Some place) one other some = refl

  one_node : (place : ℕ) (node : Node) → slice_get fabric.nodes place ≡ Some node → masked node ≡ masked (clear node)
  one_node place (Adapter ports) there = refl
  one_node place (Switch held) there =
      let masks = written (place_of routes.graph.switches held.node_guid) held.masks _ (has_place place held there) in
      λ i. Switch (record held { masks = masks i })

  all_written : map masked fabric.nodes ≡ map masked (map clear fabric.nodes)
  all_written =
      by_places _ _ (λ place.
      slice_get-map masked fabric.nodes place ∙ by place (slice_get fabric.nodes place) refl
      ∙ ap (option_map masked) (sym (slice_get-map clear fabric.nodes place)) ∙ sym (slice_get-map masked (map clear fabric.nodes) place))
    where
      by : (place : ℕ) (o : Option Node) → slice_get fabric.nodes place ≡ o → option_map masked o ≡ option_map masked (option_map clear o)
      by place None there = refl
      by place (Some node) there = ap (λ (one : Node). Some one) (one_node place node there)

  pub over_them : record next { cut = [] } ≡ all_masks_pushed routes receives (base_of fabric)
  over_them =
      let nodes = all_written in
      λ i. record (base_of fabric) { nodes = nodes i }

  -- ---- and all else stays
  shows : LooksSame fabric.nodes next.nodes
  shows = map-map look masked fabric.nodes ∙ (λ i. map (λ node. one node i) fabric.nodes)
    where
      one : (node : Node) → look (masked node) ≡ look node
      one (Switch held) = refl
      one (Adapter ports) = refl

  same_base : base_of next ≡ base_of fabric
  same_base =
      let nodes = map-map clear masked fabric.nodes ∙ (λ i. map (λ node. one node i) fabric.nodes) in
      λ i. record (base_of fabric) { nodes = nodes i }
    where
      one : (node : Node) → clear (masked node) ≡ clear node
      one (Switch held) = refl
      one (Adapter ports) = refl

  pub still_up : IsUpWith plan cabling roots keys routes next
  still_up = record {
    good = good_too fabric next.nodes shows
        (subst (All IsGoodNode) (sym all_written) (masks_keep_what_is_up routes keys receives (base_of fabric) base_up).good.holdings) up.good;
    cut = up.cut;
    set_up = subst (IsSetUpBy (fabric_of (with_cables cabling.cables plan)) roots keys routes) (sym same_base) up.set_up;
  }

pub masks_keep_it_up : MasksKeepItUp
masks_keep_it_up plan cabling roots keys routes receives fabric up =
    (still_up plan cabling roots keys routes receives fabric up, over_them plan cabling roots keys routes receives fabric up)
