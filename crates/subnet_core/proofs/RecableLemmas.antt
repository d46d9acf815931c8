-- A fabric that is served has no bit for groups that nobody receives. So it is served again once it is set up over other cables, and
-- the MLID ranges are pushed in which somebody receives.
use Rattle.std.proofs.Common.{ℕ, ◌≡◌, ◌==◌, ◌∙◌, ap, refl, subst, sym, Bool, false, List, [], map, slice_get, Option, Some, None, option_map}
use Rattle.std.proofs.lemmas.Bool.{eqb-false}
use Rattle.std.proofs.lemmas.Option.{none-some, same_Some}
use Rattle.std.proofs.lemmas.Simd.{map-map}
use Rattle.partition_file.specs.Sound.{IsSound as ArePartitions}
use Rattle.partition_file.specs.declared.partition.Partition.{Partition}
use Rattle.step_results.proofs.ElementLemmas.{get_same}
use Rattle.step_results.proofs.PlaceLemmas.{not_there}
use Rattle.sa_store.specs.Registry.{RegistryState}
use Rattle.smp_wire.specs.FabricState.{FabricState}
use Rattle.smp_wire.specs.declared.node.Node.{Node}
use Rattle.smp_wire.specs.declared.node.Node.TheVariants.{Switch, Adapter}
use Rattle.subnet_fabric.proofs.RecabledLookLemmas.{LooksSame, look}
use Rattle.subnet_fabric.proofs.StandingListedLemmas.{is_brought_up, masks_let_it_stand}
use Rattle.subnet_fabric.proofs.StandingLookLemmas.{graph_alike}
use Rattle.subnet_fabric.specs.Laws.{all_keys}
use Rattle.subnet_fabric.specs.Recabled.{masks_in}
use Rattle.subnet_fabric.specs.Standing.{IsStanding}
use Rattle.subnet_model.specs.Configuration.{ConfigurationState}
use Rattle.subnet_fabric.specs.Ports.{ports_of}
use Rattle.sweep.specs.declared.graph.GraphSwitch.{GraphSwitch}
use Rattle.switch_model.specs.Multicast.{has_bits}
use Rattle.table_push.proofs.AllMaskLemmas.{all_masks_are_there}
use Rattle.table_push.proofs.NodeLemmas.{none_there}
use Rattle.table_push.specs.Masks.{all_masks_pushed, with_all_masks}
use Rattle.table_push.specs.Nodes.{switch_by}
use Rattle.topo_file.specs.Sound.{IsSound}
use Rattle.topo_file.specs.Topology.{TopologyState}
use Rattle.updn_routes.specs.Subnet.{RoutesState, place_of}
use Rattle.subnet_core.proofs.NobodyLemmas.{none_read}
use Rattle.subnet_core.proofs.ServeLemmas.{still_up}
use Rattle.subnet_core.specs.Served.{Serves, receives_at}
use Rattle.subnet_core.specs.MlidRanges.{CanBePushed, HasNoStrayBits}

-- ---- no bit stands for a group that nobody receives
-- a switch that the graph has at some place has one by its GUID
placed : (switches : List GraphSwitch) (k guid : ℕ) → option_map (λ switch. switch.guid) (slice_get switches k) ≡ Some guid → place_of switches guid ≡ None → ⊥
placed switches k guid there none = by (slice_get switches k) refl there
  where
    by : (o : Option GraphSwitch) → slice_get switches k ≡ o → option_map (λ switch. switch.guid) o ≡ Some guid → ⊥
    by None at is = none-some guid is
    by (Some switch) at is =
        let apart : (switch.guid == guid) ≡ false =
        none_there (λ one. one.guid == guid) switches k switch (not_there (λ (one : GraphSwitch). one.guid == guid) switches none) at in
        eqb-false switch.guid guid apart (same_Some switch.guid guid is)

pub no_stray_bits : (plan : TopologyState) (routes : RoutesState) (registry : RegistryState) (fabric : FabricState) → Serves plan routes registry fabric
    → HasNoStrayBits (receives_at registry.configuration.ports registry.administration.remembered.partitions) fabric
no_stray_bits plan routes registry fabric serves node mlid held there nobody = by (place_of routes.graph.switches held.node_guid) refl
  where
    receives : ℕ → ℕ → Bool
    receives = receives_at registry.configuration.ports registry.administration.remembered.partitions

    by : (o : Option ℕ) → place_of routes.graph.switches held.node_guid ≡ o → has_bits held.masks mlid ≡ false
    by None none =
        let has = ((still_up plan routes registry fabric serves).tables node held there).0 in
        absurd (placed routes.graph.switches has.place held.node_guid has.guid_is none)
    by (Some place) at =
        let then = ap (λ (one : FabricState). slice_get one.nodes node) (sym serves.served.masks) ∙ there in
        ap (λ (masks : List (List ℕ)). has_bits masks mlid) (all_masks_are_there routes receives serves.served.base node place held then at)
        ∙ none_read routes receives mlid nobody place

-- nor where the same masks stand
pub still_none : (receives : ℕ → ℕ → Bool) (was left : FabricState) → map masks_in left.nodes ≡ map masks_in was.nodes → HasNoStrayBits receives was
    → HasNoStrayBits receives left
still_none receives was left same none node mlid held there nobody =
    by (slice_get was.nodes node) refl (sym (get_same masks_in was.nodes left.nodes node same) ∙ ap (option_map masks_in) there)
  where
    by : (o : Option Node) → slice_get was.nodes node ≡ o → option_map masks_in o ≡ Some held.masks → has_bits held.masks mlid ≡ false
    by None at is = absurd (none-some held.masks is)
    by (Some (Switch before)) at is =
        ap (λ (masks : List (List ℕ)). has_bits masks mlid) (sym (same_Some before.masks held.masks is)) ∙ none node mlid before at nobody
    by (Some (Adapter ports)) at is = ap (λ (masks : List (List ℕ)). has_bits masks mlid) (sym (same_Some [] held.masks is))

-- ---- the fabric stands, and SMPs find their way in it
pub stands_masked : (plan : TopologyState) (routes : RoutesState) (registry : RegistryState) (fabric : FabricState) → Serves plan routes registry fabric
    → IsStanding plan (all_keys registry.configuration.ports) routes fabric
stands_masked plan routes registry fabric serves =
    subst (IsStanding plan (all_keys registry.configuration.ports) routes) (sym serves.served.masks)
    (masks_let_it_stand plan (all_keys registry.configuration.ports) routes
    (receives_at registry.configuration.ports registry.administration.remembered.partitions) serves.served.base serves.served.stands)

pub found_again : (plan : TopologyState) (partitions : List Partition) (routes : RoutesState) (fabric : FabricState) → IsSound plan → ArePartitions partitions
    → IsStanding plan (all_keys (ports_of partitions plan)) routes fabric → CanBePushed routes fabric
found_again plan partitions routes fabric sound whole standing = record {
  graph = graph_alike masked fabric (record { nodes = hidden; cables = refl; manager = refl }) routes.graph
      (is_brought_up plan partitions routes fabric nobody sound whole standing).graph;
  good = standing.up.good;
}
  where
    nobody : ℕ → ℕ → Bool
    nobody mlid lid = false

    masked : FabricState
    masked = all_masks_pushed routes nobody fabric

    one : (node : Node) → look (switch_by (with_all_masks routes nobody) node) ≡ look node
    one (Switch held) = refl
    one (Adapter ports) = refl

    hidden : LooksSame masked.nodes fabric.nodes
    hidden = sym (map-map look (switch_by (with_all_masks routes nobody)) fabric.nodes ∙ (λ i. map (λ node. one node i) fabric.nodes))

-- ---- after cables changed
module _ (plan : TopologyState) (routes next : RoutesState) (registry : RegistryState) (fabric left : FabricState) (serves : Serves plan routes registry fabric)
    (standing : IsStanding plan (all_keys registry.configuration.ports) next left) where
  pub can_be_pushed_again : CanBePushed next left
  can_be_pushed_again =
      found_again plan serves.partitions next left serves.sound serves.whole
      (subst (λ (configuration : ConfigurationState). IsStanding plan (all_keys configuration.ports) next left) serves.configured standing)

  pub serves_over : (after : FabricState)
      → after ≡ all_masks_pushed next (receives_at registry.configuration.ports registry.administration.remembered.partitions) left
      → Serves plan next registry after
  serves_over after masks = record {
    sound = serves.sound;
    partitions = serves.partitions;
    whole = serves.whole;
    configured = serves.configured;
    served = record { base = left; stands = standing; masks = masks };
  }
