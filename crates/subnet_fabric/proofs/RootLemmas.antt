-- The roots that a topology names are switches of its fabric, and switches of a fabric are those of its graph.
use Rattle.std.proofs.Common.{ℕ, ◌≡◌, ◌==◌, ◌&&◌, ◌∙◌, ap, refl, subst, sym, true, false, List, [], ◌∷◌, map, slice_get, Option, Some, None, option_map}
use Rattle.std.specs.List.{list_all, list_any}
use Rattle.std.specs.Option.{option_map_or}
use Rattle.std.proofs.lemmas.Bool.{and_from, and_parts, eqb-true, eq-eqb, false≢true}
use Rattle.std.proofs.lemmas.Option.{slice_get-map}
use Rattle.fabric_wire.proofs.OfTopologyGuidLemmas.{guid_of}
use Rattle.fabric_wire.proofs.OfTopologyLemmas.{node_at, switch_there}
use Rattle.fabric_wire.specs.OfTopology.{fabric_of, node_of}
use Rattle.step_results.proofs.ListLemmas.{all_there}
use Rattle.smp_wire.specs.FabricState.{FabricState, is_switch, is_switch_at as is_switch_in}
use Rattle.smp_wire.specs.Good.{node_guid}
use Rattle.smp_wire.specs.declared.node.Node.{Node}
use Rattle.sweep.proofs.FoundLemmas.{among_place, any_at, any_by}
use Rattle.sweep.specs.Graph.{GraphState}
use Rattle.sweep.specs.OfFabric.{Found, IsLayoutOf, guid_at as guid_in_fabric, nodes_of, switch_of}
use Rattle.sweep.specs.declared.graph.GraphSwitch.{GraphSwitch}
use Rattle.topo_file.specs.Node.{guid_at, is_switch as is_planned_switch, is_switch_at}
use Rattle.topo_file.specs.Sound.{IsSound, is_sized}
use Rattle.topo_file.specs.Topology.{TopologyState}
use Rattle.topo_file.specs.declared.node.Node.{Node as PlannedNode}
use Rattle.updn_routes.specs.Subnet.{guids_of}
use Rattle.subnet_fabric.specs.BringUp.{root_guids}
use Rattle.subnet_fabric.specs.SetUp.{are_switches, has_switch}

-- a node of the fabric has the GUID that the topology says
pub same_guid : (plan : TopologyState) (node : ℕ) → list_all is_sized plan.nodes ≡ true → guid_in_fabric (fabric_of plan) node ≡ guid_at plan.nodes node
same_guid plan node sized =
    ap (λ (o : Option _). option_map_or node_guid o 0) (node_at plan.cables plan.nodes node) ∙ by (slice_get plan.nodes node) refl
  where
    by : (o : Option PlannedNode) → slice_get plan.nodes node ≡ o
        → option_map_or node_guid (option_map (node_of plan.cables node) o) 0 ≡ option_map_or (λ (node : PlannedNode). node.guid) o 0
    by None there = refl
    by (Some one) there = guid_of plan.cables node one (all_there is_sized plan.nodes node one sized there)

-- ---- over any fabric
-- the GUID of a switch is a GUID of the graph
is_named : (fabric : FabricState) (graph : GraphState) (node : ℕ) → IsLayoutOf graph fabric → is_switch_in fabric.nodes node ≡ true
    → list_any (λ guid. guid == guid_in_fabric fabric node) (guids_of graph) ≡ true
is_named fabric graph node of switch =
    let place = among_place (nodes_of of.found) node (of.all node ∙ switch) in
    let guid = guid_in_fabric fabric node in
    any_by (λ other. other == guid) (guids_of graph) place.0 guid (found_guid place.0 place.1) (eq-eqb guid guid refl)
  where
    by : (k : ℕ) (o : Option Found) → slice_get of.found k ≡ o → option_map (λ (one : Found). one.node) o ≡ Some node
        → option_map (λ (switch : GraphSwitch). switch.guid) (option_map (switch_of fabric) o) ≡ option_map (guid_in_fabric fabric) (Some node)
    by k None there is = ap (option_map (guid_in_fabric fabric)) is
    by k (Some one) there is = ap (option_map (guid_in_fabric fabric)) is

    found_guid : (k : ℕ) → slice_get (nodes_of of.found) k ≡ Some node → slice_get (guids_of graph) k ≡ Some (guid_in_fabric fabric node)
    found_guid k there =
        slice_get-map (λ (switch : GraphSwitch). switch.guid) graph.switches k
        ∙ ap (λ (switches : List GraphSwitch). option_map (λ (switch : GraphSwitch). switch.guid) (slice_get switches k)) of.switches
        ∙ ap (option_map (λ (switch : GraphSwitch). switch.guid)) (slice_get-map (switch_of fabric) of.found k)
        ∙ by k (slice_get of.found k) refl (sym (slice_get-map (λ (one : Found). one.node) of.found k) ∙ there)

pub are_named : (fabric : FabricState) (graph : GraphState) (roots : List ℕ) → IsLayoutOf graph fabric → are_switches fabric roots ≡ true
    → list_all (λ root. list_any (λ guid. guid == root) (guids_of graph)) roots ≡ true
are_named fabric graph [] of all = refl
are_named fabric graph (root ∷ roots) of all =
    let parts = and_parts (has_switch fabric.nodes root) (are_switches fabric roots) all in
    let at = any_at (λ (node : Node). is_switch node && (node_guid node == root)) fabric.nodes parts.0 in
    let passes = and_parts (is_switch at.one) (node_guid at.one == root) at.passes in
    let switch : is_switch_in fabric.nodes at.place ≡ true = ap (λ (o : Option Node). option_map_or is_switch o false) at.there ∙ passes.0 in
    let guid : guid_in_fabric fabric at.place ≡ root =
    ap (λ (o : Option Node). option_map_or node_guid o 0) at.there ∙ eqb-true (node_guid at.one) root passes.1 in
    let named = subst (λ (g : ℕ). list_any (λ other. other == g) (guids_of graph) ≡ true) guid (is_named fabric graph at.place of switch) in
    and_from (list_any (λ other. other == root) (guids_of graph)) _ named (are_named fabric graph roots of parts.1)

-- ---- the roots that a topology names
pub roots_are_switches : (plan : TopologyState) → IsSound plan → are_switches (fabric_of plan) (root_guids plan) ≡ true
roots_are_switches plan sound = each plan.roots sound.roots.switches
  where
    one : (root : ℕ) (o : Option PlannedNode) → slice_get plan.nodes root ≡ o → option_map_or is_planned_switch o false ≡ true
        → has_switch (fabric_of plan).nodes (guid_at plan.nodes root) ≡ true
    one root None there switch = absurd (false≢true switch)
    one root (Some node) there switch =
        let built = node_of plan.cables root node in
        let stands : slice_get (fabric_of plan).nodes root ≡ Some built = node_at plan.cables plan.nodes root ∙ ap (option_map (node_of plan.cables root)) there in
        let kind : is_switch built ≡ true =
        ap (λ (o : Option Node). option_map_or is_switch o false) (sym stands) ∙ switch_there plan.cables plan.nodes root
        ∙ ap (λ (o : Option PlannedNode). option_map_or is_planned_switch o false) there ∙ switch in
        let guid : node_guid built ≡ guid_at plan.nodes root =
        ap (λ (o : Option Node). option_map_or node_guid o 0) (sym stands) ∙ same_guid plan root sound.lines.sizes in
        any_by (λ (node : Node). is_switch node && (node_guid node == guid_at plan.nodes root)) (fabric_of plan).nodes root built stands
        (and_from (is_switch built) _ kind (eq-eqb (node_guid built) (guid_at plan.nodes root) guid))

    each : (roots : List ℕ) → list_all (is_switch_at plan.nodes) roots ≡ true
        → are_switches (fabric_of plan) (map (guid_at plan.nodes) roots) ≡ true
    each [] all = refl
    each (root ∷ roots) all =
        let parts = and_parts (is_switch_at plan.nodes root) _ all in
        and_from (has_switch (fabric_of plan).nodes (guid_at plan.nodes root)) _ (one root (slice_get plan.nodes root) refl parts.0) (each roots parts.1)
