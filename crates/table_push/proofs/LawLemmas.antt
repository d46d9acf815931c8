-- After a push every switch of the fabric has its table.
use Rattle.std.proofs.Common.{ℕ, zero, suc, ◌≡◌, ◌==◌, ◌∙◌, ap, refl, sym, subst, true, false, List, [], ◌∷◌, map, slice_get, Option, Some, option_map}
use Rattle.std.specs.List.{IsDistinct}
use Rattle.std.specs.Option.{option_map_or}
use Rattle.std.proofs.lemmas.Option.{same_Some}
use Rattle.smp_wire.specs.FabricState.{FabricState, is_switch, is_switch_at}
use Rattle.smp_wire.specs.Good.{node_guid}
use Rattle.smp_wire.specs.declared.node.Node.{Node}
use Rattle.smp_wire.specs.declared.node.Node.TheVariants.{Switch, Adapter}
use Rattle.switch_model.specs.SwitchState.{SwitchState}
use Rattle.sweep.specs.OfFabric.{Found, guid_at, nodes_of, switch_of}
use Rattle.sweep.specs.declared.graph.GraphPort.{GraphPort}
use Rattle.sweep.specs.declared.graph.GraphSwitch.{GraphSwitch}
use Rattle.sweep.proofs.FoundLemmas.{among_place}
use Rattle.table_push.specs.Laws.{EverySwitchHasItsTable}
use Rattle.table_push.specs.Linear.{linear_table, with_linear}
use Rattle.table_push.specs.Nodes.{switch_by}
use Rattle.step_results.proofs.DistinctLemmas.{left_part}
use Rattle.table_push.proofs.GuidLemmas.{place_is}
use Rattle.updn_routes.specs.Subnet.{RoutesState, place_of}

-- what stood where a switch stands then
record WasSwitch (routes : RoutesState) (nodes : List Node) (node : ℕ) (held : SwitchState) : Type 0 where
  was : SwitchState
  there : slice_get nodes node ≡ Some (Switch was)
  is : held ≡ with_linear routes was.node_guid was

one_switch : (routes : RoutesState) (one : Node) (held : SwitchState) → switch_by (with_linear routes) one ≡ Switch held
    → (was : SwitchState) × (one ≡ Switch was) × (held ≡ with_linear routes was.node_guid was)
one_switch routes (Switch was) held is = (was, refl, sym (cc))
one_switch routes (Adapter ports) held is = absurd (cc)

was_switch : (routes : RoutesState) (nodes : List Node) (node : ℕ) (held : SwitchState)
    → slice_get (map (switch_by (with_linear routes)) nodes) node ≡ Some (Switch held) → WasSwitch routes nodes node held
was_switch routes [] node held there = absurd (cc)
was_switch routes (one ∷ nodes) zero held there =
    let same = one_switch routes one held (same_Some _ _ there) in
    record { was = same.0; there = ap (λ (other : Node). Some other) same.1; is = same.2 }
was_switch routes (one ∷ nodes) (suc node) held there =
    let rest = was_switch routes nodes node held there in
    record { was = rest.was; there = rest.there; is = rest.is }

pub found_there : (found : List Found) (k node : ℕ) → slice_get (nodes_of found) k ≡ Some node → (one : Found) × (slice_get found k ≡ Some one) × (one.node ≡ node)
found_there [] k node there = absurd (cc)
found_there (one ∷ found) zero node there = (one, refl, same_Some one.node node there)
found_there (one ∷ found) (suc k) node there = found_there found k node there

pub switch_at : (fabric : FabricState) (found : List Found) (k : ℕ) (one : Found) → slice_get found k ≡ Some one
    → slice_get (map (switch_of fabric) found) k ≡ Some (switch_of fabric one)
switch_at fabric [] k one there = absurd (cc)
switch_at fabric (other ∷ found) zero one there = ap (λ (some : Found). Some (switch_of fabric some)) (same_Some other one there)
switch_at fabric (other ∷ found) (suc k) one there = switch_at fabric found k one there

pub every_switch_has_its_table : EverySwitchHasItsTable
every_switch_has_its_table routes fabric node held graph of good there =
    let was = was_switch routes fabric.nodes node held there in
    let switch : is_switch_at fabric.nodes node ≡ true = ap (λ (o : Option Node). option_map_or is_switch o false) was.there in
    let at = among_place (nodes_of of.layout.found) node (of.layout.all node ∙ switch) in
    let found = found_there of.layout.found at.0 node at.1 in
    let one = switch_of fabric found.0 in
    let stands : slice_get routes.graph.switches at.0 ≡ Some one =
    ap (λ (switches : List GraphSwitch). slice_get switches at.0) of.layout.switches ∙ switch_at fabric of.layout.found at.0 found.0 found.1 in
    let guid : one.guid ≡ was.was.node_guid =
    ap (guid_at fabric) found.2 ∙ ap (λ (o : Option Node). option_map_or node_guid o 0) was.there in
    let own : IsDistinct (λ a b. a == b) (map (λ other. other.guid) routes.graph.switches) =
    left_part (λ a b. a == b) (map (λ other. other.guid) routes.graph.switches) (map (λ (port : GraphPort). port.port_guid) routes.graph.ports) graph.guids in
    let place : place_of routes.graph.switches was.was.node_guid ≡ Some at.0 =
    subst (λ (g : ℕ). place_of routes.graph.switches g ≡ Some at.0) guid (place_is routes.graph.switches at.0 one own stands) in
    let same : held.node_guid ≡ was.was.node_guid = ap (λ (state : SwitchState). state.node_guid) was.is in
    record {
      place = at.0;
      guid_is = ap (option_map (λ (other : GraphSwitch). other.guid)) stands ∙ ap (λ (g : ℕ). Some g) (guid ∙ sym same);
      table = ap (λ (state : SwitchState). state.linear) was.is
          ∙ ap (λ (o : Option ℕ). option_map_or (linear_table routes) o was.was.linear) place;
    }
