-- The entries of a fabric that is brought up are the next hops of its routes.
use Rattle.std.proofs.Common.{ℕ, ◌≡◌, ◌≤◌, ◌<◌, ◌-◌, ◌∙◌, ap, refl, sym, nat_le, nat_lt, get_or, unwrap_or, Bool, true, false, if◌then◌else◌, List, length, map, slice_get, Option, Some, None, option_map, arith}
use Rattle.std.specs.List.{range_with_len}
use Rattle.std.specs.Option.{option_and_then, option_map_or}
use Rattle.std.proofs.lemmas.Bool.{false≢true, le-leb, leb-true, ltb-false, ltb-true, ne_eqb}
use Rattle.std.proofs.lemmas.List.{get_or_past, length-map}
use Rattle.std.proofs.lemmas.List.FromFn.{get_or-map-range_with_len, length-map-range_with_len}
use Rattle.std.proofs.lemmas.Option.{none-some, same_Some, slice_get-get_or, slice_get-map, slice_get_past}
use Rattle.agent_rules.specs.declared.power_up.TheConstants.{LINEAR_TABLE}
use Rattle.smp_wire.specs.Forwards.{entry_at, node_entry}
use Rattle.fabric_parts.specs.declared.cable.PortRef.{PortRef}
use Rattle.smp_wire.specs.FabricState.{FabricState, is_switch}
use Rattle.smp_wire.specs.Good.{node_guid}
use Rattle.smp_wire.specs.declared.node.Node.{Node}
use Rattle.smp_wire.specs.declared.node.Node.TheVariants.{Switch, Adapter}
use Rattle.switch_model.specs.SwitchState.{SwitchState}
use Rattle.sweep.specs.OfFabric.{Found, nodes_of, switch_of}
use Rattle.sweep.specs.declared.graph.GraphSwitch.{GraphSwitch}
use Rattle.sweep.proofs.FoundLemmas.{among_at, node_there}
use Rattle.table_push.specs.Linear.{linear_entry, linear_table}
use Rattle.updn_routes.specs.Routes.{home_of, hop_to}
use Rattle.updn_routes.specs.Subnet.{RoutesState, home_in, place_of}
use Rattle.updn_routes.proofs.GraphLemmas.{lids_count}
use Rattle.table_push.specs.BroughtUp.{IsBroughtUp, RoutesLeadHome}
use Rattle.table_push.proofs.HomeLemmas.{own_switch}

-- ---- switches
pub record IsSwitch (nodes : List Node) (node : ℕ) : Type 0 where
  pub held : SwitchState
  pub there : slice_get nodes node ≡ Some (Switch held)

pub switch_by : (nodes : List Node) (node : ℕ) (found : Option Node) → slice_get nodes node ≡ found → option_map_or is_switch found false ≡ true
    → IsSwitch nodes node
switch_by nodes node None there is = absurd (false≢true is)
switch_by nodes node (Some (Adapter ports)) there is = absurd (false≢true is)
switch_by nodes node (Some (Switch held)) there is = record { held = held; there = there }

-- ---- tables
table_at : (routes : RoutesState) (place lid : ℕ) → lid < LINEAR_TABLE → slice_get (linear_table routes place) lid ≡ Some (linear_entry routes place lid)
table_at routes place lid within =
    let count : length (map (linear_entry routes place) (range_with_len 0 LINEAR_TABLE)) ≡ LINEAR_TABLE = long in
    slice_get-get_or (map (linear_entry routes place) (range_with_len 0 LINEAR_TABLE)) lid 0 (omega (arith, count, within))
    ∙ ap (λ (port : ℕ). Some port) (get_or-map-range_with_len (linear_entry routes place) 0 LINEAR_TABLE lid lid 0 within (omega arith))
  where
    long : length (map (linear_entry routes place) (range_with_len 0 LINEAR_TABLE)) ≡ LINEAR_TABLE
    long = length-map-range_with_len (linear_entry routes place) 0 LINEAR_TABLE

-- no LID of routes that lead home is past the end of a table
pub few_homes : (routes : RoutesState) → RoutesLeadHome routes → length routes.between.homes < LINEAR_TABLE
few_homes routes home =
    let all = lids_count routes.graph routes.lids home.of.lids_are in
    let switches = home.graph.few_switches in
    let ports = home.graph.few_ports in
    let homes = ap (λ (homes : List PortRef). length homes) home.of.homes_are ∙ length-map routes.lids (home_in routes.graph) in
    omega (arith, all, switches, ports, homes)

none_past : (routes : RoutesState) → RoutesLeadHome routes → (lid : ℕ) → LINEAR_TABLE ≤ lid → home_of routes.between.homes lid ≡ None
none_past routes home lid past =
    let low = few_homes routes home in
    ap (λ (own : Bool). if own then None else slice_get routes.between.homes (lid - 1)) (ne_eqb lid 0 (λ none. omega (arith, none, past)))
    ∙ slice_get_past routes.between.homes (lid - 1) (omega (arith, low, past))

-- so what their tables have for any LID is its entry
pub entry_read : (routes : RoutesState) → RoutesLeadHome routes → (place lid : ℕ) → get_or (linear_table routes place) lid 255 ≡ linear_entry routes place lid
entry_read routes home place lid = by (nat_lt lid LINEAR_TABLE) refl
  where
    by : (b : Bool) → nat_lt lid LINEAR_TABLE ≡ b → get_or (linear_table routes place) lid 255 ≡ linear_entry routes place lid
    by true is = get_or-map-range_with_len (linear_entry routes place) 0 LINEAR_TABLE lid lid 255 (ltb-true lid LINEAR_TABLE is) (omega (arith))
    by false is =
        let past = ltb-false lid LINEAR_TABLE is in
        let long = length-map-range_with_len (linear_entry routes place) 0 LINEAR_TABLE in
        get_or_past (linear_table routes place) lid 255 (omega (arith, past, long))
        ∙ sym (ap (λ (to : Option PortRef). unwrap_or (hop_to routes.between lid place to) 255) (none_past routes home lid past))

module _ (routes : RoutesState) (keys : List (List ℕ)) (fabric : FabricState) (home : RoutesLeadHome routes) (up : IsBroughtUp routes keys fabric) where
  few : (lid : ℕ) → lid ≤ length routes.lids → lid < LINEAR_TABLE
  few lid within =
      let all = lids_count routes.graph routes.lids home.of.lids_are in
      let switches : length routes.graph.switches ≤ 64 = home.graph.few_switches in
      let ports : length routes.graph.ports ≤ 256 = home.graph.few_ports in
      let count : LINEAR_TABLE ≡ 512 = refl in
      omega (arith, within, all, switches, ports, count)

  record Holds (place : ℕ) (found : Found) : Type 0 where
    held : SwitchState
    there : slice_get fabric.nodes found.node ≡ Some (Switch held)
    table : held.linear ≡ linear_table routes place
    top : held.info.linear_fdb_top ≡ length routes.lids

  holds : (place : ℕ) (found : Found) → slice_get up.graph.layout.found place ≡ Some found → Holds place found
  holds place found stands =
      let switch = switch_by fabric.nodes found.node (slice_get fabric.nodes found.node) refl
      (sym (up.graph.layout.all found.node) ∙ among_at (nodes_of up.graph.layout.found) place found.node (node_there up.graph.layout.found place found stands)) in
      let has = up.tables found.node switch.held switch.there in
      let one = switch_of fabric found in
      let there : slice_get routes.graph.switches place ≡ Some one =
      ap (λ (switches : List GraphSwitch). slice_get switches place) up.graph.layout.switches ∙ slice_get-map (switch_of fabric) up.graph.layout.found place
      ∙ ap (option_map (switch_of fabric)) stands in
      let guid : one.guid ≡ switch.held.node_guid = ap (λ (o : Option Node). option_map_or node_guid o 0) switch.there in
      let same : place ≡ has.0.place = by has.0.place (slice_get routes.graph.switches has.0.place) refl has.0.guid_is (own_switch routes.graph place one home.graph there) guid in
      record {
        held = switch.held;
        there = switch.there;
        table = has.0.table ∙ ap (linear_table routes) (sym same);
        top = has.1;
      }
    where
      by : (other : ℕ) (o : Option GraphSwitch) → slice_get routes.graph.switches other ≡ o → {guid own : ℕ} → option_map (λ switch. switch.guid) o ≡ Some guid
          → place_of routes.graph.switches own ≡ Some place → own ≡ guid → place ≡ other
      by other None at {guid = guid} is own same = absurd (none-some guid is)
      by other (Some switch) at {guid = guid} is own same =
          let guids : switch.guid ≡ guid = same_Some switch.guid guid is in
          same_Some place other
          (sym own ∙ ap (place_of routes.graph.switches) (same ∙ sym guids) ∙ own_switch routes.graph other switch home.graph at)

  pub entry_there : (place lid : ℕ) (found : Found) → slice_get up.graph.layout.found place ≡ Some found → lid ≤ length routes.lids
      → entry_at fabric.nodes found.node lid ≡ Some (linear_entry routes place lid)
  entry_there place lid found stands within =
      let has = holds place found stands in
      let counts : nat_le lid has.held.info.linear_fdb_top ≡ true = le-leb lid has.held.info.linear_fdb_top (omega (arith, within, has.top)) in
      ap (λ (o : Option Node). option_and_then (λ node. node_entry node lid) o) has.there
      ∙ ap (λ (b : Bool). if b then slice_get has.held.linear lid else None) counts
      ∙ ap (λ (linear : List ℕ). slice_get linear lid) has.table
      ∙ table_at routes place lid (few lid within)

  pub record IsEntry (place lid out : ℕ) : Type 0 where
    pub within : lid ≤ length routes.lids
    pub is : out ≡ linear_entry routes place lid

  pub entry_is : (place lid out : ℕ) (found : Found) → slice_get up.graph.layout.found place ≡ Some found → entry_at fabric.nodes found.node lid ≡ Some out
      → IsEntry place lid out
  entry_is place lid out found stands is =
      let has = holds place found stands in
      by has.held (nat_le lid has.held.info.linear_fdb_top) refl has.top
      (sym (ap (λ (o : Option Node). option_and_then (λ node. node_entry node lid) o) has.there) ∙ is)
    where
      by : (held : SwitchState) (b : Bool) → nat_le lid held.info.linear_fdb_top ≡ b → held.info.linear_fdb_top ≡ length routes.lids
          → (if b then slice_get held.linear lid else None) ≡ Some out → IsEntry place lid out
      by held false counts top at = absurd (none-some out at)
      by held true counts top at =
          let within : lid ≤ length routes.lids = omega (arith, leb-true lid held.info.linear_fdb_top counts, top) in
          record { within = within; is = same_Some out (linear_entry routes place lid) (sym is ∙ entry_there place lid found stands within) }
