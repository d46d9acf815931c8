-- Each fabric that is brought up has a dump that shows what its switches hold.
use Rattle.std.proofs.Common.{ℕ, ◌≡◌, ◌≢◌, ◌+◌, ◌-◌, ◌==◌, ◌∙◌, ap, refl, sym, subst, Bool, true, false, if◌then◌else◌, List, slice_get, unwrap_or, Option, Some, None, option_map, arith}
use Rattle.std.specs.Option.{option_and_then, option_map_or}
use Rattle.std.proofs.lemmas.Bool.{eqb-false, false≢true, ne_eqb}
use Rattle.std.proofs.lemmas.Option.{none-some, same_Some}
use Rattle.dump_file.specs.Table.{rows_of}
use Rattle.dump_file.specs.declared.table.Table.{Table}
use Rattle.fabric_parts.specs.declared.cable.PortRef.{PortRef}
use Rattle.fabric_parts.specs.declared.node_type.NodeType.{NodeType}
use Rattle.fabric_parts.specs.declared.node_type.NodeType.TheVariants as node_type
use Rattle.fabric_parts.specs.NodeType.{is_switch_type}
use Rattle.fabric_wire.proofs.OfTopologyLemmas.{node_at}
use Rattle.fabric_wire.specs.OfTopology.{fabric_of, node_of, node_of_type}
use Rattle.lid_assign.specs.Lids.{guid_in}
use Rattle.audit_net.specs.Net.{NetState, row_of, table_at, table_of}
use Rattle.smp_wire.specs.FabricState.{FabricState, is_switch as is_switch_node}
use Rattle.smp_wire.specs.Good.{IsGood, node_guid}
use Rattle.smp_wire.specs.declared.node.Node.TheVariants.{Switch}
use Rattle.subnet_fabric.specs.BringUp.{IsBroughtUpBy}
use Rattle.switch_model.specs.SwitchState.{SwitchState}
use Rattle.table_push.proofs.HomeLemmas.{at_home}
use Rattle.table_push.proofs.SetUpLemmas.{node_after, with_all}
use Rattle.topo_file.specs.Node.{is_switch, is_switch_at}
use Rattle.topo_file.specs.Sound.{IsSound}
use Rattle.topo_file.specs.Topology.{TopologyState}
use Rattle.topo_file.specs.declared.node.Node.{Node as PlannedNode}
use Rattle.updn_routes.specs.Routes.{home_of, hop_to}
use Rattle.updn_routes.specs.Subnet.{RoutesState}
use Rattle.fabric_loads.specs.HeldRows.{held_entry, row_for}
use Rattle.fabric_loads.proofs.RowLemmas.{reported_of}
use Rattle.joint_laws.specs.RouteLaws.{ADumpShowsWhatIsHeld, over}
use Rattle.joint_laws.specs.OwnTables.{dump_of, table_for}
use Rattle.joint_laws.specs.Shown.{HasRow}
use Rattle.joint_laws.proofs.HeldTableLemmas.{holds}
use Rattle.joint_laws.proofs.ShownLemmas.{all_reported, no_row, row_found, table_found, table_is}
use Rattle.joint_laws.proofs.StandLemmas.{place_for}

-- a LID that some GUID has is one from 1 on
pub has_place : (lids : List ℕ) (lid guid : ℕ) → guid_in lids lid ≡ Some guid → (slice_get lids (lid - 1) ≡ Some guid) × (lid ≡ 1 + (lid - 1))
has_place lids lid guid named = by (lid == 0) refl named
  where
    by : (b : Bool) → (lid == 0) ≡ b → (if b then None else slice_get lids (lid - 1)) ≡ Some guid → (slice_get lids (lid - 1) ≡ Some guid) × (lid ≡ 1 + (lid - 1))
    by true is named = absurd (none-some guid named)
    by false is named = let some = eqb-false lid 0 is in (named, omega (arith, some))

module _ (plan : TopologyState) (sound : IsSound plan) (keys : List (List ℕ)) (routes : RoutesState) (fabric : FabricState)
    (up : IsBroughtUpBy plan keys routes fabric) where
  abbrev was : FabricState
  was = fabric_of plan

  abbrev net : NetState
  net = over plan (dump_of plan routes.lids fabric)

  pub good_up : IsGood fabric
  good_up = subst IsGood (sym up.is) up.pushed.linear.good

  -- ---- the node of the topology
  pub record IsPlannedSwitch (place : ℕ) (held : SwitchState) : Type 0 where
    pub node : PlannedNode
    pub there : slice_get plan.nodes place ≡ Some node
    pub switch : is_switch node ≡ true
    pub guid_is : node.guid ≡ held.node_guid

  of_type : (of : NodeType) (place : ℕ) (node : PlannedNode) (held : SwitchState) → with_all routes keys (node_of_type of plan.cables place node) ≡ Switch held
      → (is_switch_type of ≡ true) × (node.guid ≡ held.node_guid)
  of_type node_type.Switch place node held is = (refl, ap node_guid is)
  of_type node_type.ChannelAdapter place node held is = absurd (false≢true (ap is_switch_node is))

  pub planned_there : (place : ℕ) (held : SwitchState) → slice_get fabric.nodes place ≡ Some (Switch held) → IsPlannedSwitch place held
  planned_there place held there =
      by (slice_get plan.nodes place) refl
      (ap (option_map (with_all routes keys)) (sym (node_at plan.cables plan.nodes place)) ∙ sym (node_after routes keys was place)
      ∙ ap (λ (one : FabricState). slice_get one.nodes place) (sym up.is) ∙ there)
    where
      by : (o : Option PlannedNode) → slice_get plan.nodes place ≡ o → option_map (with_all routes keys) (option_map (node_of plan.cables place) o) ≡ Some (Switch held)
          → IsPlannedSwitch place held
      by None at is = absurd (none-some (Switch held) is)
      by (Some node) at is =
          let of = of_type node.node_type place node held (same_Some (with_all routes keys (node_of plan.cables place node)) (Switch held) is) in
          record { node = node; there = at; switch = of.0; guid_is = of.1 }

  -- ---- its table
  pub table_there : (place : ℕ) (held : SwitchState) → slice_get fabric.nodes place ≡ Some (Switch held)
      → table_at net place ≡ Some (table_for plan.nodes routes.lids held)
  table_there place held there =
      let one = planned_there place held there in
      ap (λ (o : Option PlannedNode). option_and_then (λ (node : PlannedNode). table_of node.guid net.dump.tables) o) one.there
      ∙ ap (λ (guid : ℕ). table_of guid net.dump.tables) one.guid_is
      ∙ (table_is held.node_guid net.dump.tables ∙ table_found plan.nodes routes.lids fabric.nodes place held good_up.node_guids.own there)

  -- ---- a LID with an entry is that of a GUID
  pub named_lid : (place lid : ℕ) (held : SwitchState) → slice_get fabric.nodes place ≡ Some (Switch held) → held_entry held lid ≢ 255
      → (guid : ℕ) × (guid_in routes.lids lid ≡ Some guid)
  named_lid place lid held there some =
      let one = planned_there place held there in
      let switch : is_switch_at plan.nodes place ≡ true = ap (λ (o : Option PlannedNode). option_map_or is_switch o false) one.there ∙ one.switch in
      let at = place_for plan sound routes.graph up.are.found.of place switch in
      let has = holds plan keys routes fabric up place at.0 switch at.1 in
      let same : Switch has.held ≡ Switch held = same_Some (Switch has.held) (Switch held) (sym has.there ∙ there) in
      let held_is : has.held ≡ held = cc in
      by at.0 (home_of routes.between.homes lid) refl (ap (λ (one : SwitchState). held_entry one lid) (sym held_is) ∙ has.entry_is lid)
    where
      by : (at : ℕ) (o : Option PortRef) → home_of routes.between.homes lid ≡ o → held_entry held lid ≡ unwrap_or (hop_to routes.between lid at (home_of routes.between.homes lid)) 255
          → (guid : ℕ) × (guid_in routes.lids lid ≡ Some guid)
      by at None home is = absurd (some (is ∙ ap (λ (o : Option PortRef). unwrap_or (hop_to routes.between lid at o) 255) home))
      by at (Some home_port) home is =
          let named = at_home routes.graph routes.lids lid home_port (ap (λ (homes : List PortRef). home_of homes lid) (sym up.home.of.homes_are) ∙ home) in
          (named.guid, named.named)

  rows : (place lid : ℕ) (held : SwitchState) → slice_get fabric.nodes place ≡ Some (Switch held) → held_entry held lid ≢ 255
      → HasRow net place lid (held_entry held lid)
  rows place lid held there some =
      let named = named_lid place lid held there some in
      let at = has_place routes.lids lid named.0 named.1 in
      record {
        table = table_for plan.nodes routes.lids held;
        row = row_for plan.nodes lid named.0 (held_entry held lid);
        there = table_there place held there;
        found = row_found plan.nodes routes.lids held routes.lids 1 (lid - 1) lid named.0 at.0 at.1 (ne_eqb (held_entry held lid) 255 some);
        is = refl;
      }

  none : (place lid entry : ℕ) (held : SwitchState) → slice_get fabric.nodes place ≡ Some (Switch held) → held_entry held lid ≡ 255
      → HasRow net place lid entry → entry ≡ 255
  none place lid entry held there gone has =
      let table = same_Some has.table (table_for plan.nodes routes.lids held) (sym has.there ∙ table_there place held there) in
      absurd (none-some has.row (sym (no_row plan.nodes routes.lids held routes.lids 1 lid gone) ∙ ap (λ (one : Table). row_of lid one.rows) (sym table) ∙ has.found))

pub a_dump_shows_what_is_held : ADumpShowsWhatIsHeld
a_dump_shows_what_is_held plan keys routes fabric sound up = record {
  rows = rows plan sound keys routes fabric up;
  none = none plan sound keys routes fabric up;
  ends = λ lid guid said.
      reported_of plan.nodes routes.lids lid (rows_of (dump_of plan routes.lids fabric).tables) guid (all_reported plan.nodes routes.lids fabric.nodes) said;
}
