-- The dump of what the switches hold names each adapter port that has a cable.
use Rattle.std.proofs.Common.{ℕ, ◌≡◌, ◌≢◌, ◌-◌, ◌<◌, ◌==◌, ◌&&◌, ◌||◌, ◌∙◌, ap, refl, sym, Bool, true, false, if◌then◌else◌, List, [], ◌∷◌, slice_get, is_some, unwrap_or, Option, Some, None, arith}
use Rattle.std.specs.List.{list_any}
use Rattle.std.specs.Option.{option_or}
use Rattle.std.proofs.lemmas.Bool.{and_from, eq-eqb, false≢true, ne_eqb}
use Rattle.std.proofs.lemmas.Option.{same_Some, slice_get_within}
use Rattle.agent_rules.specs.declared.power_up.TheConstants.{LINEAR_TABLE}
use Rattle.dump_file.specs.Destination.{guid_said}
use Rattle.dump_file.specs.Row.{end_of}
use Rattle.dump_file.specs.Table.{rows_of}
use Rattle.dump_file.specs.declared.row.Row.{Row}
use Rattle.dump_file.specs.declared.table.Table.{Table}
use Rattle.fabric_parts.specs.Cable.{far_end, port}
use Rattle.fabric_parts.specs.declared.cable.PortRef.{PortRef}
use Rattle.fabric_wire.proofs.OfTopologyGoodLemmas.{good}
use Rattle.fabric_wire.specs.OfTopology.{fabric_of}
use Rattle.lid_assign.specs.Lids.{guid_in}
use Rattle.step_results.proofs.ListLemmas.{any_flat}
use Rattle.audit_net.specs.OwnerLaws.{end_port_of}
use Rattle.smp_wire.specs.FabricState.{FabricState}
use Rattle.smp_wire.specs.declared.node.Node.{Node}
use Rattle.smp_wire.specs.declared.node.Node.TheVariants.{Switch}
use Rattle.subnet_fabric.specs.BringUp.{IsBroughtUpBy}
use Rattle.subnet_fabric.specs.EndPorts.{is_end_port}
use Rattle.subnet_fabric.specs.FabricPorts.{planned_port}
use Rattle.sweep.proofs.CabledLemmas.{far_of}
use Rattle.sweep.proofs.FoundLemmas.{any_by}
use Rattle.sweep.proofs.MetLemmas.{good_once}
use Rattle.switch_model.specs.SwitchState.{SwitchState}
use Rattle.table_push.proofs.EntryLemmas.{few_homes}
use Rattle.table_push.proofs.HomeLemmas.{home_there}
use Rattle.table_push.proofs.AttachedLemmas.{found_is}
use Rattle.topo_file.specs.Node.{is_switch_at, port_guid_at}
use Rattle.topo_file.specs.Sound.{IsSound}
use Rattle.topo_file.specs.Topology.{TopologyState}
use Rattle.updn_routes.specs.Routes.{home_of, hop_to, next_hop, tie_towards}
use Rattle.updn_routes.specs.Subnet.{RoutesState}
use Rattle.fabric_loads.specs.HeldRows.{held_entry, row_for, rows_from}
use Rattle.fabric_loads.proofs.RowLemmas.{said_is, reported_of}
use Rattle.joint_laws.specs.RouteLaws.{ItNamesEachPort, over}
use Rattle.joint_laws.specs.OwnTables.{dump_of, tables_for}
use Rattle.joint_laws.proofs.DumpLemmas.{has_place}
use Rattle.joint_laws.proofs.EndLemmas.{Hung, adapter_hung, planned}
use Rattle.joint_laws.proofs.HeldTableLemmas.{Holds, holds}
use Rattle.joint_laws.proofs.KindLemmas.{with_end_set}
use Rattle.joint_laws.proofs.GuidLemmas.{port_of_end}
use Rattle.joint_laws.proofs.ReachLemmas.{HasHome, is_end, port_home_of}
use Rattle.joint_laws.proofs.ShownLemmas.{all_reported, row_found}
use Rattle.joint_laws.proofs.StandLemmas.{few, is_switch_there}

-- a row says whose the LID is
abbrev says : ℕ → Row → Bool
says lid row = (row.lid == lid) && is_some (guid_said row.destination)

said_by : (lid : ℕ) (rows : List Row) → list_any (says lid) rows ≡ true → (guid : ℕ) × (end_of lid rows ≡ Some guid)
said_by lid [] some = absurd (false≢true some)
said_by lid (row ∷ rows) some = by (row.lid == lid) (guid_said row.destination) some (λ rest. said_by lid rows rest)
  where
    by : (b : Bool) (o : Option ℕ) → (b && is_some o) || list_any (says lid) rows ≡ true
        → (list_any (says lid) rows ≡ true → (guid : ℕ) × (end_of lid rows ≡ Some guid)) → (guid : ℕ) × (option_or (if b then o else None) (end_of lid rows) ≡ Some guid)
    by true (Some guid) some later = (guid, refl)
    by true None some later = later some
    by false o some later = later some

module _ (plan : TopologyState) (sound : IsSound plan) (keys : List (List ℕ)) (routes : RoutesState) (fabric : FabricState)
    (up : IsBroughtUpBy plan keys routes fabric) where
  abbrev tables : List Table
  tables = (dump_of plan routes.lids fabric).tables

  -- a switch with an entry for a LID has a row that says whose it is
  row_says : (held : SwitchState) (lid guid : ℕ) → guid_in routes.lids lid ≡ Some guid → held_entry held lid ≢ 255
      → list_any (says lid) (rows_from plan.nodes held 1 routes.lids) ≡ true
  row_says held lid guid named some =
      let at = has_place routes.lids lid guid named in
      let row = row_for plan.nodes lid guid (held_entry held lid) in
      let found = row_found plan.nodes routes.lids held routes.lids 1 (lid - 1) lid guid at.0 at.1 (ne_eqb (held_entry held lid) 255 some) in
      let there = found_is (λ row. row.lid == lid) (rows_from plan.nodes held 1 routes.lids) row found in
      any_by (says lid) (rows_from plan.nodes held 1 routes.lids) there.0 row there.1
      (and_from (lid == lid) _ (eq-eqb lid lid refl) (ap (λ (o : Option ℕ). is_some o) (said_is plan.nodes routes.lids guid)))

  all_say : (place lid guid : ℕ) (held : SwitchState) → slice_get fabric.nodes place ≡ Some (Switch held) → guid_in routes.lids lid ≡ Some guid
      → held_entry held lid ≢ 255 → list_any (says lid) (rows_of tables) ≡ true
  all_say place lid guid held there named some =
      any_flat (says lid) (λ (table : Table). table.rows) tables
      ∙ any_flat (λ (table : Table). list_any (says lid) table.rows) (tables_for plan.nodes routes.lids) fabric.nodes
      ∙ any_by (λ (node : Node). list_any (λ (table : Table). list_any (says lid) table.rows) (tables_for plan.nodes routes.lids node)) fabric.nodes place (Switch held) there
      (one (list_any (says lid) (rows_from plan.nodes held 1 routes.lids)) (row_says held lid guid named some))
    where
      one : (b : Bool) → b ≡ true → b || false ≡ true
      one true is = refl
      one false is = absurd (false≢true is)

  pub said_there : (place lid guid : ℕ) (held : SwitchState) → slice_get fabric.nodes place ≡ Some (Switch held) → guid_in routes.lids lid ≡ Some guid
      → held_entry held lid ≢ 255 → end_of lid (rows_of tables) ≡ Some guid
  said_there place lid guid held there named some =
      let said = said_by lid (rows_of tables) (all_say place lid guid held there named some) in
      let reported = reported_of plan.nodes routes.lids lid (rows_of tables) said.0 (all_reported plan.nodes routes.lids fabric.nodes) said.1 in
      said.1 ∙ reported_sym said.0 reported
    where
      reported_sym : (other : ℕ) → guid_in routes.lids lid ≡ Some other → Some other ≡ Some guid
      reported_sym other reported = sym reported ∙ named

  low_lid : (lid : ℕ) (home : PortRef) → home_of routes.between.homes lid ≡ Some home → lid < 65536
  low_lid lid home is =
      let count : LINEAR_TABLE ≡ 512 = refl in
      omega (arith, count, few_homes routes up.home, slice_get_within routes.between.homes (lid - 1) home (home_there routes.between.homes lid home is))

  -- the switch that the port is attached at has an entry for its LID
  out_there : (place number lid : ℕ) → home_of routes.between.homes lid ≡ Some (port place number) → next_hop routes.between place lid ≡ Some number
  out_there place number lid is =
      ap (hop_to routes.between lid place) is
      ∙ ap (λ (b : Bool). if b then Some number else tie_towards routes.between lid place place) (eq-eqb place place refl)

  abbrev HasLid : PortRef → Type 0
  HasLid end = (lid : ℕ) × (lid < 65536) × (end_port_of (over plan (dump_of plan routes.lids fabric)) lid ≡ Some end)

  names_by : (end : PortRef) → is_end_port plan end ≡ true → (hung : Hung plan sound keys routes fabric up (port_guid_at plan.nodes end) end)
      → HasHome plan sound keys routes fabric up hung.hung.port_guid hung.hung.at → Holds plan keys routes fabric up hung.node hung.place → HasLid end
  names_by end ends hung home has =
      let lid = home.lid in
      let guid = port_guid_at plan.nodes end in
      let named : guid_in routes.lids lid ≡ Some guid = home.named ∙ ap (λ (g : ℕ). Some g) hung.guid_is in
      let attached : home_of routes.between.homes lid ≡ Some (port hung.place hung.number) =
      ap (λ (homes : List PortRef). home_of homes lid) up.home.of.homes_are ∙ home.is ∙ ap (λ (p : PortRef). Some p) hung.home in
      let hop = out_there hung.place hung.number lid attached in
      let low = (few plan sound routes.graph up.are.found.of hung.node hung.number end hung.cable).1 in
      let entry : held_entry has.held lid ≡ hung.number = has.entry_is lid ∙ ap (λ (o : Option ℕ). unwrap_or o 255) hop in
      let said = said_by lid (rows_of tables) (all_say hung.node lid guid has.held has.there named (λ top. omega (arith, top, entry, low))) in
      let reported = reported_of plan.nodes routes.lids lid (rows_of tables) said.0 (all_reported plan.nodes routes.lids fabric.nodes) said.1 in
      let same : said.0 ≡ guid = same_Some said.0 guid (sym reported ∙ named) in (
        lid,
        low_lid lid (port hung.place hung.number) attached,
        with_end_set plan sound keys routes fabric up lid guid end (said.1 ∙ ap (λ (g : ℕ). Some g) same) named (port_of_end plan sound end ends),
      )

  names : (end : PortRef) → is_switch_at plan.nodes end.node ≡ false → (near : PortRef) → far_end plan.cables end ≡ Some near → HasLid end
  names end adapter near cable =
      let back : far_end plan.cables near ≡ Some end = good_once (fabric_of plan) end near (good plan sound) cable in
      let is = is_end plan sound keys routes fabric up near end back adapter in
      let hung = adapter_hung plan sound keys routes fabric up end (planned_port plan end) is adapter in
      let switch = is_switch_there plan sound routes.graph up.are.found.of hung.node hung.place hung.stands in
      names_by end (planned plan end (planned_port plan end) is).ends hung (port_home_of plan sound keys routes fabric up hung.index hung.hung hung.has)
      (holds plan keys routes fabric up hung.node hung.place switch hung.stands)

pub it_names_each_port : ItNamesEachPort
it_names_each_port plan keys routes fabric end sound up adapter cabled =
    let far = far_of plan.cables end cabled in names plan sound keys routes fabric up end adapter far.0 far.1
