-- Of the dump of what the switches hold the audit says that routes are safe.
use Rattle.std.proofs.Common.{ℕ, suc, ◌≡◌, ◌≢◌, ◌==◌, ◌&&◌, ◌∙◌, not, ap, refl, sym, subst, Bool, true, false, if◌then◌else◌, List, [], ◌∷◌, flat_map, map, slice_get, is_some, Option, Some, None}
use Rattle.std.specs.List.{list_all}
use Rattle.std.specs.Option.{option_and_then}
use Rattle.std.proofs.lemmas.Bool.{and_from, and_parts, eq-eqb, eqb-false, eqb-true, false≢true, leb-true, not-true}
use Rattle.std.proofs.lemmas.Option.{none-some, same_Some}
use Rattle.dump_file.specs.declared.destination.Destination.TheVariants as destinations
use Rattle.dump_file.specs.declared.row.Row.{Row}
use Rattle.dump_file.specs.declared.table.Table.{Table}
use Rattle.fabric_parts.specs.Cable.{ends_at, far_end, is_same_port, other_end}
use Rattle.fabric_parts.specs.declared.cable.Cable.{Cable}
use Rattle.fabric_parts.specs.declared.cable.PortRef.{PortRef}
use Rattle.fabric_wire.proofs.OfTopologyGoodLemmas.{good}
use Rattle.fabric_wire.proofs.OfTopologyLemmas.{switch_there}
use Rattle.fabric_wire.specs.OfTopology.{fabric_of}
use Rattle.fabric_wire.specs.Recabling.{cabling_of}
use Rattle.lid_assign.specs.Lids.{guid_in}
use Rattle.step_results.proofs.ListLemmas.{all_there}
use Rattle.audit_loops.proofs.CycleLawLemmas.{no_cycle_is_missed}
use Rattle.audit_loops.proofs.GoingLemmas.{goes_leaves, next_known}
use Rattle.audit_plan.proofs.PlanLemmas.{host_is_no_switch}
use Rattle.audit_routes.proofs.LoopLemmas.{loop_anyhow}
use Rattle.audit_routes.proofs.SafeLemmas.{comes_there}
use Rattle.audit_routes.proofs.ReportedLemmas.{safe_routes_are_reported}
use Rattle.audit_routes.specs.Audit.{audit_of}
use Rattle.audit_routes.specs.Laws.{AreSafe, IsOfKind, NameTheSame, other_lids}
use Rattle.audit_net.specs.Laws.{GoesTo, IsUnknownAt}
use Rattle.audit_net.specs.OwnerLaws.{end_port_of}
use Rattle.audit_plan.specs.Plan.{ends_of, plan_of, port_of}
use Rattle.audit_routes.specs.Lines.{has_switch}
use Rattle.audit_net.specs.Net.{NetState, row_at, row_of, table_at, table_of}
use Rattle.smp_wire.specs.FabricState.{FabricState}
use Rattle.smp_wire.specs.declared.node.Node.{Node}
use Rattle.smp_wire.specs.declared.node.Node.TheVariants.{Switch, Adapter}
use Rattle.subnet_fabric.proofs.RecabledSoundLemmas.{what_is_up_is_sound}
use Rattle.subnet_fabric.specs.BringUp.{IsBroughtUpBy, root_guids}
use Rattle.subnet_fabric.specs.Recabled.{base_of, cleared, with_cables}
use Rattle.sweep.proofs.CabledLemmas.{far_of}
use Rattle.sweep.proofs.EndPortLemmas.{to_switch}
use Rattle.sweep.proofs.FoundLemmas.{any_by}
use Rattle.sweep.proofs.MetLemmas.{good_once}
use Rattle.switch_model.specs.SwitchState.{SwitchState}
use Rattle.table_push.specs.Nodes.{switch_by}
use Rattle.topo_file.specs.Node.{is_switch, is_switch_at, ports_at}
use Rattle.topo_file.specs.Sound.{IsSound, ends_at_ports, is_port}
use Rattle.topo_file.specs.Topology.{TopologyState}
use Rattle.topo_file.specs.declared.node.Node.{Node as PlannedNode}
use Rattle.updn_routes.specs.Subnet.{RoutesState}
use Rattle.fabric_loads.specs.HeldRows.{destination_of, held_entry, is_switchs, row_for}
use Rattle.joint_laws.specs.RouteLaws.{OwnRoutesAreSafe, RoutesAreSafeWithCablesDown, SomeSwitchCarriesAHost, over}
use Rattle.joint_laws.specs.OwnTables.{dump_of, table_for, tables_for}
use Rattle.joint_laws.proofs.DumpLemmas.{a_dump_shows_what_is_held, named_lid, planned_there, table_there}
use Rattle.joint_laws.proofs.EndLemmas.{has_end, planned}
use Rattle.joint_laws.proofs.FreeLemmas.{is_free}
use Rattle.joint_laws.proofs.GuidLemmas.{port_of_end}
use Rattle.joint_laws.proofs.HeldTableLemmas.{holds}
use Rattle.joint_laws.proofs.KindLemmas.{with_end_set, is_switchs_by, row_is}
use Rattle.joint_laws.proofs.NameLemmas.{it_names_each_port, said_there}
use Rattle.joint_laws.proofs.ReachLemmas.{reached}
use Rattle.joint_laws.proofs.ShownLemmas.{no_row}
use Rattle.joint_laws.proofs.StandLemmas.{place_for}
use Rattle.joint_laws.proofs.TurnLemmas.{leaves}
use Rattle.joint_laws.proofs.WayLemmas.{led}

-- ---- the far end of a cable is a port
far_port : (nodes : List PlannedNode) (cables : List Cable) (at there : PortRef) → list_all (ends_at_ports nodes) cables ≡ true → far_end cables at ≡ Some there
    → is_port nodes there ≡ true
far_port nodes [] at there all is = absurd (none-some there is)
far_port nodes (cable ∷ cables) at there all is =
    by (ends_at at cable) refl (and_parts (ends_at_ports nodes cable) _ all) (far_port nodes cables at there)
  where
    ends : (b : Bool) → (is_port nodes cable.first ≡ true) × (is_port nodes cable.second ≡ true) → is_port nodes (if b then cable.second else cable.first) ≡ true
    ends true both = both.1
    ends false both = both.0

    by : (b : Bool) → ends_at at cable ≡ b → (ends_at_ports nodes cable ≡ true) × (list_all (ends_at_ports nodes) cables ≡ true)
        → (list_all (ends_at_ports nodes) cables ≡ true → far_end cables at ≡ Some there → is_port nodes there ≡ true) → is_port nodes there ≡ true
    by true here both later =
        let found : Some (other_end at cable) ≡ Some there = rw here at is in
        subst (λ (p : PortRef). is_port nodes p ≡ true) (same_Some (other_end at cable) there found)
        (ends (is_same_port cable.first at) (and_parts (is_port nodes cable.first) _ both.0))
    by false other both later = later both.1 (rw other at is)

-- the SM port has a cable, to a switch
pub some_carries : SomeSwitchCarriesAHost
some_carries plan dump sound =
    let far = far_of plan.cables plan.sm sound.manager_cabled in
    let manager = not-true (is_switch_at plan.nodes plan.sm.node) (and_parts (not (is_switch_at plan.nodes plan.sm.node)) _ sound.manager_port).0 in
    let switch : is_switch_at plan.nodes far.0.node ≡ true =
    sym (switch_there plan.cables plan.nodes far.0.node)
    ∙ to_switch (fabric_of plan) plan.sm far.0 (good plan sound) (switch_there plan.cables plan.nodes plan.sm.node ∙ manager) far.1 in
    let within = and_parts _ _ (far_port plan.nodes plan.cables plan.sm far.0 sound.lines.ends far.1) in (
      far.0.node,
      record {
        switch = switch;
        number = far.0.port;
        low = leb-true 1 far.0.port within.0;
        high = leb-true far.0.port (ports_at plan.nodes far.0.node) within.1;
        at = plan.sm;
        cable = good_once (fabric_of plan) plan.sm far.0 (good plan sound) far.1;
        host = and_from (not (is_switch_at plan.nodes plan.sm.node)) true (ap not manager) refl;
      },
    )

module _ (plan : TopologyState) (sound : IsSound plan) (keys : List (List ℕ)) (routes : RoutesState) (fabric : FabricState)
    (up : IsBroughtUpBy plan keys routes fabric) where
  abbrev net : NetState
  net = over plan (dump_of plan routes.lids fabric)

  held_at : (place : ℕ) → is_switch_at plan.nodes place ≡ true → (held : SwitchState) × (slice_get fabric.nodes place ≡ Some (Switch held))
  held_at place switch =
      let at = place_for plan sound routes.graph up.are.found.of place switch in
      let has = holds plan keys routes fabric up place at.0 switch at.1 in
      (has.held, has.there)

  -- ---- each switch has a table, and each table is of a switch
  has_its_table : (place : ℕ) → is_switch_at plan.nodes place ≡ true → is_some (table_at net place) ≡ true
  has_its_table place switch =
      let held = held_at place switch in ap (λ (o : Option Table). is_some o) (table_there plan sound keys routes fabric up place held.0 held.1)

  of_switch : (k : ℕ) (held : SwitchState) → slice_get fabric.nodes k ≡ Some (Switch held) → has_switch held.node_guid plan.nodes ≡ true
  of_switch k held there =
      let one = planned_there plan sound keys routes fabric up k held there in
      any_by (λ (node : PlannedNode). is_switch node && (node.guid == held.node_guid)) plan.nodes k one.node one.there
      (and_from (is_switch one.node) _ one.switch (eq-eqb one.node.guid held.node_guid one.guid_is))

  all_known : (nodes : List Node) → ((k : ℕ) (held : SwitchState) → slice_get nodes k ≡ Some (Switch held) → has_switch held.node_guid plan.nodes ≡ true)
      → list_all (λ (table : Table). has_switch table.guid plan.nodes) (flat_map (tables_for plan.nodes routes.lids) nodes) ≡ true
  all_known [] each = refl
  all_known (Adapter ports ∷ nodes) each = all_known nodes (λ k held there. each (suc k) held there)
  all_known (Switch held ∷ nodes) each =
      and_from (has_switch held.node_guid plan.nodes) _ (each 0 held refl) (all_known nodes (λ k one there. each (suc k) one there))

  -- ---- each LID that has a row is that of an end port, of the kind that the row says
  kind_is : (lid guid : ℕ) (end : PortRef) (b : Bool) → is_switchs plan.nodes guid ≡ b → end_port_of net lid ≡ Some end → port_of (ends_of plan.nodes) guid ≡ Some end
      → IsOfKind net lid (if b then destinations.Switch guid else destinations.ChannelAdapter guid)
  kind_is lid guid end true is ends found = (end, ends, sym (is_switchs_by plan sound guid end found) ∙ is)
  kind_is lid guid end false is ends found = (end, ends, sym (is_switchs_by plan sound guid end found) ∙ is)

  row_kind : (place lid : ℕ) (row : Row) → is_switch_at plan.nodes place ≡ true → row_at net lid place ≡ Some row → IsOfKind net lid row.destination
  row_kind place lid row switch is = by (held_at place switch)
    where
      reported : (held : SwitchState) → slice_get fabric.nodes place ≡ Some (Switch held) → held_entry held lid ≢ 255 → (guid : ℕ)
          → guid_in routes.lids lid ≡ Some guid → IsOfKind net lid (destination_of plan.nodes guid)
      reported held there some guid named =
          let has = has_end plan sound keys routes fabric up lid guid named in
          let of = planned plan has.at has.end has.is in
          let found : port_of (ends_of plan.nodes) guid ≡ Some has.at = ap (port_of (ends_of plan.nodes)) (sym (of.guid_is ∙ has.guid_is)) ∙ port_of_end plan sound has.at of.ends in
          let said = said_there plan sound keys routes fabric up place lid guid held there named some in
          kind_is lid guid has.at (is_switchs plan.nodes guid) refl (with_end_set plan sound keys routes fabric up lid guid has.at said named found) found

      with_entry : (held : SwitchState) → slice_get fabric.nodes place ≡ Some (Switch held) → (some : held_entry held lid ≢ 255) → (guid : ℕ)
          → guid_in routes.lids lid ≡ Some guid → (held_entry held lid == 255) ≡ false → IsOfKind net lid row.destination
      with_entry held there some guid named entry =
          let row_there : row_at net lid place ≡ Some (row_for plan.nodes lid guid (held_entry held lid)) =
          row_is plan sound keys routes fabric up place lid guid held there named
          ∙ ap (λ (b : Bool). if b then None else Some (row_for plan.nodes lid guid (held_entry held lid))) entry in
          let same : row_for plan.nodes lid guid (held_entry held lid) ≡ row =
          same_Some (row_for plan.nodes lid guid (held_entry held lid)) row (sym row_there ∙ is) in
          subst (λ (one : Row). IsOfKind net lid one.destination) same (reported held there some guid named)

      by : (held : SwitchState) × (slice_get fabric.nodes place ≡ Some (Switch held)) → IsOfKind net lid row.destination
      by at = entry_by (held_entry at.0 lid == 255) refl
        where
          entry_by : (b : Bool) → (held_entry at.0 lid == 255) ≡ b → IsOfKind net lid row.destination
          entry_by false some =
              let lead = eqb-false (held_entry at.0 lid) 255 some in
              let named = named_lid plan sound keys routes fabric up place lid at.0 at.1 lead in
              with_entry at.0 at.1 lead named.0 named.1 some
          entry_by true none =
              absurd (none-some row
              (sym (ap (option_and_then (λ (table : Table). row_of lid table.rows)) (table_there plan sound keys routes fabric up place at.0 at.1)
              ∙ no_row plan.nodes routes.lids at.0 routes.lids 1 lid (eqb-true (held_entry at.0 lid) 255 none)) ∙ is))

  -- ---- where a switch sends a LID to another, the entry there is known
  held_some : (place lid : ℕ) (row : Row) (held : SwitchState) → slice_get fabric.nodes place ≡ Some (Switch held) → row_at net lid place ≡ Some row
      → held_entry held lid ≢ 255
  held_some place lid row held there is = by (held_entry held lid == 255) refl
    where
      by : (b : Bool) → (held_entry held lid == 255) ≡ b → held_entry held lid ≢ 255
      by false some = eqb-false (held_entry held lid) 255 some
      by true none =
          absurd (none-some row
          (sym (ap (option_and_then (λ (table : Table). row_of lid table.rows)) (table_there plan sound keys routes fabric up place held there)
          ∙ no_row plan.nodes routes.lids held routes.lids 1 lid (eqb-true (held_entry held lid) 255 none)) ∙ is))

  end_of_entry : (place lid : ℕ) (held : SwitchState) → slice_get fabric.nodes place ≡ Some (Switch held) → held_entry held lid ≢ 255
      → (end : PortRef) × (end_port_of net lid ≡ Some end)
  end_of_entry place lid held there some =
      let named = named_lid plan sound keys routes fabric up place lid held there some in
      let has = has_end plan sound keys routes fabric up lid named.0 named.1 in
      let of = planned plan has.at has.end has.is in
      let found : port_of (ends_of plan.nodes) named.0 ≡ Some has.at =
      ap (port_of (ends_of plan.nodes)) (sym (of.guid_is ∙ has.guid_is)) ∙ port_of_end plan sound has.at of.ends in
      let said = said_there plan sound keys routes fabric up place lid named.0 held there named.1 some in
      (has.at, with_end_set plan sound keys routes fabric up lid named.0 has.at said named.1 found)

  known : (place lid next : ℕ) → is_switch_at plan.nodes place ≡ true → GoesTo net lid place next → IsUnknownAt net lid next → ⊥
  known place lid next switch goes unknown =
      let out = goes_leaves net lid place next goes in
      let has = (leaves net place lid out.0 out.1).has in
      let row_there : row_at net lid place ≡ Some has.row = ap (option_and_then (λ (table : Table). row_of lid table.rows)) has.there ∙ has.found in
      let held = held_at place switch in
      let end = end_of_entry place lid held.0 held.1 (held_some place lid has.row held.0 held.1 row_there) in
      next_known net lid place next end.0
      (comes_there net place lid end.0
      (led plan sound keys routes fabric up (dump_of plan routes.lids fabric) (a_dump_shows_what_is_held plan keys routes fabric sound up) lid end.0 end.1
      place out.0 switch out.1)) goes unknown

  -- some switch has a table, so there is one
  no_table : (place : ℕ) → net.dump.tables ≡ [] → is_some (table_at net place) ≡ true → ⊥
  no_table place none some = false≢true (sym (ap is_some (nowhere (slice_get plan.nodes place))) ∙ some)
    where
      nowhere : (o : Option PlannedNode) → option_and_then (λ (node : PlannedNode). table_of node.guid net.dump.tables) o ≡ None
      nowhere None = refl
      nowhere (Some node) = ap (table_of node.guid) none

  same : NameTheSame net
  same = record {
    some = λ none. no_table (some_carries plan net.dump sound).0 none (has_its_table (some_carries plan net.dump sound).0 (some_carries plan net.dump sound).1.switch);
    tables = has_its_table;
    switches = λ k table there.
        all_there (λ (one : Table). has_switch one.guid plan.nodes) net.dump.tables k table (all_known fabric.nodes of_switch) there;
    ends = λ place lid row switch below is. row_kind place lid row switch is;
  }

  -- ---- so they are safe
  pub are_safe : AreSafe net
  are_safe = record {
    lead = record {
      named = λ end is. it_names_each_port plan keys routes fabric end sound up is.0 is.1;
      reached = λ place lid end carries below is host.
          comes_there net place lid end
          (reached plan sound keys routes fabric up (dump_of plan routes.lids fabric) (a_dump_shows_what_is_held plan keys routes fabric sound up) lid end is
          place carries (host_is_no_switch (plan_of plan) end.node host));
      same = same;
      known = λ place lid next switch there goes unknown. known place lid next switch goes unknown;
    };
    free = λ ring are loop.
        let none =
        no_cycle_is_missed net (other_lids net)
        (is_free plan sound keys routes fabric up (dump_of plan routes.lids fabric) (a_dump_shows_what_is_held plan keys routes fabric sound up) (other_lids net)) ring are in
        false≢true (sym none ∙ loop_anyhow net ring loop);
  }

pub own_routes_are_safe : OwnRoutesAreSafe
own_routes_are_safe plan keys routes fabric sound up =
    safe_routes_are_reported.reported (over plan (dump_of plan routes.lids fabric)) (are_safe plan sound keys routes fabric up)

-- ---- while cables are down the fabric is that of the topology without them, except masks, which the dump does not show
same_tables : (plan : TopologyState) (lids : List ℕ) (nodes : List Node)
    → flat_map (tables_for plan.nodes lids) (map (switch_by (λ guid. cleared)) nodes) ≡ flat_map (tables_for plan.nodes lids) nodes
same_tables plan lids [] = refl
same_tables plan lids (Adapter ports ∷ nodes) = same_tables plan lids nodes
same_tables plan lids (Switch held ∷ nodes) = ap (λ (rest : List Table). table_for plan.nodes lids held ∷ rest) (same_tables plan lids nodes)

pub routes_are_safe_with_cables_down : RoutesAreSafeWithCablesDown
routes_are_safe_with_cables_down plan keys routes fabric sound stands =
    let left = with_cables fabric.cables plan in
    let sound_too = what_is_up_is_sound plan (cabling_of fabric) (root_guids plan) keys routes fabric sound stands.up in
    let safe = own_routes_are_safe left keys routes (base_of fabric) sound_too stands.up.set_up in
    let tables = same_tables plan routes.lids fabric.nodes in
    subst (λ (some : List Table). (audit_of false (over left (record { tables = some }))).is_safe ≡ true) tables safe
