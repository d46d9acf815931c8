-- The LFTs of a fabric that is brought up are read back as what its switches hold.
use Rattle.std.proofs.Common.{ℕ, zero, suc, ◌≡◌, ◌≢◌, ◌+◌, ◌<◌, ◌≤◌, ◌==◌, ◌&&◌, ◌∙◌, nat_le, ap, refl, sym, subst, Bool, true, false, if◌then◌else◌, List, [], ◌∷◌, ◌++◌, drop, find, length, map, slice_get, Option, Some, None, option_map, arith}
use Rattle.std.specs.List.{AllByRecursion, IsDistinct, enumerate_from}
use Rattle.std.specs.Option.{option_and_then, option_map_or}
use Rattle.std.proofs.lemmas.Bool.{and_parts, eq-eqb, eqb-false, eqb-true, false≢true, le-leb, leb-true, ne_eqb}
use Rattle.std.proofs.lemmas.List.FromFn.{length-map-range_with_len}
use Rattle.std.proofs.lemmas.Map.Keys.{IsDistinct-tail}
use Rattle.std.proofs.lemmas.Option.{none-some, same_Some, slice_get-get_or}
use Rattle.agent_rules.specs.declared.power_up.TheConstants.{LINEAR_TABLE}
use Rattle.dump_file.specs.Dump.{DumpState}
use Rattle.dump_file.specs.Table.{rows_of}
use Rattle.dump_file.specs.declared.destination.Destination.{Destination}
use Rattle.dump_file.specs.declared.destination.Destination.TheVariants as destinations
use Rattle.dump_file.specs.declared.row.Row.{Row}
use Rattle.dump_file.specs.declared.table.Table.{Table}
use Rattle.fabric_parts.specs.Cable.{far_end, is_cabled, port}
use Rattle.fabric_parts.specs.declared.cable.PortRef.{PortRef}
use Rattle.fabric_parts.specs.declared.node_type.NodeType.{NodeType}
use Rattle.fabric_tables.specs.Tables.{port_towards}
use Rattle.lid_assign.specs.Lids.{guid_in}
use Rattle.fabric_loads.specs.HeldRows.{destination_of, held_entry, row_for, row_if, rows_from}
use Rattle.fabric_loads.proofs.RowLemmas.{IsReported, reported_of}
use Rattle.joint_laws.proofs.DumpLemmas.{planned_there}
use Rattle.joint_laws.proofs.EndLemmas.{has_end, planned}
use Rattle.joint_laws.proofs.GuidLemmas.{port_of_end}
use Rattle.joint_laws.proofs.KindLemmas.{is_switchs_by}
use Rattle.joint_laws.proofs.PassLemmas.{own_routes_pass}
use Rattle.joint_laws.proofs.ShownLemmas.{table_is}
use Rattle.joint_laws.specs.RouteLaws.{over}
use Rattle.joint_laws.specs.OwnTables.{dump_of as own_tables}
use Rattle.partition_file.specs.declared.partition.Partition.{Partition}
use Rattle.audit_net.specs.declared.entry.Entry.{Entry}
use Rattle.audit_net.specs.declared.entry.Entry.TheVariants.{Out, Missing, Unreported}
use Rattle.audit_net.specs.declared.following.Fate.TheVariants as fates
use Rattle.audit_net.specs.declared.following.Turn.{Turn}
use Rattle.audit_net.specs.declared.following.Turn.TheVariants as turns
use Rattle.audit_loops.specs.Channels.{is_out}
use Rattle.audit_net.specs.Following.{end_within, fate_by, switch_total, then_end, turn_by, turn_to}
use Rattle.audit_net.specs.OwnerLaws.{end_port_of}
use Rattle.audit_net.specs.Net.{NetState, entry, table_of}
use Rattle.audit_routes.specs.Pairs.{is_fate}
use Rattle.audit_plan.specs.Plan.{ends_of, port_of}
use Rattle.smp_wire.proofs.CableLemmas.{cabled_is_port}
use Rattle.smp_wire.proofs.PresentLemmas.{present_right}
use Rattle.smp_wire.specs.FabricState.{FabricState, is_port, port_count}
use Rattle.smp_wire.specs.declared.node.Node.{Node}
use Rattle.smp_wire.specs.declared.node.Node.TheVariants.{Switch}
use Rattle.step_results.proofs.DistinctLemmas.{none_shares}
use Rattle.step_results.proofs.ElementLemmas.{each_joined}
use Rattle.subnet_fabric.specs.BringUp.{IsBroughtUpBy}
use Rattle.subnet_model.specs.Configured.{same_guid}
use Rattle.subnet_model.specs.declared.subnet_port.SubnetPort.{SubnetPort}
use Rattle.subnet_fabric.specs.EndPorts.{IsEndPort, is_end_port}
use Rattle.subnet_fabric.specs.Ports.{ports_of, type_of}
use Rattle.sweep.proofs.FoundLemmas.{any_at, any_by}
use Rattle.switch_model.specs.SwitchState.{SwitchState, num_ports}
use Rattle.table_push.specs.Linear.{linear_entry}
use Rattle.topo_file.specs.Node.{is_switch, is_switch_at, name_at, place_of, port_guid_at}
use Rattle.topo_file.specs.Sound.{IsSound, is_port as is_planned_port}
use Rattle.topo_file.specs.Topology.{TopologyState}
use Rattle.topo_file.specs.declared.node.Node.{Node as PlannedNode}
use Rattle.updn_routes.specs.Subnet.{RoutesState}
use Rattle.joint_laws.specs.Held.{HasOwnRows, HasRows, ShowsAll}
use Rattle.joint_laws.proofs.AlikeLemmas.{named_port}
use Rattle.joint_laws.proofs.HeldPairLemmas.{port_shown}
use Rattle.joint_laws.proofs.LineLemmas.{destination_by}
use Rattle.joint_laws.proofs.OwnPortLemmas.{all_ends, all_fit, brought, ends, few_lids, few_ports, lid_low, numbered, place_named, rise, switch_few}
use Rattle.joint_laws.proofs.OwnRowLemmas.{own_rows, shows_all}
use Rattle.joint_laws.proofs.ReadLemmas.{Fits, row_by, row_towards, rows_towards}
use Rattle.joint_laws.proofs.LoadTableLemmas.{line_behind, switch_in, switch_of, table_by, tables_from, then_tables, towards_reported}

-- ---- a packet that comes to the port of its LID does not leave by a port without a cable
out_named : (e : ℕ) (one : Entry) → named_port one ≡ Some e → one ≡ Out e
out_named e (Out number) is = ap (λ (n : ℕ). Out n) (same_Some number e is)
out_named e Missing is = absurd (none-some e is)
out_named e Unreported is = absurd (none-some e is)

nowhere_lost : (net : NetState) (lid place number : ℕ) (end : PortRef) (count : ℕ) → turn_by net place (entry net lid place) ≡ turns.Nowhere number
    → is_fate fates.Reached (fate_by end (end_within net lid count place)) ≡ false
nowhere_lost net lid place number end zero is = refl
nowhere_lost net lid place number end (suc count) is =
    ap (λ (turned : Turn). is_fate fates.Reached (fate_by end (then_end (λ next. end_within net lid count next) turned))) is

reached_cabled : (net : NetState) (lid place e : ℕ) (end : PortRef) → entry net lid place ≡ Out e → (e == 0) ≡ false
    → (is_fate fates.Reached (fate_by end (end_within net lid (switch_total net) place)) && true) ≡ true
    → (there : PortRef) × (far_end net.plan.cables (port place e) ≡ Some there)
reached_cabled net lid place e end is some reached = by (far_end net.plan.cables (port place e)) refl
  where
    by : (o : Option PortRef) → far_end net.plan.cables (port place e) ≡ o → (there : PortRef) × (far_end net.plan.cables (port place e) ≡ Some there)
    by (Some there) cable = (there, cable)
    by None cable =
        let turned : turn_by net place (entry net lid place) ≡ turns.Nowhere e =
        ap (turn_by net place) is ∙ ap (λ (b : Bool). if b then turns.Arrives (port place 0) else turn_to net e (far_end net.plan.cables (port place e))) some
        ∙ ap (turn_to net e) cable in
        absurd (false≢true (sym (ap (λ (b : Bool). b && true) (nowhere_lost net lid place e end (switch_total net) turned)) ∙ reached))

-- ---- the kind of an end port
kind_is : (b : Bool) (guid : ℕ) → destination_by (type_of b) guid ≡ (if b then destinations.Switch guid else destinations.ChannelAdapter guid)
kind_is true guid = refl
kind_is false guid = refl

-- ---- the table of an end port
record HasTable (ports : List SubnetPort) (guid : ℕ) (held : SwitchState) (tables : List Table) : Type 0 where
  table : Table
  found : find (λ one. guid == one.guid) tables ≡ Some table
  rows : table.rows ≡ rows_towards held ports
  top : table.top ≡ held.info.linear_fdb_top

has_table : (nodes : List PlannedNode) (fabric : FabricState) (ports some : List SubnetPort) (number k : ℕ) (one : SubnetPort) (held : SwitchState)
    → IsDistinct same_guid some → slice_get some k ≡ Some one → switch_of nodes fabric one ≡ Some held
    → HasTable ports one.guid held (tables_from nodes fabric ports some number)
has_table nodes fabric ports [] number k one held own there is = absurd (none-some one there)
has_table nodes fabric ports (first ∷ some) number zero one held own there is =
    subst (HasTable ports one.guid held) (sym tables_are) (record {
      table = table_by number ports first held;
      found =
          ap (λ (b : Bool). if b then Some (table_by number ports first held) else find (λ table. one.guid == table.guid)
          (tables_from nodes fabric ports some (line_behind number ports held)))
          (eq-eqb one.guid first.guid (ap (λ (p : SubnetPort). p.guid) (sym same)));
      rows = refl;
      top = refl;
    })
  where
    same : first ≡ one
    same = same_Some first one there

    tables_are : tables_from nodes fabric ports (first ∷ some) number ≡ table_by number ports first held ∷ tables_from nodes fabric ports some
        (line_behind number ports held)
    tables_are =
        ap (λ (o : Option SwitchState). then_tables (tables_from nodes fabric ports some) ports number first o) (ap (switch_of nodes fabric) same ∙ is)
has_table nodes fabric ports (first ∷ some) number (suc k) one held own there is =
    by (switch_of nodes fabric first) (has_table nodes fabric ports some number k one held (IsDistinct-tail same_guid first some own) there is)
    (λ line. has_table nodes fabric ports some line k one held (IsDistinct-tail same_guid first some own) there is)
  where
    apart : (one.guid == first.guid) ≡ false
    apart =
        ne_eqb one.guid first.guid (λ same.
        false≢true (sym (none_shares same_guid first some own) ∙ any_by (same_guid first) some k one there (eq-eqb first.guid one.guid (sym same))))

    by : (o : Option SwitchState) → HasTable ports one.guid held (tables_from nodes fabric ports some number)
        → ((line : ℕ) → HasTable ports one.guid held (tables_from nodes fabric ports some line))
        → HasTable ports one.guid held (then_tables (tables_from nodes fabric ports some) ports number first o)
    by None none later = none
    by (Some other) none later =
        let has = later (line_behind number ports other) in
        record {
          table = has.table;
          found =
              ap (λ (b : Bool). if b then Some (table_by number ports first other) else find (λ table. one.guid == table.guid)
              (tables_from nodes fabric ports some (line_behind number ports other)))
              apart ∙ has.found;
          rows = has.rows;
          top = has.top;
        }

tables_reported : (lids : List ℕ) (nodes : List PlannedNode) (fabric : FabricState) (ports some : List SubnetPort) (number : ℕ)
    → ((held : SwitchState) → AllByRecursion (IsReported lids) (rows_towards held ports))
    → AllByRecursion (IsReported lids) (rows_of (tables_from nodes fabric ports some number))
tables_reported lids nodes fabric ports [] number each = tt
tables_reported lids nodes fabric ports (first ∷ some) number each =
    by (switch_of nodes fabric first) (tables_reported lids nodes fabric ports some number each)
    (λ line. tables_reported lids nodes fabric ports some line each)
  where
    by : (o : Option SwitchState) → AllByRecursion (IsReported lids) (rows_of (tables_from nodes fabric ports some number))
        → ((line : ℕ) → AllByRecursion (IsReported lids) (rows_of (tables_from nodes fabric ports some line)))
        → AllByRecursion (IsReported lids) (rows_of (then_tables (tables_from nodes fabric ports some) ports number first o))
    by None none later = none
    by (Some held) none later =
        each_joined (IsReported lids) (rows_towards held ports) (rows_of (tables_from nodes fabric ports some (line_behind number ports held))) (each held)
        (later (line_behind number ports held))

module _ (partitions : List Partition) (plan : TopologyState) (sound : IsSound plan) (keys : List (List ℕ)) (routes : RoutesState) (fabric : FabricState)
    (up : IsBroughtUpBy plan keys routes fabric) where
  abbrev ports : List SubnetPort
  ports = ports_of partitions plan

  abbrev net : NetState
  net = over plan (own_tables plan routes.lids fabric)

  -- ---- an entry is a port of the switch
  entry_low : (place lid guid : ℕ) (held : SwitchState) → slice_get fabric.nodes place ≡ Some (Switch held) → guid_in routes.lids lid ≡ Some guid
      → held_entry held lid ≢ 255 → held_entry held lid ≤ num_ports held
  entry_low place lid guid held there named some = by (held_entry held lid == 0) refl
    where
      shown : ShowsAll net routes.lids fabric
      shown = shows_all plan sound keys routes fabric up (own_tables plan routes.lids fabric) (own_rows plan sound keys routes fabric up)

      entry_is : entry net lid place ≡ Out (held_entry held lid)
      entry_is =
          out_named (held_entry held lid) (entry net lid place)
          (port_shown plan routes.lids fabric (own_tables plan routes.lids fabric) shown.entries lid place held there
          ∙ ap (λ (b : Bool). if b then None else Some (held_entry held lid)) (ne_eqb (held_entry held lid) 255 some))

      switch : is_switch_at plan.nodes place ≡ true
      switch =
          let one = planned_there plan sound keys routes fabric up place held there in
          ap (λ (o : Option PlannedNode). option_map_or is_switch o false) one.there ∙ one.switch

      by : (b : Bool) → (held_entry held lid == 0) ≡ b → held_entry held lid ≤ num_ports held
      by true none = let e = eqb-true (held_entry held lid) 0 none in omega (arith, e)
      by false other =
          let has = has_end plan sound keys routes fabric up lid guid named in
          let of = planned plan has.at has.end has.is in
          let end_is : end_port_of net lid ≡ Some has.at =
          shown.ends lid guid named ∙ ap (port_of (ends_of plan.nodes)) (sym (of.guid_is ∙ has.guid_is)) ∙ port_of_end plan sound has.at of.ends in
          let out : is_out (held_entry held lid) (entry net lid place) ≡ true =
          ap (is_out (held_entry held lid)) entry_is ∙ eq-eqb (held_entry held lid) (held_entry held lid) refl in
          let comes =
          (own_routes_pass plan keys routes fabric (own_tables plan routes.lids fabric) sound up shown.entries).led place lid
          (held_entry held lid) has.at switch end_is out in
          let cable = reached_cabled net lid place (held_entry held lid) has.at entry_is other comes in
          let cable_too : far_end fabric.cables (port place (held_entry held lid)) ≡ Some cable.0 =
          ap (λ (one : FabricState). far_end one.cables (port place (held_entry held lid))) up.is ∙ cable.1 in
          let good = (brought partitions plan sound keys routes fabric up).good in
          let within : is_port fabric.nodes (port place (held_entry held lid)) ≡ true =
          cabled_is_port fabric.nodes fabric.cables (port place (held_entry held lid)) cable.0 (present_right good) cable_too in
          leb-true (held_entry held lid) (num_ports held)
          (sym (ap (λ (o : Option Node). nat_le (held_entry held lid) (option_map_or port_count o 0)) there)
          ∙ (and_parts (nat_le 1 (held_entry held lid)) _ within).1)

  -- what is printed of a LID is what the switch holds
  towards_is : (place lid guid : ℕ) (held : SwitchState) → slice_get fabric.nodes place ≡ Some (Switch held) → guid_in routes.lids lid ≡ Some guid
      → port_towards held lid ≡ (if held_entry held lid == 255 then None else Some (held_entry held lid))
  towards_is place lid guid held there named =
      let low = lid_low partitions plan sound keys routes fabric up lid guid named in
      let few = few_lids partitions plan sound keys routes fabric up in
      let has = (brought partitions plan sound keys routes fabric up).tables place held there in
      let top = has.1 in
      let long : length held.linear ≡ LINEAR_TABLE =
      ap (λ (linear : List ℕ). length linear) has.0.table ∙ length-map-range_with_len (linear_entry routes has.0.place) 0 LINEAR_TABLE in
      let size : LINEAR_TABLE ≡ 512 = refl in
      let counts : nat_le lid held.info.linear_fdb_top ≡ true = le-leb lid held.info.linear_fdb_top (omega (arith, top, low.1)) in
      ap (λ (b : Bool). option_and_then (λ e. if nat_le e (num_ports held) then Some e else None) (if b then slice_get held.linear lid else None)) counts
      ∙ ap (option_and_then (λ e. if nat_le e (num_ports held) then Some e else None))
      (slice_get-get_or held.linear lid 255 (omega (arith, low.1, few, long, size)))
      ∙ by (held_entry held lid == 255) refl
    where
      by : (b : Bool) → (held_entry held lid == 255) ≡ b
          → (if nat_le (held_entry held lid) (num_ports held) then Some (held_entry held lid) else None) ≡ (if b then None else Some (held_entry held lid))
      by true none =
          let e = eqb-true (held_entry held lid) 255 none in
          let few = switch_few partitions plan sound keys routes fabric up place held there in
          ap (λ (b : Bool). if b then Some (held_entry held lid) else None) (past (nat_le (held_entry held lid) (num_ports held)) refl (omega (arith, e, few)))
        where
          past : (b : Bool) → nat_le (held_entry held lid) (num_ports held) ≡ b → num_ports held < held_entry held lid
              → nat_le (held_entry held lid) (num_ports held) ≡ false
          past false is less = is
          past true is less = let low = leb-true (held_entry held lid) (num_ports held) is in absurd (omega (arith, low, less))
      by false some =
          ap (λ (b : Bool). if b then Some (held_entry held lid) else None)
          (le-leb (held_entry held lid) (num_ports held) (entry_low place lid guid held there named (eqb-false (held_entry held lid) 255 some)))

  -- ---- the rows of a switch
  destination_is : (one : SubnetPort) → IsEndPort partitions plan one → destination_by one.node_type one.guid ≡ destination_of plan.nodes one.guid
  destination_is one is =
      let end : port_of (ends_of plan.nodes) one.guid ≡ Some is.at = ap (port_of (ends_of plan.nodes)) is.guid ∙ port_of_end plan sound is.at is.there in
      ap (λ (of : NodeType). destination_by of one.guid) is.node_type ∙ kind_is (is_switch_at plan.nodes is.at.node) one.guid
      ∙ ap (λ (b : Bool). if b then destinations.Switch one.guid else destinations.ChannelAdapter one.guid) (sym (is_switchs_by plan sound one.guid is.at end))

  one_row : (place : ℕ) (held : SwitchState) (one : SubnetPort) → slice_get fabric.nodes place ≡ Some (Switch held) → IsEndPort partitions plan one
      → Fits routes.lids one
      → row_towards held one ≡ row_if plan.nodes one.lid one.guid (held_entry held one.lid)
  one_row place held one there is fits =
      ap (λ (o : Option ℕ). option_map_or (λ e. row_by one e ∷ []) o []) (towards_is place one.lid one.guid held there fits.named)
      ∙ by (held_entry held one.lid == 255)
    where
      by : (b : Bool) → option_map_or (λ e. row_by one e ∷ []) (if b then None else Some (held_entry held one.lid)) []
          ≡ (if b then [] else row_for plan.nodes one.lid one.guid (held_entry held one.lid) ∷ [])
      by true = refl
      by false =
          ap (λ (said : Destination). (record { lid = one.lid; port = held_entry held one.lid; destination = said }) ∷ []) (destination_is one is)

  rows_are : (place : ℕ) (held : SwitchState) (some : List SubnetPort) (first : ℕ) (guids : List ℕ) → slice_get fabric.nodes place ≡ Some (Switch held)
      → AllByRecursion (IsEndPort partitions plan) some → AllByRecursion (Fits routes.lids) some
      → map (λ (one : SubnetPort). (one.lid, one.guid)) some ≡ enumerate_from first guids
      → rows_towards held some ≡ rows_from plan.nodes held first guids
  rows_are place held [] first [] there are fit is = refl
  rows_are place held [] first (guid ∷ guids) there are fit is =
      absurd (none-some (first, guid) (ap (λ (pairs : List (ℕ × ℕ)). slice_get pairs 0) is))
  rows_are place held (one ∷ some) first [] there are fit is =
      absurd (none-some (one.lid, one.guid) (sym (ap (λ (pairs : List (ℕ × ℕ)). slice_get pairs 0) is)))
  rows_are place held (one ∷ some) first (guid ∷ guids) there are fit is =
      let head : (one.lid, one.guid) ≡ (first, guid) = same_Some (one.lid, one.guid) (first, guid) (ap (λ (pairs : List (ℕ × ℕ)). slice_get pairs 0) is) in
      let rest = rows_are place held some (first + 1) guids there are.1 fit.1 (ap (λ (pairs : List (ℕ × ℕ)). drop 1 pairs) is) in
      ap (λ (rows : List Row). rows ++ rows_towards held some) (one_row place held one there are.0 fit.0)
      ∙ ap (λ (pair : ℕ × ℕ). row_if plan.nodes pair.0 pair.1 (held_entry held pair.0) ++ rows_towards held some) head
      ∙ ap (λ (rows : List Row). row_if plan.nodes first guid (held_entry held first) ++ rows) rest

  -- ---- the end port of a switch
  record IsListed (place : ℕ) (held : SwitchState) (guid : ℕ) : Type 0 where
    k : ℕ
    one : SubnetPort
    there : slice_get ports k ≡ Some one
    guid_is : one.guid ≡ guid
    switch : switch_of plan.nodes fabric one ≡ Some held

  end_of_list : (k : ℕ) (some : List SubnetPort) (one : SubnetPort) → AllByRecursion (IsEndPort partitions plan) some → slice_get some k ≡ Some one
      → IsEndPort partitions plan one
  end_of_list k [] one all there = absurd (none-some one there)
  end_of_list zero (first ∷ some) one all there = subst (IsEndPort partitions plan) (same_Some first one there) all.0
  end_of_list (suc k) (first ∷ some) one all there = end_of_list k some one all.1 there

  listed : (place : ℕ) (held : SwitchState) (node : PlannedNode) → slice_get fabric.nodes place ≡ Some (Switch held) → slice_get plan.nodes place ≡ Some node
      → is_switch node ≡ true → IsListed place held node.guid
  listed place held node there planned_node switch =
      let at = port place 0 in
      let switch_there : is_switch_at plan.nodes place ≡ true = ap (λ (o : Option PlannedNode). option_map_or is_switch o false) planned_node ∙ switch in
      let is_end : is_end_port plan at ≡ true =
      ap (λ (b : Bool). if b then 0 == 0 else is_planned_port plan.nodes at && is_cabled plan.cables at) switch_there in
      let found =
      any_at (λ (one : SubnetPort). one.guid == port_guid_at plan.nodes at) ports ((ends partitions plan sound keys routes fabric up).all at is_end) in
      let one = found.one in
      let is = end_of_list found.place ports one (all_ends partitions plan sound keys routes fabric up) found.there in
      let guid : one.guid ≡ port_guid_at plan.nodes at = eqb-true one.guid (port_guid_at plan.nodes at) found.passes in
      let at_is : is.at ≡ at =
      same_Some is.at at (sym (port_of_end plan sound is.at is.there) ∙ ap (port_of (ends_of plan.nodes))
      (sym is.guid ∙ guid) ∙ port_of_end plan sound at is_end) in
      let name : one.node_name ≡ node.name =
      is.node_name ∙ ap (λ (p : PortRef). name_at plan.nodes p.node) at_is
      ∙ ap (λ (o : Option PlannedNode). option_map_or (λ (n : PlannedNode). n.name) o []) planned_node in
      let found_place : place_of one.node_name plan.nodes ≡ Some place =
      ap (λ (text : List ℕ). place_of text plan.nodes) name ∙ place_named plan.nodes place node sound.lines.own_names planned_node in
      let none_more : node.guid + 0 ≡ node.guid = omega arith in
      record {
        k = found.place;
        one = one;
        there = found.there;
        guid_is = guid ∙ ap (λ (o : Option PlannedNode). option_map_or (λ (n : PlannedNode). n.guid + 0) o 0) planned_node ∙ none_more;
        switch = ap (λ (o : Option ℕ). switch_in (option_and_then (λ k. option_map (λ one. (k, one)) (slice_get fabric.nodes k)) o)) found_place
            ∙ ap (λ (o : Option Node). switch_in (option_map (λ one. (place, one)) o)) there;
      }

  -- ---- the dump
  abbrev pub read : DumpState
  read = record { tables = tables_from plan.nodes fabric ports ports 1 }

  table_there : (place : ℕ) (held : SwitchState) → slice_get fabric.nodes place ≡ Some (Switch held) → HasRows plan routes.lids read place held
  table_there place held there =
      let planned_node = planned_there plan sound keys routes fabric up place held there in
      let in_list = listed place held planned_node.node there planned_node.there planned_node.switch in
      let has =
      has_table plan.nodes fabric ports ports 1 in_list.k in_list.one held
      (ends partitions plan sound keys routes fabric up).own_guids in_list.there in_list.switch in
      record {
        table = has.table;
        there = ap (λ (o : Option PlannedNode). option_and_then (λ (node : PlannedNode). table_of node.guid read.tables) o) planned_node.there
            ∙ ap (λ (guid : ℕ). table_of guid read.tables) (sym in_list.guid_is) ∙ table_is in_list.one.guid read.tables ∙ has.found;
        rows = has.rows ∙ rows_are place held ports 1 routes.lids there (all_ends partitions plan sound keys routes fabric up)
            (all_fit partitions plan sound keys routes fabric up) (numbered partitions plan sound keys routes fabric up);
        top = has.top ∙ ((brought partitions plan sound keys routes fabric up).tables place held there).1;
      }

  reported : AllByRecursion (IsReported routes.lids) (rows_of read.tables)
  reported =
      tables_reported routes.lids plan.nodes fabric ports ports 1
      (λ held.
      towards_reported routes.lids routes.graph.switches ports (all_fit partitions plan sound keys routes fabric up)
      (rise partitions plan sound keys routes fabric up)
      (few_ports partitions plan sound keys routes fabric up) held ports (all_fit partitions plan sound keys routes fabric up))

  pub own_rows_read : HasOwnRows plan routes.lids fabric read
  own_rows_read = record {
    tables = table_there;
    ends = λ lid guid said. reported_of plan.nodes routes.lids lid (rows_of read.tables) guid reported said;
  }
