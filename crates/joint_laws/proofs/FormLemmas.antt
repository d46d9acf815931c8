-- What `fabric tables` prints is read back, and so the two forms of `fabric load` agree.
use Rattle.std.proofs.Common.{ℕ, suc, ◌≡◌, ◌==◌, ◌∙◌, ap, refl, sym, Bool, true, false, not, if◌then◌else◌, List, [], ◌∷◌, ◌++◌, flat_map, length, slice_get, append-nil, Option, Some, None, option_map, Result, Ok, Err, arith}
use Rattle.std.specs.List.{AllByRecursion, IsDistinct, range_with_len}
use Rattle.std.specs.Option.{option_and_then, option_map_or}
use Rattle.std.proofs.lemmas.Bool.{ne_eqb}
use Rattle.std.proofs.lemmas.Option.{none-some, slice_get-map}
use Rattle.audit_loads.specs.Talk.{may_talk}
use Rattle.audit_loads.specs.Text.{load_of_plan}
use Rattle.dump_file.specs.Dump.{DraftState, DumpState, after_line, dump_of, whole}
use Rattle.dump_file.specs.Sound.{shares_switch}
use Rattle.dump_file.specs.Table.{latest}
use Rattle.dump_file.specs.declared.fault.DumpCause.{DumpCause}
use Rattle.dump_file.specs.declared.fault.DumpCause.TheVariants.{Unfinished}
use Rattle.fabric_parts.specs.declared.cable.Cable.{Cable}
use Rattle.fabric_parts.specs.declared.cable.PortRef.{PortRef}
use Rattle.fabric_wire.specs.Recabling.{cabling_of}
use Rattle.dump_file.specs.declared.row.Row.{Row}
use Rattle.dump_file.specs.declared.table.Table.{Table}
use Rattle.fabric_tables.specs.Multicast.{multicast_tables, tables_text}
use Rattle.fabric_tables.specs.Tables.{head_line, port_table, table_of}
use Rattle.fabric_loads.specs.HeldRows.{rows_from}
use Rattle.fabric_loads.specs.OwnDump.{own_dump, own_table, own_table_at}
use Rattle.fabric_loads.specs.OwnLoads.{over_cables_up}
use Rattle.joint_laws.proofs.SafeLemmas.{some_carries}
use Rattle.partition_file.specs.declared.partition.Partition.{Partition}
use Rattle.audit_net.specs.declared.entry.Entry.TheVariants.{Unreported}
use Rattle.audit_net.specs.Net.{entry, entry_in, table_of as table_of_guid}
use Rattle.audit_plan.specs.Plan.{plan_of}
use Rattle.smp_wire.specs.FabricState.{FabricState}
use Rattle.smp_wire.specs.declared.node.Node.{Node}
use Rattle.smp_wire.specs.declared.node.Node.TheVariants.{Switch, Adapter}
use Rattle.step_results.specs.AtLine.{AtLine, after_lines}
use Rattle.step_results.specs.Steps.{◌>>=◌}
use Rattle.subnet_fabric.proofs.RecabledNodeLemmas.{cabled_same}
use Rattle.subnet_fabric.proofs.RecabledSoundLemmas.{what_is_up_is_sound}
use Rattle.subnet_fabric.proofs.StandingListedLemmas.{ports_stay}
use Rattle.subnet_fabric.specs.BringUp.{IsBroughtUpBy, root_guids}
use Rattle.subnet_fabric.specs.Standing.{IsStanding}
use Rattle.subnet_fabric.specs.Recabled.{base_of, cleared, with_cables}
use Rattle.subnet_model.specs.declared.subnet_port.SubnetPort.{SubnetPort}
use Rattle.subnet_fabric.specs.Ports.{ports_of}
use Rattle.sweep.specs.declared.graph.GraphSwitch.{GraphSwitch}
use Rattle.switch_model.specs.SwitchState.{SwitchState}
use Rattle.table_push.specs.Nodes.{switch_by}
use Rattle.text_words.specs.Lines.{lines}
use Rattle.topo_file.specs.Node.{is_switch_at, place_of, ports_at}
use Rattle.topo_file.specs.Sound.{IsSound}
use Rattle.topo_file.specs.Topology.{TopologyState}
use Rattle.topo_file.specs.declared.node.Node.{Node as PlannedNode}
use Rattle.updn_routes.specs.Subnet.{RoutesState}
use Rattle.step_results.proofs.ListLemmas.{IsDistinct-nil}
use Rattle.dump_file.proofs.LatestLemmas.{all_latest_own}
use Rattle.joint_laws.specs.Held.{HasOwnRows}
use Rattle.joint_laws.proofs.MulticastLemmas.{all_passed}
use Rattle.joint_laws.proofs.OwnPortLemmas.{all_fit, ends, few_ports, held_fits, rise}
use Rattle.joint_laws.proofs.OwnRowLemmas.{held_there, kept_up, own_is, own_rows, shows_all}
use Rattle.joint_laws.proofs.ReadBackLemmas.{own_rows_read, read}
use Rattle.joint_laws.proofs.ReadLemmas.{Fits}
use Rattle.joint_laws.proofs.StepLemmas.{between_tables}
use Rattle.joint_laws.proofs.LoadTableLemmas.{all_tables, line_from, tables_own}
use Rattle.joint_laws.proofs.TextLemmas.{is_one_line}
use Rattle.joint_laws.specs.RouteLaws.{over}
use Rattle.joint_laws.specs.OwnTables.{dump_of as own_tables}
use Rattle.joint_laws.specs.Alike.{AreAlike}
use Rattle.joint_laws.specs.LoadLaws.{NoLinkIsLeftOut, TablesAreReadBack, TheFormsAgree, printed}
use Rattle.joint_laws.proofs.AlikeLemmas.{loads_are_of_entries}
use Rattle.joint_laws.proofs.HeldPairLemmas.{one_end}

-- ---- masks make no difference to LFTs
rows_alike : (nodes : List PlannedNode) (held : SwitchState) (first : ℕ) (guids : List ℕ)
    → rows_from nodes (cleared held) first guids ≡ rows_from nodes held first guids
rows_alike nodes held first guids = refl

linear_alike : (nodes : List PlannedNode) (fabric : FabricState) (switches : List GraphSwitch) (ports some : List SubnetPort)
    → flat_map (port_table nodes fabric switches ports) some ≡ flat_map (port_table nodes (base_of fabric) switches ports) some
unfolding head_line
linear_alike nodes fabric switches ports [] = refl
linear_alike nodes fabric switches ports (one ∷ some) =
    ap (λ (text : List ℕ). text ++ flat_map (port_table nodes fabric switches ports) some) (by_place (place_of one.node_name nodes))
    ∙ ap (λ (text : List ℕ). port_table nodes (base_of fabric) switches ports one ++ text) (linear_alike nodes fabric switches ports some)
  where
    by_node : (place : ℕ) (o : Option Node)
        → option_map_or (λ (found : ℕ × Node). table_of switches ports one found.1) (option_map (λ node. (place, node)) o) []
        ≡ option_map_or (λ (found : ℕ × Node). table_of switches ports one found.1) (option_map (λ node. (place, node)) (option_map (switch_by (λ guid. cleared)) o)) []
    by_node place None = refl
    by_node place (Some (Adapter ones)) = refl
    by_node place (Some (Switch held)) = refl

    by_place : (o : Option ℕ)
        → option_map_or (λ (found : ℕ × Node). table_of switches ports one found.1) (option_and_then (λ place. option_map (λ node. (place, node)) (slice_get fabric.nodes place)) o) []
        ≡ option_map_or (λ (found : ℕ × Node). table_of switches ports one found.1) (option_and_then (λ place. option_map (λ node. (place, node)) (slice_get (base_of fabric).nodes place)) o) []
    by_place None = refl
    by_place (Some place) =
        by_node place (slice_get fabric.nodes place)
        ∙ ap (λ (o : Option Node). option_map_or (λ (found : ℕ × Node). table_of switches ports one found.1) (option_map (λ node. (place, node)) o) [])
        (sym (slice_get-map (switch_by (λ guid. cleared)) fabric.nodes place))

own_alike : (plan : TopologyState) (lids : List ℕ) (fabric : FabricState) (places : List ℕ)
    → flat_map (own_table_at plan.nodes lids (base_of fabric).nodes) places ≡ flat_map (own_table_at plan.nodes lids fabric.nodes) places
own_alike plan lids fabric [] = refl
own_alike plan lids fabric (place ∷ places) =
    ap (λ (o : Option Node).
    option_map_or (λ (node : PlannedNode). option_map_or (own_table plan.nodes lids node.guid) o []) (slice_get plan.nodes place) []
    ++ flat_map (own_table_at plan.nodes lids (base_of fabric).nodes) places) (slice_get-map (switch_by (λ guid. cleared)) fabric.nodes place)
    ∙ ap (λ (tables : List Table). tables ++ flat_map (own_table_at plan.nodes lids (base_of fabric).nodes) places)
    (by (slice_get plan.nodes place) (slice_get fabric.nodes place))
    ∙ ap (λ (tables : List Table). own_table_at plan.nodes lids fabric.nodes place ++ tables) (own_alike plan lids fabric places)
  where
    by : (o : Option PlannedNode) (h : Option Node)
        → option_map_or (λ (node : PlannedNode). option_map_or (own_table plan.nodes lids node.guid) (option_map (switch_by (λ guid. cleared)) h) []) o []
        ≡ option_map_or (λ (node : PlannedNode). option_map_or (own_table plan.nodes lids node.guid) h []) o []
    by None h = refl
    by (Some node) None = refl
    by (Some node) (Some (Adapter ones)) = refl
    by (Some node) (Some (Switch held)) = refl

-- ---- names are on one line
names : (lids : List ℕ) (some : List SubnetPort) → AllByRecursion (Fits lids) some → AllByRecursion (λ one. is_one_line one.node_name ≡ true) some
names lids [] all = tt
names lids (one ∷ some) all = (all.0.name, names lids some all.1)

none_yet : (some : List SubnetPort) → AllByRecursion (λ (one : SubnetPort). false ≡ false) some
none_yet [] = tt
none_yet (one ∷ some) = (refl, none_yet some)

-- ---- the whole
whole_read : (text : List ℕ) (tables : List Table) (line : ℕ) → (length tables == 0) ≡ false → IsDistinct shares_switch tables
    → after_lines after_line 1 (between_tables []) (lines text) ≡ after_lines after_line line (between_tables tables) (lines [])
    → dump_of text ≡ Ok (record { tables = tables })
unfolding dump_of whole after_lines
whole_read text tables line some own is =
    ap (λ (found : Result DraftState (AtLine DumpCause)). found >>= whole) is
    ∙ ap (λ (b : Bool). if not b then Ok (record { tables = latest tables }) else Err (record { line = 0; cause = Unfinished })) some
    ∙ ap (λ (all : List Table). Ok (record { tables = all })) (all_latest_own tables own)

-- ---- an entry is that of a table's top and rows
same_entry : (ports lid : ℕ) (one other : Table) → one.top ≡ other.top → one.rows ≡ other.rows → entry_in ports lid one ≡ entry_in ports lid other
same_entry ports lid one other top rows =
    ap (λ (n : ℕ). entry_in ports lid (record { line = 0; guid = 0; top = n; rows = one.rows })) top
    ∙ ap (λ (some : List Row). entry_in ports lid (record { line = 0; guid = 0; top = other.top; rows = some })) rows

module _ (partitions : List Partition) (plan : TopologyState) (sound : IsSound plan) (keys : List (List ℕ)) (routes : RoutesState) (fabric : FabricState)
    (stands : IsStanding plan keys routes fabric) where
  -- the topology with the links that are up, and the fabric without its masks, which is brought up from it
  abbrev left : TopologyState
  left = with_cables fabric.cables plan

  abbrev base : FabricState
  base = base_of fabric

  sound_left : IsSound left
  sound_left = what_is_up_is_sound plan (cabling_of fabric) (root_guids plan) keys routes fabric sound stands.up

  up : IsBroughtUpBy left keys routes base
  up = stands.up.set_up

  -- end ports are the same
  abbrev ports : List SubnetPort
  ports = ports_of partitions left

  same_ports : ports ≡ ports_of partitions plan
  same_ports = ports_stay plan fabric.cables (λ at adapter. cabled_same plan.cables fabric.cables at (stands.hung at adapter)) partitions

  abbrev dump : DumpState
  dump = read partitions left sound_left keys routes base up

  base_rows : HasOwnRows left routes.lids base dump
  base_rows = own_rows_read partitions left sound_left keys routes base up

  -- some switch has a table
  some_table : (length dump.tables == 0) ≡ false
  some_table =
      let carries = (some_carries left dump sound_left).1 in
      let held = held_there left sound_left keys routes base up (some_carries left dump sound_left).0 carries.switch in
      let rows = base_rows.tables (some_carries left dump sound_left).0 held.held held.there in
      by dump.tables (some_carries left dump sound_left).0 rows.table rows.there
    where
      nowhere : (o : Option PlannedNode) → option_and_then (λ (node : PlannedNode). table_of_guid node.guid []) o ≡ None
      nowhere None = refl
      nowhere (Some node) = refl

      by : (tables : List Table) (place : ℕ) (table : Table)
          → option_and_then (λ (node : PlannedNode). table_of_guid node.guid tables) (slice_get plan.nodes place) ≡ Some table → (length tables == 0) ≡ false
      by [] place table there = absurd (none-some table (sym (nowhere (slice_get plan.nodes place)) ∙ there))
      by (one ∷ tables) place table there = ne_eqb (suc (length tables)) 0 (λ none. omega (arith, none))

  abbrev tables_by : List SubnetPort → List ℕ
  tables_by some = tables_text plan.nodes some routes.graph.switches fabric

  text_read : dump_of (printed partitions plan routes fabric) ≡ Ok dump
  text_read =
      let fit = all_fit partitions left sound_left keys routes base up in
      let switches = routes.graph.switches in
      let multicast = multicast_tables plan.nodes ports switches fabric in
      let line = line_from plan.nodes base ports ports 1 in
      let passed = all_passed dump.tables plan.nodes fabric switches ports (names routes.lids ports fit) line [] in
      ap (λ (some : List SubnetPort). dump_of (tables_by some)) (sym same_ports)
      ∙ whole_read (tables_by ports) dump.tables passed.0 some_table
      (tables_own routes.lids switches ports fit (rise partitions left sound_left keys routes base up)
      (few_ports partitions left sound_left keys routes base up) plan.nodes base
      ports 1 [] (ends partitions left sound_left keys routes base up).own_guids (IsDistinct-nil shares_switch) (none_yet ports))
      (ap (λ (text : List ℕ). after_lines after_line 1 (between_tables []) (lines (text ++ multicast))) (linear_alike plan.nodes fabric switches ports ports)
      ∙ all_tables routes.lids switches ports fit (rise partitions left sound_left keys routes base up)
      (few_ports partitions left sound_left keys routes base up) plan.nodes base
      ports 1 [] multicast fit (ends partitions left sound_left keys routes base up).own_guids (held_fits partitions left sound_left keys routes base up)
      (none_yet ports) tt
      ∙ ap (λ (text : List ℕ). after_lines after_line line (between_tables dump.tables) (lines text)) (sym (append-nil multicast)) ∙ passed.1)

  own_rows_back : HasOwnRows plan routes.lids fabric dump
  own_rows_back = record {
    tables = λ place held there.
        let at : slice_get base.nodes place ≡ Some (Switch (cleared held)) =
        slice_get-map (switch_by (λ guid. cleared)) fabric.nodes place ∙ ap (option_map (switch_by (λ guid. cleared))) there in
        let has = base_rows.tables place (cleared held) at in
        record { table = has.table; there = has.there; rows = has.rows ∙ rows_alike plan.nodes held 1 routes.lids; top = has.top };
    ends = base_rows.ends;
  }

  -- ---- it is like the dump of what the fabric holds
  abbrev own : DumpState
  own = own_tables left routes.lids base

  own_base : HasOwnRows left routes.lids base own
  own_base = own_rows left sound_left keys routes base up

  entries : (lid place : ℕ) → is_switch_at plan.nodes place ≡ true → entry (over left dump) lid place ≡ entry (over left own) lid place
  entries lid place switch =
      let held = held_there left sound_left keys routes base up place switch in
      let one = base_rows.tables place held.held held.there in
      let other = own_base.tables place held.held held.there in
      ap (λ (o : Option Table). option_map_or (entry_in (ports_at plan.nodes place) lid) o Unreported) one.there
      ∙ same_entry (ports_at plan.nodes place) lid one.table other.table (one.top ∙ sym other.top) (one.rows ∙ sym other.rows)
      ∙ sym (ap (λ (o : Option Table). option_map_or (entry_in (ports_at plan.nodes place) lid) o Unreported) other.there)

  -- over whichever links
  alike : AreAlike (plan_of (over_cables_up fabric plan)) dump own
  alike = record {
    entries = entries;
    ends = λ lid.
        one_end left sound_left keys routes base up dump own (shows_all left sound_left keys routes base up dump base_rows)
        (shows_all left sound_left keys routes base up own own_base) lid;
  }

  own_is_held : own_dump plan routes.lids fabric ≡ own
  own_is_held =
      ap (λ (tables : List Table). record { tables = tables }) (sym (own_alike plan routes.lids fabric (range_with_len 0 (length plan.nodes))))
      ∙ own_is left sound_left keys routes base up

  one_load : (talk : PortRef → PortRef → Bool)
      → load_of_plan (plan_of (over_cables_up fabric plan)) dump talk ≡ load_of_plan (plan_of (over_cables_up fabric plan)) (own_dump plan routes.lids fabric) talk
  one_load talk =
      loads_are_of_entries (plan_of (over_cables_up fabric plan)) dump own talk alike
      ∙ ap (λ (some : DumpState). load_of_plan (plan_of (over_cables_up fabric plan)) some talk) (sym own_is_held)

pub tables_are_read_back : TablesAreReadBack
tables_are_read_back partitions plan keys routes fabric sound stands = record {
  dump = dump partitions plan sound keys routes fabric stands;
  read = text_read partitions plan sound keys routes fabric stands;
  rows = own_rows_back partitions plan sound keys routes fabric stands;
}

abbrev ok_of : DumpState → Result DumpState (AtLine DumpCause) → DumpState
ok_of other (Ok dump) = dump
ok_of other (Err fault) = other

pub the_forms_agree : TheFormsAgree
the_forms_agree partitions plan keys routes fabric found sound stands is =
    let same = ap (ok_of found) (sym (text_read partitions plan sound keys routes fabric stands) ∙ is) in
    ap (λ (some : DumpState). load_of_plan (plan_of (over_cables_up fabric plan)) some (may_talk None)) (sym same)
    ∙ one_load partitions plan sound keys routes fabric stands (may_talk None)

pub no_link_is_left_out : NoLinkIsLeftOut
no_link_is_left_out plan fabric same = ap (λ (cables : List Cable). record plan { cables = cables }) (kept_up fabric [] plan.cables same)
