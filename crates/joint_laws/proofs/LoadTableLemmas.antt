-- The text of all LFTs is read as these tables.
use Rattle.std.proofs.Common.{ℕ, suc, ◌≡◌, ◌+◌, ◌^◌, ◌<◌, ◌≤◌, ◌==◌, ◌||◌, ◌∙◌, ap, refl, sym, subst, Bool, true, false, if◌then◌else◌, List, [], ◌∷◌, ◌++◌, codes, filter, flat_map, length, append-nil, append_assoc, Option, Some, None, arith}
use Rattle.std.specs.List.{AllByRecursion, IsDistinct, list_any}
use Rattle.std.specs.Option.{option_map_or}
use Rattle.std.proofs.lemmas.Bool.{or_from, or_parts}
use Rattle.std.proofs.lemmas.Grind.{flat_map-append}
use Rattle.std.proofs.lemmas.List.Folds.{list_any-append}
use Rattle.std.proofs.lemmas.Cmp.{nat_eq_equiv, on_equiv}
use Rattle.std.proofs.lemmas.Map.Keys.{IsDistinct-push, IsDistinct-tail}
use Rattle.dump_file.specs.Dump.{after_line}
use Rattle.dump_file.specs.Row.{valid_count}
use Rattle.dump_file.specs.Sound.{shares_switch}
use Rattle.dump_file.specs.Table.{rows_of}
use Rattle.dump_file.specs.declared.table.Table.{Table}
use Rattle.fabric_tables.specs.Nodes.{node_of}
use Rattle.fabric_tables.specs.Tables.{count_line, head_line, is_led_to, line_towards, path_to, port_table, port_towards, table_of, table_text, titles}
use Rattle.step_results.proofs.TestLemmas.{same_either_way}
use Rattle.fabric_loads.proofs.RowLemmas.{IsReported}
use Rattle.smp_wire.specs.FabricState.{FabricState}
use Rattle.smp_wire.specs.declared.node.Node.{Node}
use Rattle.smp_wire.specs.declared.node.Node.TheVariants.{Switch, Adapter}
use Rattle.step_results.proofs.DistinctLemmas.{none_shares}
use Rattle.step_results.proofs.ElementLemmas.{each_joined}
use Rattle.step_results.proofs.RisingLemmas.{place_nowhere}
use Rattle.step_results.specs.AtLine.{after_lines}
use Rattle.subnet_model.specs.Configured.{same_guid}
use Rattle.subnet_model.specs.declared.subnet_port.SubnetPort.{SubnetPort}
use Rattle.sweep.specs.declared.graph.GraphSwitch.{GraphSwitch}
use Rattle.switch_model.specs.SwitchState.{SwitchState, num_ports}
use Rattle.text_words.specs.Lines.{lines}
use Rattle.topo_file.specs.declared.node.Node.{Node as PlannedNode}
use Rattle.joint_laws.proofs.LineLemmas.{count_is, count_one_line, count_text, heading_is, heading_one_line, heading_text}
use Rattle.joint_laws.proofs.ReadLemmas.{Fits, RiseFrom, all_valid, row_by, row_reported, rows_read, rows_towards}
use Rattle.joint_laws.proofs.StepLemmas.{between_tables, count_step, first_title_step, half_titled, headed, heading_step, in_rows, one_line_more, second_title_step, titled}

-- ---- what is read of the table of a switch, whose heading is at this line
abbrev pub table_by : ℕ → List SubnetPort → SubnetPort → SwitchState → Table
table_by line ports switch held = record { line = line; guid = switch.guid; top = held.info.linear_fdb_top; rows = rows_towards held ports }

-- the line behind it
abbrev pub line_behind : ℕ → List SubnetPort → SwitchState → ℕ
line_behind line ports held = line + 1 + 1 + 1 + length (filter (is_led_to held) ports) + 1

-- what has to be so of a switch
pub record FitsSwitch (held : SwitchState) : Type 0 where
  pub top : held.info.linear_fdb_top < 65536
  pub few : num_ports held < 255

-- a switch's own table has its GUID, which no table so far has
abbrev is_of : ℕ → Table → Bool
is_of guid table = guid == table.guid

-- ---- of all switches
abbrev pub switch_in : Option (ℕ × Node) → Option SwitchState
switch_in None = None
switch_in (Some (place, Switch held)) = Some held
switch_in (Some (place, Adapter one)) = None

abbrev pub switch_of : List PlannedNode → FabricState → SubnetPort → Option SwitchState
switch_of nodes fabric port = switch_in (node_of nodes fabric port)

abbrev pub then_tables : (ℕ → List Table) → List SubnetPort → ℕ → SubnetPort → Option SwitchState → List Table
then_tables rest ports number port None = rest number
then_tables rest ports number port (Some held) = table_by number ports port held ∷ rest (line_behind number ports held)

abbrev pub then_line : (ℕ → ℕ) → List SubnetPort → ℕ → Option SwitchState → ℕ
then_line rest ports number None = rest number
then_line rest ports number (Some held) = rest (line_behind number ports held)

-- the tables of those of these end ports that are switches', from this line on, and the line behind them
abbrev pub tables_from : List PlannedNode → FabricState → List SubnetPort → List SubnetPort → ℕ → List Table
tables_from nodes fabric ports [] number = []
tables_from nodes fabric ports (port ∷ some) number = then_tables (tables_from nodes fabric ports some) ports number port (switch_of nodes fabric port)

abbrev pub line_from : List PlannedNode → FabricState → List SubnetPort → List SubnetPort → ℕ → ℕ
line_from nodes fabric ports [] number = number
line_from nodes fabric ports (port ∷ some) number = then_line (line_from nodes fabric ports some) ports number (switch_of nodes fabric port)

module _ (lids : List ℕ) (switches : List GraphSwitch) (ports : List SubnetPort) (fit : AllByRecursion (Fits lids) ports) (rise : RiseFrom 0 ports)
    (count : length ports < 2 ^ 64) where
  few_led : (held : SwitchState) (some : List SubnetPort) → length (filter (is_led_to held) some) ≤ length some
  few_led held [] = omega arith
  few_led held (port ∷ some) = by (is_led_to held port) (few_led held some)
    where
      by : (b : Bool) → length (filter (is_led_to held) some) ≤ length some
          → length (if b then port ∷ filter (is_led_to held) some else filter (is_led_to held) some) ≤ suc (length some)
      by true less = omega (arith, less)
      by false less = omega (arith, less)

  pub one_table : (number : ℕ) (tables : List Table) (switch : SubnetPort) (held : SwitchState) (rest : List ℕ) → FitsSwitch held → Fits lids switch
      → list_any (is_of switch.guid) tables ≡ false → AllByRecursion (IsReported lids) (rows_of tables)
      → after_lines after_line number (between_tables tables) (lines (table_text switches ports switch held ++ rest))
      ≡ after_lines after_line (line_behind number ports held) (between_tables (tables ++ table_by number ports switch held ∷ [])) (lines rest)
  unfolding head_line titles count_line
  one_table number tables switch held rest fits fits_too new reported =
      let path = path_to switches switch.guid in
      let top = held.info.linear_fdb_top in
      let heading = heading_text top switch.guid path switch.node_name fits.top fits_too.guid in
      let led = length (filter (is_led_to held) ports) in
      let printed = flat_map (line_towards held) ports in
      let behind_rows = count_line led ++ rest in
      let behind_titles = printed ++ behind_rows in
      let rows = rows_towards held ports in
      let counted : valid_count rows ≡ led = all_valid lids tables number switch.guid held fits.few ports in
      let small : valid_count rows < 2 ^ 64 = omega (arith, counted, few_led held ports, count) in
      let text_is : table_text switches ports switch held ++ rest ≡ heading ++ 10 ∷ (codes "  Lid  Out   Destination" ++ 10 ∷ ((codes "       Port     Info " ++ 10 ∷ behind_titles))) =
      append_assoc (head_line path switch held ++ titles ++ printed) (count_line led) rest
      ∙ append_assoc (head_line path switch held ++ titles) printed behind_rows
      ∙ append_assoc (head_line path switch held) titles behind_titles
      ∙ ap (λ (text : List ℕ). (text ++ 10 ∷ []) ++ (titles ++ behind_titles)) (heading_is top switch.guid path switch.node_name fits.top fits_too.guid)
      ∙ append_assoc heading (10 ∷ []) (titles ++ behind_titles) in
      let last_is : count_line led ++ rest ≡ (count_text (valid_count rows) ++ 32 ∷ []) ++ 10 ∷ rest =
      ap (λ (text : List ℕ). text ++ rest) (count_is led) ∙ append_assoc (count_text led ++ 32 ∷ []) (10 ∷ []) rest
      ∙ ap (λ (n : ℕ). (count_text n ++ 32 ∷ []) ++ 10 ∷ rest) (sym counted) in
      ap (λ (text : List ℕ). after_lines after_line number (between_tables tables) (lines text)) text_is
      ∙ one_line_more number (between_tables tables) (headed tables number switch.guid top) heading _
      (heading_one_line top switch.guid path switch.node_name fits.top fits_too.guid fits_too.name)
      (heading_step tables number top switch.guid path switch.node_name fits.top fits_too.guid (place_nowhere (is_of switch.guid) tables new))
      ∙ one_line_more (number + 1) (headed tables number switch.guid top) (half_titled tables number switch.guid top) (codes "  Lid  Out   Destination")
      (codes "       Port     Info " ++ 10 ∷ behind_titles) refl (first_title_step tables (number + 1) number switch.guid top)
      ∙ one_line_more (number + 1 + 1) (half_titled tables number switch.guid top) (titled tables number switch.guid top)
      (codes "       Port     Info ") behind_titles refl
      (second_title_step tables (number + 1 + 1) number switch.guid top)
      ∙ rows_read lids tables number switch.guid held fits.few ports (number + 1 + 1 + 1) 0 [] behind_rows fit rise (λ lid from. refl)
      (subst (AllByRecursion (IsReported lids)) (sym (append-nil (rows_of tables))) reported)
      ∙ ap (λ (text : List ℕ). after_lines after_line (number + 1 + 1 + 1 + led) (in_rows tables number switch.guid top rows) (lines text)) last_is
      ∙ one_line_more (number + 1 + 1 + 1 + led) (in_rows tables number switch.guid top rows)
      (between_tables (tables ++ table_by number ports switch held ∷ []))
      (count_text (valid_count rows) ++ 32 ∷ []) rest (count_one_line (valid_count rows))
      (count_step tables (number + 1 + 1 + 1 + led) number switch.guid top rows small)

  pub towards_reported : (held : SwitchState) (some : List SubnetPort) → AllByRecursion (Fits lids) some
      → AllByRecursion (IsReported lids) (rows_towards held some)
  towards_reported held [] all = tt
  towards_reported held (port ∷ some) all =
      by (port_towards held port.lid) (towards_reported held some all.1)
    where
      by : (o : Option ℕ) → AllByRecursion (IsReported lids) (rows_towards held some)
          → AllByRecursion (IsReported lids) (option_map_or (λ entry. row_by port entry ∷ []) o [] ++ rows_towards held some)
      by None rest = rest
      by (Some entry) rest = (row_reported lids port entry all.0, rest)

  module _ (nodes : List PlannedNode) (fabric : FabricState) where
    abbrev AreNew : List Table → List SubnetPort → Type 0
    AreNew tables some = AllByRecursion (λ port. list_any (is_of port.guid) tables ≡ false) some

    new_more : (tables : List Table) (table : Table) (port : SubnetPort) (some : List SubnetPort) → table.guid ≡ port.guid
        → list_any (same_guid port) some ≡ false
        → AreNew tables some → AreNew (tables ++ table ∷ []) some
    new_more tables table port [] same own new = tt
    new_more tables table port (other ∷ some) same own new =
        let parts = or_parts (same_guid port other) _ own in
        let apart : (other.guid == table.guid) ≡ false = ap (λ (g : ℕ). other.guid == g) same ∙ same_either_way other.guid port.guid ∙ parts.0 in (
          list_any-append (is_of other.guid) tables (table ∷ []) ∙ or_from (list_any (is_of other.guid) tables) _ new.0 (ap (λ (b : Bool). b || false) apart),
          new_more tables table port some same parts.1 new.1,
        )

    pub all_tables : (some : List SubnetPort) (number : ℕ) (tables : List Table) (rest : List ℕ) → AllByRecursion (Fits lids) some → IsDistinct same_guid some
        → ((port : SubnetPort) (held : SwitchState) → switch_of nodes fabric port ≡ Some held → FitsSwitch held) → AreNew tables some
        → AllByRecursion (IsReported lids) (rows_of tables)
        → after_lines after_line number (between_tables tables) (lines (flat_map (port_table nodes fabric switches ports) some ++ rest))
        ≡ after_lines after_line (line_from nodes fabric ports some number) (between_tables (tables ++ tables_from nodes fabric ports some number)) (lines rest)
    all_tables [] number tables rest fits own held_fit new reported =
        ap (λ (some : List Table). after_lines after_line number (between_tables some) (lines rest)) (sym (append-nil tables))
    all_tables (port ∷ some) number tables rest fits own held_fit new reported =
        by (node_of nodes fabric port) refl (λ none. all_tables some number tables rest fits.1
        (IsDistinct-tail same_guid port some own) held_fit new.1 reported)
        (λ held there.
        all_tables some (line_behind number ports held) (tables ++ table_by number ports port held ∷ []) rest fits.1
        (IsDistinct-tail same_guid port some own) held_fit
        (new_more tables (table_by number ports port held) port some refl (none_shares same_guid port some own) new.1) (more held))
      where
        more : (held : SwitchState) → AllByRecursion (IsReported lids) (rows_of (tables ++ table_by number ports port held ∷ []))
        more held =
            subst (AllByRecursion (IsReported lids)) (sym (flat_map-append (λ (table : Table). table.rows) tables (table_by number ports port held ∷ [])))
            (each_joined (IsReported lids) (rows_of tables) (rows_towards held ports ++ []) reported
            (subst (AllByRecursion (IsReported lids)) (sym (append-nil (rows_towards held ports))) (towards_reported held ports fit)))

        text : Option (ℕ × Node) → List ℕ
        text o = option_map_or (λ found. table_of switches ports port found.1) o []

        by : (o : Option (ℕ × Node)) → node_of nodes fabric port ≡ o
            → (Unit {0} → after_lines after_line number (between_tables tables) (lines (flat_map (port_table nodes fabric switches ports) some ++ rest))
            ≡ after_lines after_line (line_from nodes fabric ports some number) (between_tables (tables ++ tables_from nodes fabric ports some number)) (lines rest))
            → ((held : SwitchState) → Unit {0}
            → after_lines after_line (line_behind number ports held) (between_tables (tables ++ table_by number ports port held ∷ []))
            (lines (flat_map (port_table nodes fabric switches ports) some ++ rest))
            ≡ after_lines after_line (line_from nodes fabric ports some (line_behind number ports held))
            (between_tables ((tables ++ table_by number ports port held ∷ []) ++ tables_from nodes fabric ports some (line_behind number ports held)))
            (lines rest))
            → after_lines after_line number (between_tables tables) (lines ((text o ++ flat_map (port_table nodes fabric switches ports) some) ++ rest))
            ≡ after_lines after_line (then_line (line_from nodes fabric ports some) ports number (switch_in o))
            (between_tables (tables ++ then_tables (tables_from nodes fabric ports some) ports number port (switch_in o))) (lines rest)
        by None at none later = none tt
        by (Some (place, Adapter one)) at none later = none tt
        by (Some (place, Switch held)) at none later =
            ap (λ (all : List ℕ). after_lines after_line number (between_tables tables) (lines all))
            (append_assoc (table_text switches ports port held) (flat_map (port_table nodes fabric switches ports) some) rest)
            ∙ one_table number tables port held (flat_map (port_table nodes fabric switches ports) some ++ rest)
            (held_fit port held (ap switch_in at)) fits.0 new.0 reported
            ∙ later held tt
            ∙ ap (λ (all : List Table). after_lines after_line (line_from nodes fabric ports some (line_behind number ports held)) (between_tables all)
            (lines rest))
            (append_assoc tables (table_by number ports port held ∷ []) (tables_from nodes fabric ports some (line_behind number ports held)))

    -- they are of different switches
    pub tables_own : (some : List SubnetPort) (number : ℕ) (tables : List Table) → IsDistinct same_guid some → IsDistinct shares_switch tables → AreNew tables some
        → IsDistinct shares_switch (tables ++ tables_from nodes fabric ports some number)
    tables_own [] number tables own so_far new = subst (IsDistinct shares_switch) (sym (append-nil tables)) so_far
    tables_own (port ∷ some) number tables own so_far new =
        by (switch_of nodes fabric port) (tables_own some number tables (IsDistinct-tail same_guid port some own) so_far new.1)
        (λ held.
        tables_own some (line_behind number ports held) (tables ++ table_by number ports port held ∷ []) (IsDistinct-tail same_guid port some own)
        (IsDistinct-push (on_equiv (λ (table : Table). table.guid) nat_eq_equiv) tables (table_by number ports port held) so_far new.0)
        (new_more tables (table_by number ports port held) port some refl (none_shares same_guid port some own) new.1))
      where
        by : (o : Option SwitchState) → IsDistinct shares_switch (tables ++ tables_from nodes fabric ports some number)
            → ((held : SwitchState)
            → IsDistinct shares_switch ((tables ++ table_by number ports port held ∷ []) ++ tables_from nodes fabric ports some (line_behind number ports held)))
            → IsDistinct shares_switch (tables ++ then_tables (tables_from nodes fabric ports some) ports number port o)
        by None none later = none
        by (Some held) none later =
            subst (IsDistinct shares_switch) (append_assoc tables (table_by number ports port held ∷ []) (tables_from nodes fabric ports some (line_behind number ports held)))
            (later held)
