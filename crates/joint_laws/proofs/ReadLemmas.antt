-- The text of LFTs is read as the tables that it was printed of.
use Rattle.std.proofs.Common.{ℕ, suc, ◌≡◌, ◌+◌, ◌-◌, ◌^◌, ◌<◌, ◌≤◌, ◌∙◌, nat_le, nat_lt, ap, refl, sym, subst, Bool, true, false, not, if◌then◌else◌, List, [], ◌∷◌, ◌++◌, filter, flat_map, length, slice_get, append-nil, append_assoc, is_some, Option, Some, None, arith}
use Rattle.std.specs.List.{AllByRecursion}
use Rattle.std.specs.Option.{option_and_then, option_map_or}
use Rattle.std.proofs.lemmas.Bool.{and_from, eq-eqb, leb-true, lt-ltb, le-leb, ne_eqb}
use Rattle.std.proofs.lemmas.List.{length-append}
use Rattle.std.proofs.lemmas.List.Sums.{sum_by-cons}
use Rattle.std.proofs.lemmas.Option.{none-some, same_Some}
use Rattle.dump_file.specs.Destination.{guid_said}
use Rattle.dump_file.specs.Dump.{DraftState, after_line}
use Rattle.dump_file.specs.Row.{are_two, end_of, is_above, is_said_otherwise, is_valid, may_follow, valid_count}
use Rattle.dump_file.specs.Table.{rows_of}
use Rattle.dump_file.specs.declared.row.Row.{Row}
use Rattle.dump_file.specs.declared.table.Table.{Table}
use Rattle.fabric_parts.specs.declared.node_type.NodeType.{NodeType}
use Rattle.fabric_parts.specs.declared.node_type.NodeType.TheVariants as node_type
use Rattle.fabric_tables.specs.Tables.{entry_line, is_led_to, line_towards, port_text, port_towards}
use Rattle.lid_assign.specs.Lids.{guid_in}
use Rattle.fabric_loads.proofs.RowLemmas.{IsReported, reported_of}
use Rattle.step_results.proofs.ElementLemmas.{each_joined}
use Rattle.step_results.specs.AtLine.{after_lines}
use Rattle.subnet_model.specs.declared.subnet_port.SubnetPort.{SubnetPort}
use Rattle.switch_model.specs.SwitchState.{SwitchState, num_ports}
use Rattle.text_words.specs.Lines.{lines}
use Rattle.joint_laws.proofs.LineLemmas.{destination_by, row_is, row_one_line, row_text}
use Rattle.joint_laws.proofs.StepLemmas.{in_rows, one_line_more, row_step}
use Rattle.joint_laws.proofs.TextLemmas.{is_one_line}

-- ---- what is read
abbrev pub row_by : SubnetPort → ℕ → Row
row_by port entry = record { lid = port.lid; port = entry; destination = destination_by port.node_type port.guid }

abbrev pub row_towards : SwitchState → SubnetPort → List Row
row_towards held port = option_map_or (λ entry. row_by port entry ∷ []) (port_towards held port.lid) []

abbrev pub rows_towards : SwitchState → List SubnetPort → List Row
rows_towards held ports = flat_map (row_towards held) ports

-- ---- what has to be so of an end port
pub record Fits (lids : List ℕ) (port : SubnetPort) : Type 0 where
  pub lid : port.lid < 65536
  pub guid : port.guid < 2 ^ 64
  pub name : is_one_line port.node_name ≡ true
  pub named : guid_in lids port.lid ≡ Some port.guid

-- LIDs rise from this one on
abbrev pub RiseFrom : ℕ → List SubnetPort → Type 0
RiseFrom low [] = Unit {0}
RiseFrom low (port ∷ ports) = (low ≤ port.lid) × RiseFrom (port.lid + 1) ports

-- ---- an entry that is printed
towards_low : (held : SwitchState) (lid entry : ℕ) → port_towards held lid ≡ Some entry → (entry ≤ num_ports held) × (lid ≤ held.info.linear_fdb_top)
towards_low held lid entry is = by_top (nat_le lid held.info.linear_fdb_top) refl (slice_get held.linear lid) is
  where
    chosen : (b : Bool) (found : ℕ) → nat_le found (num_ports held) ≡ b → (if b then Some found else None) ≡ Some entry → entry ≤ num_ports held
    chosen true found low same = leb-true entry (num_ports held) (ap (λ (n : ℕ). nat_le n (num_ports held)) (sym (same_Some found entry same)) ∙ low)
    chosen false found low same = absurd (none-some entry same)

    by_top : (b : Bool) → nat_le lid held.info.linear_fdb_top ≡ b → (o : Option ℕ)
        → option_and_then (λ one. if nat_le one (num_ports held) then Some one else None) (if b then o else None) ≡ Some entry
        → (entry ≤ num_ports held) × (lid ≤ held.info.linear_fdb_top)
    by_top false top o is = absurd (none-some entry is)
    by_top true top None is = absurd (none-some entry is)
    by_top true top (Some found) is = (chosen (nat_le found (num_ports held)) found refl is, leb-true lid held.info.linear_fdb_top top)

said_by_kind : (of : NodeType) (guid : ℕ) → guid_said (destination_by of guid) ≡ Some guid
said_by_kind node_type.Switch guid = refl
said_by_kind node_type.ChannelAdapter guid = refl

-- ---- a row behind others
last_there : (rows : List Row) (row : Row) → slice_get (rows ++ row ∷ []) (length (rows ++ row ∷ []) - 1) ≡ Some row
last_there rows row =
    let long = length-append rows (row ∷ []) in
    let last : length (rows ++ row ∷ []) - 1 ≡ length rows = omega (arith, long) in
    ap (slice_get (rows ++ row ∷ [])) last ∙ there rows
  where
    there : (some : List Row) → slice_get (some ++ row ∷ []) (length some) ≡ Some row
    there [] = refl
    there (one ∷ some) = there some

above_more : (rows : List Row) (row : Row) (lid : ℕ) → row.lid < lid → is_above (rows ++ row ∷ []) lid ≡ true
above_more rows row lid less = ap (λ (o : Option Row). option_map_or (λ one. nat_lt one.lid lid) o true) (last_there rows row) ∙ lt-ltb row.lid lid less

rows_more : (tables : List Table) (rows : List Row) (row : Row) → rows_of tables ++ (rows ++ row ∷ []) ≡ (rows_of tables ++ rows) ++ row ∷ []
rows_more tables rows row = sym (append_assoc (rows_of tables) rows (row ∷ []))

module _ (lids : List ℕ) where
  abbrev AllReported : List Row → Type 0
  AllReported rows = AllByRecursion (IsReported lids) rows

  pub row_reported : (port : SubnetPort) (entry : ℕ) → Fits lids port → IsReported lids (row_by port entry)
  row_reported port entry fits guid said =
      fits.named ∙ sym (said_by_kind port.node_type port.guid) ∙ said

  -- no row says otherwise
  once : (rows : List Row) (port : SubnetPort) (entry : ℕ) → Fits lids port → AllReported rows → is_said_otherwise rows (row_by port entry) ≡ false
  once rows port entry fits reported =
      ap (are_two (end_of port.lid rows)) (said_by_kind port.node_type port.guid) ∙ by (end_of port.lid rows) refl
    where
      by : (o : Option ℕ) → end_of port.lid rows ≡ o → are_two o (Some port.guid) ≡ false
      by None said = refl
      by (Some guid) said =
          let same : guid ≡ port.guid =
          same_Some guid port.guid (sym (reported_of [] lids port.lid rows guid reported said) ∙ fits.named) in
          ap not (eq-eqb guid port.guid same)

  module _ (tables : List Table) (line of_switch : ℕ) (held : SwitchState) (few : num_ports held < 255) where
    abbrev top : ℕ
    top = held.info.linear_fdb_top

    abbrev state : List Row → DraftState
    state rows = in_rows tables line of_switch top rows

    -- what is read of the lines of these end ports
    abbrev IsRead : ℕ → List Row → List SubnetPort → List ℕ → Type 0
    IsRead number rows ports rest =
        after_lines after_line number (state rows) (lines (flat_map (line_towards held) ports ++ rest))
        ≡ after_lines after_line (number + length (filter (is_led_to held) ports)) (state (rows ++ rows_towards held ports)) (lines rest)

    line_is : (port : SubnetPort) (entry : ℕ) (fits : Fits lids port) (low : entry < 256)
        → entry_line port entry ≡ row_text port.lid entry port.guid port.node_type port.node_name fits.lid low fits.guid ++ 10 ∷ []
    unfolding port_text
    line_is port entry fits low =
        ap (λ (text : List ℕ). text ++ 10 ∷ []) (row_is port.lid entry port.guid port.node_type port.node_name fits.lid low fits.guid)

    one_row : (number : ℕ) (rows : List Row) (port : SubnetPort) (entry : ℕ) (rest : List ℕ) → Fits lids port → is_above rows port.lid ≡ true
        → AllReported (rows_of tables ++ rows) → port_towards held port.lid ≡ Some entry
        → after_lines after_line number (state rows) (lines (entry_line port entry ++ rest))
        ≡ after_lines after_line (number + 1) (state (rows ++ row_by port entry ∷ [])) (lines rest)
    one_row number rows port entry rest fits above reported led =
        let within = towards_low held port.lid entry led in
        let low : entry < 256 = omega (arith, within.0, few) in
        let text = row_text port.lid entry port.guid port.node_type port.node_name fits.lid low fits.guid in
        let follows : may_follow top rows port.lid ≡ true = and_from (is_above rows port.lid) _ above (le-leb port.lid top within.1) in
        ap (λ (some : List ℕ). after_lines after_line number (state rows) (lines (some ++ rest))) (line_is port entry fits low)
        ∙ ap (λ (some : List ℕ). after_lines after_line number (state rows) (lines some)) (append_assoc text (10 ∷ []) rest)
        ∙ one_line_more number (state rows) (state (rows ++ row_by port entry ∷ [])) text rest
        (row_one_line port.lid entry port.guid port.node_type port.node_name fits.lid low fits.guid fits.name)
        (row_step tables number line of_switch top rows port.lid entry port.guid port.node_type port.node_name fits.lid low fits.guid follows
        (once (rows_of tables ++ rows) port entry fits reported))

    pub rows_read : (ports : List SubnetPort) (number low : ℕ) (rows : List Row) (rest : List ℕ) → AllByRecursion (Fits lids) ports → RiseFrom low ports
        → ((lid : ℕ) → low ≤ lid → is_above rows lid ≡ true) → AllReported (rows_of tables ++ rows) → IsRead number rows ports rest
    rows_read [] number low rows rest fits rise above reported =
        let none_more : number ≡ number + 0 = omega arith in
        ap (λ (n : ℕ). after_lines after_line n (state rows) (lines rest)) none_more
        ∙ ap (λ (some : List Row). after_lines after_line (number + 0) (state some) (lines rest)) (sym (append-nil rows))
    rows_read (port ∷ ports) number low rows rest fits rise above reported =
        by (port_towards held port.lid) refl
        (rows_read ports number (port.lid + 1) rows rest fits.1 rise.1 (λ lid from. above lid (omega (arith, from, rise.0))) reported)
        (λ row less also. rows_read ports (number + 1) (port.lid + 1) (rows ++ row ∷ []) rest fits.1 rise.1
        (λ lid from. above_more rows row lid (omega (arith, from, less))) also)
      where
        next : (entry : ℕ) → rows ++ (row_by port entry ∷ rows_towards held ports) ≡ (rows ++ row_by port entry ∷ []) ++ rows_towards held ports
        next entry = sym (append_assoc rows (row_by port entry ∷ []) (rows_towards held ports))

        by : (o : Option ℕ) → port_towards held port.lid ≡ o → IsRead number rows ports rest
            → ((row : Row) → row.lid ≡ port.lid → AllReported (rows_of tables ++ (rows ++ row ∷ [])) → IsRead (number + 1) (rows ++ row ∷ []) ports rest)
            → after_lines after_line number (state rows) (lines ((option_map_or (entry_line port) o [] ++ flat_map (line_towards held) ports) ++ rest))
            ≡ after_lines after_line (number + length (if is_some o then port ∷ filter (is_led_to held) ports else filter (is_led_to held) ports))
            (state (rows ++ (option_map_or (λ entry. row_by port entry ∷ []) o [] ++ rows_towards held ports))) (lines rest)
        by None led none more = none
        by (Some entry) led none more =
            let row = row_by port entry in
            let all : AllReported (rows_of tables ++ (rows ++ row ∷ [])) =
            subst AllReported (sym (rows_more tables rows row))
            (each_joined (IsReported lids) (rows_of tables ++ rows) (row ∷ []) reported (row_reported port entry fits.0, tt)) in
            let count : number + 1 + length (filter (is_led_to held) ports) ≡ number + suc (length (filter (is_led_to held) ports)) = omega arith in
            ap (λ (text : List ℕ). after_lines after_line number (state rows) (lines text))
            (append_assoc (entry_line port entry) (flat_map (line_towards held) ports) rest)
            ∙ one_row number rows port entry (flat_map (line_towards held) ports ++ rest) fits.0 (above port.lid rise.0) reported led
            ∙ more row refl all
            ∙ ap (λ (n : ℕ). after_lines after_line n (state ((rows ++ row ∷ []) ++ rows_towards held ports)) (lines rest)) count
            ∙ ap (λ (some : List Row). after_lines after_line (number + suc (length (filter (is_led_to held) ports))) (state some) (lines rest))
            (sym (next entry))

    -- each has an entry that is a port
    pub all_valid : (ports : List SubnetPort) → valid_count (rows_towards held ports) ≡ length (filter (is_led_to held) ports)
    all_valid [] = refl
    all_valid (port ∷ ports) = by (port_towards held port.lid) refl (all_valid ports)
      where
        by : (o : Option ℕ) → port_towards held port.lid ≡ o → valid_count (rows_towards held ports) ≡ length (filter (is_led_to held) ports)
            → valid_count (option_map_or (λ entry. row_by port entry ∷ []) o [] ++ rows_towards held ports)
            ≡ length (if is_some o then port ∷ filter (is_led_to held) ports else filter (is_led_to held) ports)
        by None led rest = rest
        by (Some entry) led rest =
            let low = (towards_low held port.lid entry led).0 in
            let one : 1 + length (filter (is_led_to held) ports) ≡ suc (length (filter (is_led_to held) ports)) = omega arith in
            sum_by-cons (λ row. if is_valid row then 1 else 0) (row_by port entry) (rows_towards held ports)
            ∙ ap (λ (b : Bool). (if not b then 1 else 0) + valid_count (rows_towards held ports)) (ne_eqb entry 255 (λ none. omega (arith, none, low, few)))
            ∙ ap (λ (n : ℕ). 1 + n) rest ∙ one
