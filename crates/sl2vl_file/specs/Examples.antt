-- Lines as they are printed, what they say, and what of all that may be read is not sound.
use Rattle.std.specs.Prelude.{ℕ, ◌≡◌, false, List, [], ◌∷◌, ◌++◌, codes, Some, None, Ok, Err}
use Rattle.std.specs.List.{IsDistinct}
use Rattle.sl2vl_file.specs.declared.fault.LanesCause.TheVariants.{Malformed, DuplicateRow, DirectedRoute, DuplicateField, MissingField, Empty}
use Rattle.sl2vl_file.specs.declared.path.Field.TheVariants.{Source, Destination, Sl, Other}
use Rattle.sl2vl_file.specs.declared.path.PathSl.{PathSl}
use Rattle.sl2vl_file.specs.declared.row.LaneRow.{LaneRow}
use Rattle.sl2vl_file.specs.declared.stage.Stage.TheVariants.{Table}
use Rattle.sl2vl_file.specs.Lanes.{lanes_of, table_in}
use Rattle.sl2vl_file.specs.Path.{field_in, no_fields, path_of, with_field}
use Rattle.sl2vl_file.specs.Row.{row_in}
use Rattle.sl2vl_file.specs.Sound.{has_16_vls, is_low_sl, shares_ports}

-- ---- a row of a table
abbrev eight_lanes : List ℕ
eight_lanes = 0 ∷ 1 ∷ 2 ∷ 3 ∷ 4 ∷ 5 ∷ 6 ∷ 7 ∷ 0 ∷ 1 ∷ 2 ∷ 3 ∷ 4 ∷ 5 ∷ 6 ∷ 7 ∷ []

abbrev one_row : LaneRow
one_row = record { line = 3; lid = 18; input = 0; output = 1; lanes = eight_lanes }

pub record LanesAreRead : Type 0 where
  pub of_8_lanes : row_in 3 18 (codes "ports: in  0, out  1: | 0| 1| 2| 3| 4| 5| 6| 7| 0| 1| 2| 3| 4| 5| 6| 7|") ≡ Ok one_row
  -- ports of three digits, and VL 15
  pub of_wide_ports : row_in 3 18 (codes "ports: in 128, out 129: | 0| 1| 2| 3| 4| 5| 6| 7| 8| 9|10|11|12|13|14|15|")
      ≡ Ok (record {
        line = 3;
        lid = 18;
        input = 128;
        output = 129;
        lanes = 0 ∷ 1 ∷ 2 ∷ 3 ∷ 4 ∷ 5 ∷ 6 ∷ 7 ∷ 8 ∷ 9 ∷ 10 ∷ 11 ∷ 12 ∷ 13 ∷ 14 ∷ 15 ∷ [];
      })
  -- the last ports
  pub of_port_255 : row_in 3 18 (codes "ports: in 255, out 254: | 0| 1| 2| 3| 4| 5| 6| 7| 0| 1| 2| 3| 4| 5| 6| 7|")
      ≡ Ok (record one_row { input = 255; output = 254 })
  -- no VL, 15 VLs, a port above 255, and a port in hexadecimal digits
  pub of_vl_16 : row_in 3 18 (codes "ports: in  0, out  1: | 0| 1| 2| 3| 4| 5| 6| 7| 0| 1| 2| 3| 4| 5| 6|16|") ≡ Err Malformed
  pub of_15_vls : row_in 3 18 (codes "ports: in  0, out  1: | 0| 1| 2| 3| 4| 5| 6| 7| 0| 1| 2| 3| 4| 5| 6|") ≡ Err Malformed
  pub of_port_256 : row_in 3 18 (codes "ports: in  0, out 256: | 0| 1| 2| 3| 4| 5| 6| 7| 0| 1| 2| 3| 4| 5| 6| 7|") ≡ Err Malformed
  pub of_hexadecimal_port : row_in 3 18 (codes "ports: in 0x1, out  1: | 0| 1| 2| 3| 4| 5| 6| 7| 0| 1| 2| 3| 4| 5| 6| 7|") ≡ Err Malformed
  -- 17 VLs, a byte that is no digit, and one that is no bar
  pub of_17_vls : row_in 3 18 (codes "ports: in  0, out  1: | 0| 1| 2| 3| 4| 5| 6| 7| 0| 1| 2| 3| 4| 5| 6| 7| 0|") ≡ Err Malformed
  pub of_no_digit : row_in 3 18 (codes "ports: in  0, out  1: | 0| 1| 2| 3| 4| 5| 6| 7| 0| 1| 2| 3| 4| 5| 6| :|") ≡ Err Malformed
  pub of_no_bar : row_in 3 18 (codes "ports: in  0, out  1: | 0| 1| 2| 3| 4| 5| 6| 7| 0| 1| 2| 3| 4| 5| 6: 7|") ≡ Err Malformed
  -- the headings of tables
  pub by_lid : table_in (codes "# SL2VL table: Lid 18") ≡ Ok (Table 18)
  pub by_last_lid : table_in (codes "# SL2VL table: Lid 65535") ≡ Ok (Table 65535)
  pub by_directed_route : table_in (codes "# SL2VL table: DR path slid 65535; dlid 65535; 0,1") ≡ Err DirectedRoute
  pub by_no_lid : table_in (codes "# SL2VL table: Lid 65536") ≡ Err Malformed

-- ---- the fields of a path record
abbrev one_path : PathSl
one_path = record { source = 12; destination = 11; sl = 2 }

pub record FieldsAreRead : Type 0 where
  pub slid : field_in (codes "\t\tslid....................12") ≡ Ok (Source 12)
  pub dlid : field_in (codes "\t\tdlid....................11") ≡ Ok (Destination 11)
  pub sl : field_in (codes "\t\tsl......................0xf") ≡ Ok (Sl 15)
  pub another : field_in (codes "\t\tpkt_life................0x92") ≡ Ok Other
  -- one tab, an SL above 15, an SL without its `0x`, and a LID of more than 16 bits
  pub of_one_tab : field_in (codes "\tslid....................12") ≡ Err Malformed
  pub of_sl_16 : field_in (codes "\t\tsl......................0x10") ≡ Err Malformed
  pub of_decimal_sl : field_in (codes "\t\tsl......................2") ≡ Err Malformed
  pub of_lid_65536 : field_in (codes "\t\tdlid....................65536") ≡ Err Malformed
  pub twice : with_field (record (no_fields 7) { sl = Some 2 }) (Sl 2) ≡ Err DuplicateField
  pub dlid_twice : with_field (record (no_fields 7) { destination = Some 2 }) (Destination 2) ≡ Err DuplicateField
  pub whole : path_of (record { line = 7; source = Some 12; destination = Some 11; sl = Some 2 }) ≡ Some one_path
  pub without_sl : path_of (record { line = 7; source = Some 12; destination = Some 11; sl = None }) ≡ None
  pub without_slid : path_of (record { line = 7; source = None; destination = Some 11; sl = Some 2 }) ≡ None
  pub without_dlid : path_of (record { line = 7; source = Some 12; destination = None; sl = Some 2 }) ≡ None

-- ---- a whole text
abbrev row_text : List ℕ
row_text = codes "ports: in  0, out  1: | 0| 1| 2| 3| 4| 5| 6| 7| 0| 1| 2| 3| 4| 5| 6| 7|\n"

abbrev table_text : List ℕ
table_text = codes "# SL2VL table: Lid 18\n# SL: | 0| 1|\n" ++ row_text

abbrev record_text : List ℕ
record_text =
    codes "PathRecord dump:\r\n\t\tdlid....................11\r\n\t\tslid....................12\n"
    ++ codes "\n\t\tsl......................0x2\n\t\tmtu.....................0x84\n"

abbrev one_row_at : (line lid : ℕ) → LaneRow
one_row_at line lid = record one_row { line = line; lid = lid }

-- a record whose SL stands in no line
abbrev record_without_sl : List ℕ
record_without_sl = codes "PathRecord dump:\n\t\tslid....................12\n\t\tdlid....................11\n"

-- rows that differ from one another in the LID or in one port
abbrev other_rows_text : List ℕ
other_rows_text =
    codes "ports: in  1, out  1: | 0| 1| 2| 3| 4| 5| 6| 7| 0| 1| 2| 3| 4| 5| 6| 7|\n"
    ++ codes "ports: in  0, out  2: | 0| 1| 2| 3| 4| 5| 6| 7| 0| 1| 2| 3| 4| 5| 6| 7|\n# SL2VL table: Lid 19\n"

-- what `smpquery sl2vl` prints of a port that the switch does not have
abbrev failure_text : List ℕ
failure_text = codes "smpquery: iberror: failed: operation sl2vl: invalid port number\n"

pub record LaneTextsAreRead : Type 0 where
  pub whole : lanes_of (table_text ++ codes "# saquery PR\n" ++ record_text) ≡ Ok (record { rows = one_row ∷ []; paths = one_path ∷ [] })
  pub records_first : lanes_of (record_text ++ record_text ++ codes "# SL2VL table: Lid 18\n")
      ≡ Ok (record { rows = []; paths = one_path ∷ one_path ∷ [] })
  pub rows_alone : lanes_of table_text ≡ Ok (record { rows = one_row ∷ []; paths = [] })
  pub of_other_ports : lanes_of (table_text ++ other_rows_text ++ row_text)
      ≡ Ok (record {
        rows = one_row ∷ record one_row { line = 4; input = 1 } ∷ record one_row { line = 5; output = 2 } ∷ record one_row { line = 7; lid = 19 } ∷ [];
        paths = [];
      })
  -- a heading that is none is no comment: the rows behind it are of another switch
  pub of_a_wrong_heading : lanes_of (table_text ++ codes "# SL2VL table:Lid 19\n") ≡ Err (record { line = 4; cause = Malformed })
  -- a row outside a table, and one twice
  pub without_a_table : lanes_of row_text ≡ Err (record { line = 1; cause = Malformed })
  pub behind_a_record : lanes_of (table_text ++ record_text ++ row_text) ≡ Err (record { line = 10; cause = Malformed })
  pub twice : lanes_of (table_text ++ row_text) ≡ Err (record { line = 4; cause = DuplicateRow })
  pub by_directed_route : lanes_of (codes "# SL2VL table: DR path slid 0; dlid 0; 0,1\n") ≡ Err (record { line = 1; cause = DirectedRoute })
  -- a record that lacks its SL, also if a line behind it is wrong
  pub without_sl : lanes_of (table_text ++ record_without_sl) ≡ Err (record { line = 4; cause = MissingField })
  pub without_sl_first : lanes_of (record_without_sl ++ table_text ++ codes "wrong\n") ≡ Err (record { line = 1; cause = MissingField })
  pub of_two_slids : lanes_of (record_without_sl ++ codes "\t\tslid....................12\n") ≡ Err (record { line = 4; cause = DuplicateField })
  -- queries that failed before all tables, among the rows of one, behind a record, and alone; within a record that lacks its SL
  pub failed_anywhere : lanes_of (failure_text ++ table_text ++ failure_text ++ codes "# SL2VL table: Lid 19\n" ++ failure_text ++ row_text ++ record_text ++ failure_text)
      ≡ Ok (record { rows = one_row_at 4 18 ∷ one_row_at 8 19 ∷ []; paths = one_path ∷ [] })
  pub failed_alone : lanes_of failure_text ≡ Err (record { line = 0; cause = Empty })
  pub failed_in_a_record : lanes_of (record_without_sl ++ failure_text ++ codes "\t\tsl......................0x2\n") ≡ Err (record { line = 4; cause = Malformed })
  pub a_warning : lanes_of (table_text ++ codes "ibwarn: [4711] mad_rpc: _do_madrpc failed; dport (Lid 9)\n") ≡ Err (record { line = 4; cause = Malformed })
  pub of_neither : lanes_of (codes "# SL2VL table: Lid 18\n\n") ≡ Err (record { line = 0; cause = Empty })

-- ---- what is not sound
pub record UnsoundLanesAreReported : Type 0 where
  pub of_two_rows : IsDistinct shares_ports (one_row ∷ record one_row { line = 17 } ∷ []) → ⊥
  pub of_15_vls : has_16_vls (0 ∷ []) ≡ false
  pub of_vl_16 : has_16_vls (16 ∷ 1 ∷ 2 ∷ 3 ∷ 4 ∷ 5 ∷ 6 ∷ 7 ∷ 0 ∷ 1 ∷ 2 ∷ 3 ∷ 4 ∷ 5 ∷ 6 ∷ 7 ∷ []) ≡ false
  pub of_sl_16 : is_low_sl (record one_path { sl = 16 }) ≡ false
