-- The examples, computed.
use Rattle.std.proofs.Common.{refl, sym}
use Rattle.std.specs.List.{IsDistinct}
use Rattle.std.proofs.lemmas.Bool.{false≢true}
use Rattle.step_results.specs.AtLine.{after_lines}
use Rattle.sl2vl_file.specs.Examples.{FieldsAreRead, LanesAreRead, LaneTextsAreRead, UnsoundLanesAreReported}
use Rattle.sl2vl_file.specs.Lanes.{after_judged, after_line, lanes_of, row_reported, table_by_lid, whole}
use Rattle.sl2vl_file.specs.Path.{field_in, fields_reported}
use Rattle.sl2vl_file.specs.Row.{ports_in, row_in}

pub lanes_are_read : LanesAreRead
unfolding ports_in row_in table_by_lid
lanes_are_read = record {
  of_8_lanes = refl;
  of_wide_ports = refl;
  of_port_255 = refl;
  of_vl_16 = refl;
  of_15_vls = refl;
  of_port_256 = refl;
  of_hexadecimal_port = refl;
  of_17_vls = refl;
  of_no_digit = refl;
  of_no_bar = refl;
  by_lid = refl;
  by_last_lid = refl;
  by_directed_route = refl;
  by_no_lid = refl;
}

pub fields_are_read : FieldsAreRead
unfolding field_in
fields_are_read = record {
  slid = refl;
  dlid = refl;
  sl = refl;
  another = refl;
  of_one_tab = refl;
  of_sl_16 = refl;
  of_decimal_sl = refl;
  of_lid_65536 = refl;
  twice = refl;
  dlid_twice = refl;
  whole = refl;
  without_sl = refl;
  without_slid = refl;
  without_dlid = refl;
}

pub lane_texts_are_read : LaneTextsAreRead
unfolding after_judged after_line after_lines field_in fields_reported lanes_of ports_in row_in row_reported table_by_lid whole
lane_texts_are_read = record {
  whole = refl;
  records_first = refl;
  rows_alone = refl;
  of_other_ports = refl;
  of_a_wrong_heading = refl;
  without_a_table = refl;
  behind_a_record = refl;
  twice = refl;
  by_directed_route = refl;
  without_sl = refl;
  without_sl_first = refl;
  of_two_slids = refl;
  failed_anywhere = refl;
  failed_alone = refl;
  failed_in_a_record = refl;
  a_warning = refl;
  of_neither = refl;
}

pub unsound_lanes_are_reported : UnsoundLanesAreReported
unfolding IsDistinct
unsound_lanes_are_reported = record {
  of_two_rows = λ distinct. false≢true (sym distinct.0.0);
  of_15_vls = refl;
  of_vl_16 = refl;
  of_sl_16 = refl;
}
