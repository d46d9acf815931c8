-- What lines say, computed.
use Rattle.std.proofs.Common.{refl, sym}
use Rattle.std.specs.List.{IsDistinct}
use Rattle.std.proofs.lemmas.Bool.{false≢true}
use Rattle.step_results.specs.AtLine.{after_lines}
use Rattle.dump_file.specs.Destination.{further_in, further_said, named_in, path_in}
use Rattle.dump_file.specs.Dump.{after_line, count_reported, dump_of, heading_reported, row_reported, whole}
use Rattle.dump_file.specs.Examples.{HeadingsAreRead, RowsAreRead, TextsAreRead, UnsoundAreReported}
use Rattle.dump_file.specs.Heading.{guid_behind_way, heading_in}
use Rattle.dump_file.specs.Row.{row_in}

pub headings_are_read : HeadingsAreRead
unfolding guid_behind_way heading_in
headings_are_read = record { by_path = refl; by_lid = refl; by_any_name = refl; by_no_way = refl; without_end = refl; of_a_part = refl; by_opensm = refl }

pub rows_are_read : RowsAreRead
unfolding count_reported further_in further_said named_in path_in row_in
rows_are_read = record {
  adapter = refl;
  switch = refl;
  router = refl;
  further = refl;
  nobody = refl;
  illegal = refl;
  illegal_path = refl;
  of_lid_0 = refl;
  last_port = refl;
  without_end = refl;
  top_follows = refl;
  same_does_not = refl;
  past_the_top_does_not = refl;
  two_ends = refl;
  further_of_one = refl;
  further_of_another = refl;
  of_router = refl;
  of_nobody = refl;
  counted = refl;
  miscounted = refl;
  valid_counted = refl;
  all_counted = refl;
}

pub texts_are_read : TextsAreRead
unfolding after_line after_lines count_reported dump_of further_in further_said guid_behind_way heading_in heading_reported named_in path_in row_in row_reported whole
texts_are_read = record {
  whole = refl;
  by_lid_counts = refl;
  by_route_does_not = refl;
  of_two_ends = refl;
  before_a_comment = refl;
  unfinished = refl;
  of_one_switch = refl;
  unfinished_behind_one = refl;
  of_mfts = refl;
  within_an_mft = refl;
  without_titles = refl;
  failed_between = refl;
  failed_within = refl;
  failed_at_titles = refl;
  failed_alone = refl;
  counted_behind_it = refl;
  a_warning = refl;
  without_second_title = refl;
}

pub unsound_are_reported : UnsoundAreReported
unfolding IsDistinct
unsound_are_reported = record { of_one_switch = λ distinct. false≢true (sym distinct.0.0); twice = refl; falling = refl; past_the_top = refl; of_two_ends = refl }
