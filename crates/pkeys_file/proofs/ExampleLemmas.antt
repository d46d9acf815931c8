-- What lines and texts say, computed.
use Rattle.std.proofs.Common.{refl}
use Rattle.step_results.specs.AtLine.{after_lines}
use Rattle.pkeys_file.specs.Answers.{after_line, answers_of, fields_after, whole}
use Rattle.pkeys_file.specs.Examples.{FailuresAreUnread, LinesAreRead, TextsAreRead, TextsAreRefused}
use Rattle.pkeys_file.specs.Fields.{field_in}
use Rattle.pkeys_file.specs.Query.{place_asked, port_title_of, query_in, title_of}
use Rattle.pkeys_file.specs.Rows.{capacity_after, keys_after, place_in, row_by}

pub lines_are_read : LinesAreRead
unfolding field_in place_asked port_title_of query_in title_of capacity_after keys_after place_in row_by
lines_are_read = record {
  query_is = refl;
  portless = refl;
  other_query = refl;
  title = refl;
  other_title = refl;
  field = refl;
  guid = refl;
  twice = refl;
  bit = refl;
  row = refl;
  other_row = refl;
  short_row = refl;
  capacity = refl;
  other_capacity = refl;
}

pub texts_are_read : TextsAreRead
unfolding after_lines after_line answers_of fields_after whole field_in place_asked port_title_of query_in title_of capacity_after keys_after place_in row_by
texts_are_read = record { whole = refl }

pub texts_are_refused : TextsAreRefused
unfolding after_lines after_line answers_of fields_after whole field_in place_asked port_title_of query_in title_of capacity_after keys_after place_in row_by
texts_are_refused = record { of_no_query = refl; before_a_query = refl; asked_twice = refl; behind_the_last = refl; without_a_value = refl }

pub failures_are_unread : FailuresAreUnread
unfolding after_lines after_line answers_of fields_after whole field_in place_asked port_title_of query_in title_of capacity_after keys_after place_in row_by
failures_are_unread = record { alone = refl; behind_an_answer = refl; between = refl; in_front = refl; other_words = refl }
