-- Lines, computed.
use Rattle.std.proofs.Common.{refl}
use Rattle.std.specs.Fmt.{digits}
use Rattle.audit_routes.specs.Asks.{ask_text}
use Rattle.audit_routes.specs.Audit.{aggregation_line, body_by, count_line, counts_by, lines_by, lost_part, other_part, reached_part, ring_lines, text_by}
use Rattle.audit_routes.specs.Lines.{apart_line, files_by, multiples, passed_words, unreported_lines, no_switches_line}
use Rattle.audit_routes.specs.Deciding.{counted_line, switches_words}
use Rattle.audit_routes.specs.Verdict.{reasons, safe_words, verdict_line}
use Rattle.audit_routes.specs.Examples.{AsksAreReported, CountsAreReported, DeadlocksAreReported, DecidingIsReported, LacksAreReported, TextsAreReported, TroublesAreReported, VerdictsAreReported}

pub troubles_are_reported : TroublesAreReported
unfolding digits
troubles_are_reported = record { hole = refl; loop = refl; wrong = refl; nowhere = refl; none = refl; stray = refl; closed_stray = refl; hole_to_a_router = refl; loop_to_a_router = refl; last_hop_to_a_router = refl; left_out = refl; left_out_of_nobody = refl; nobody_sends = refl }

pub deadlocks_are_reported : DeadlocksAreReported
unfolding digits
deadlocks_are_reported = record {
  to_the_adapter = refl;
  none = refl;
  of_adapters = refl;
  of_adapters_alone = refl;
  of_no_adapters = refl;
  of_switches = refl;
  of_hosts = refl;
  of_no_hosts = refl;
  of_aggregation = refl;
  of_hosts_alone = refl;
  of_no_switches = refl;
  closed_by = refl;
  closed_by_any = refl;
}

pub lacks_are_reported : LacksAreReported
unfolding apart_line digits files_by multiples no_switches_line passed_words unreported_lines
lacks_are_reported = record {
  has_the_row = refl;
  table = refl;
  has_table = refl;
  switch = refl;
  has_switch = refl;
  end_port = refl;
  lid = refl;
  untold = refl;
  told = refl;
  lid_of_first = refl;
  nobodys_lid = refl;
  all = refl;
  has_lid = refl;
}

pub verdicts_are_reported : VerdictsAreReported
unfolding reasons safe_words verdict_line
verdicts_are_reported = record { safe = refl; lids = refl; reached = refl; free = refl; same = refl; known = refl; entries = refl; none = refl }

pub asks_are_reported : AsksAreReported
unfolding ask_text digits
asks_are_reported = record { lacks = refl; has_all = refl; of_nobody = refl; fed = refl; at_the_top = refl }

pub counts_are_reported : CountsAreReported
unfolding aggregation_line count_line counts_by digits lost_part other_part reached_part
counts_are_reported = record { of_a_hole = refl; of_a_loop = refl; of_aggregation = refl }

pub texts_are_reported : TextsAreReported
unfolding aggregation_line ask_text body_by count_line counted_line counts_by digits files_by lines_by lost_part multiples no_switches_line other_part reached_part reasons ring_lines safe_words switches_words text_by unreported_lines verdict_line
texts_are_reported = record { lines = refl; all = refl; counted = refl; none = refl; safe = refl; unsafe = refl }

pub deciding_is_reported : DecidingIsReported
unfolding digits files_by multiples no_switches_line switches_words unreported_lines
deciding_is_reported = record {
  lost = refl;
  not_lost = refl;
  round = refl;
  eight = refl;
  more = refl;
  unknown = refl;
  of_nobody = refl;
  not_sent = refl;
  of_host = refl;
  of_switch = refl;
  no_table = refl;
  no_switches = refl;
}
