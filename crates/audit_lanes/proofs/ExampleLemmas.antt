-- Lanes, hops and lines, computed.
use Rattle.std.proofs.Common.{refl}
use Rattle.std.specs.Fmt.{digits}
use Rattle.audit_lanes.specs.Examples.{HopsAreReported, LaneLinesAreReported, LanesAreReported, LaneVerdictsAreReported, RecordsAreReported}
use Rattle.audit_routes.specs.Verdict.{reasons}
use Rattle.audit_lanes.specs.Audit.{closing_lines, lane_text}
use Rattle.audit_lanes.specs.Lines.{count_line, counts_line, crossing_lines, crossing_text, dropped_lines, dropped_text, judged_line, lane_word, more_words, no_path_lines, no_path_text, no_row_text, numbers_words, pairs_words, recorded_words, ring_text}
use Rattle.audit_lanes.specs.Records.{sls, vls}
use Rattle.audit_lanes.specs.Verdict.{all_reasons, all_verdict_line, all_words}

pub lanes_are_reported : LanesAreReported
lanes_are_reported = record { by_entries = refl; one_sl = refl; two_sls = refl }

pub hops_are_reported : HopsAreReported
hops_are_reported = record { to_the_end = refl; dropped = refl; drops = refl; no_row = refl; lacks = refl; of_switch = refl }

pub records_are_reported : RecordsAreReported
unfolding digits more_words no_path_text
records_are_reported = record { all = refl; some = refl; line = refl; more = refl }

pub lane_lines_are_reported : LaneLinesAreReported
unfolding count_line counts_line crossing_lines crossing_text digits dropped_lines dropped_text lane_text lane_word more_words no_path_lines no_path_text no_row_text numbers_words pairs_words recorded_words ring_text sls vls
lane_lines_are_reported = record { cycle = refl; no_row = refl; dropped = refl; counts = refl; no_counts = refl; all = refl }

pub lane_verdicts_are_reported : LaneVerdictsAreReported
unfolding all_reasons all_verdict_line all_words closing_lines judged_line reasons
lane_verdicts_are_reported = record {
  of_all = refl;
  of_a_cycle = refl;
  of_one_path = refl;
  of_few_rows = refl;
  of_drops = refl;
  cycle = refl;
  lacks = refl;
  drops = refl;
  freed = refl;
  without_paths = refl;
  without_rows = refl;
  unsafe = refl;
}
