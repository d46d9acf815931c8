-- The verdict of an audit that judges virtual lanes too.
use Rattle.std.specs.Prelude.{◌&&◌, Bool, not, List, ◌++◌, codes, is_none, ℕ, Option}
use Rattle.std.specs.List.{list_all}
use Rattle.sl2vl_file.specs.declared.path.PathSl.{PathSl}
use Rattle.audit_net.specs.declared.lids.Aim.{Aim}
use Rattle.audit_net.specs.Net.{NetState}
use Rattle.audit_routes.specs.Verdict.{outcome, reasons, verdict_is_safe, with_reason}
use Rattle.audit_routes.specs.declared.verdict.Verdict.{Verdict}
use Rattle.audit_lanes.specs.declared.hop.Hop.{Hop}
use Rattle.audit_lanes.specs.declared.lane.Lane.{Lane}
use Rattle.audit_lanes.specs.declared.verdict.LaneVerdict.{LaneVerdict}
use Rattle.audit_lanes.specs.Hops.{is_dropped, lacks_row, some_hop}
use Rattle.audit_lanes.specs.Records.{owned, records}

-- ---- what it rests on: no cycle of lanes, a record of each pair, a row for each hop, and no hop on VL 15
abbrev pub lane_verdict : NetState → List Aim → List PathSl → List (List Hop) → Option (List Lane) → LaneVerdict
lane_verdict net aims paths traces ring = record {
  is_free = is_none ring;
  has_paths = list_all (λ is. is) (records paths (owned net aims));
  has_rows = not (some_hop lacks_row traces);
  drops = some_hop is_dropped traces;
}

-- ---- with that of the routes: a deadlock is one of lanes, and what a record or a row lacks is unknown
abbrev pub joined : Verdict → LaneVerdict → Verdict
joined routes lanes = record routes { is_free = lanes.is_free; is_known = routes.is_known && (lanes.has_paths && lanes.has_rows) }

abbrev pub all_are_safe : Verdict → LaneVerdict → Bool
all_are_safe routes lanes = verdict_is_safe (joined routes lanes) && not lanes.drops

-- by lanes there is no cycle, and all that packets may wait for is known
abbrev pub frees : LaneVerdict → Bool
frees lanes = lanes.is_free && (lanes.has_paths && lanes.has_rows)

-- `verdict: not safe (deadlock, unknown, dropped), by virtual lanes; ..`
unfoldable pub all_reasons : Verdict → LaneVerdict → List ℕ
all_reasons routes lanes = with_reason (not lanes.drops) (codes "dropped") (reasons (joined routes lanes))

unfoldable pub all_words : Verdict → LaneVerdict → List ℕ
all_words routes lanes = outcome (all_are_safe routes lanes) (all_reasons routes lanes)

unfoldable pub all_verdict_line : Verdict → LaneVerdict → List ℕ
all_verdict_line routes lanes = codes "verdict: " ++ all_words routes lanes ++ codes ", by virtual lanes; multicast is not judged\n"
