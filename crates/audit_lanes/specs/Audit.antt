-- The audit of LFTs, SL-to-VL mapping tables and path records over a topology or a discovery: what is printed, and whether the
-- routes are safe.
use Rattle.std.specs.Prelude.{ℕ, Bool, List, ◌++◌, Option}
use Rattle.dump_file.specs.Dump.{DumpState}
use Rattle.netdiscover_file.specs.Discovery.{DiscoveryState}
use Rattle.sl2vl_file.specs.Lanes.{LanesState}
use Rattle.sl2vl_file.specs.declared.path.PathSl.{PathSl}
use Rattle.topo_file.specs.Topology.{TopologyState}
use Rattle.audit_net.specs.Net.{NetState}
use Rattle.audit_plan.specs.Plan.{plan_found, plan_of}
use Rattle.audit_net.specs.declared.lids.Aim.{Aim}
use Rattle.audit_net.specs.Lids.{aims}
use Rattle.audit_routes.specs.Audit.{AuditState, FindingsState, findings_of}
use Rattle.audit_routes.specs.declared.verdict.Verdict.{Verdict}
use Rattle.audit_lanes.specs.declared.hop.Hop.{Hop}
use Rattle.audit_lanes.specs.declared.lane.Lane.{Lane}
use Rattle.audit_lanes.specs.declared.verdict.LaneVerdict.{LaneVerdict}
use Rattle.audit_lanes.specs.Deadlock.{lane_deadlock}
use Rattle.audit_lanes.specs.Hops.{traces}
use Rattle.audit_lanes.specs.Lines.{counts_line, crossing_lines, freed_line, judged_line, no_path_lines, ring_line}
use Rattle.audit_lanes.specs.Verdict.{all_are_safe, all_verdict_line, frees, lane_verdict}

-- what is found of lanes: the lines, and what the verdict rests on
pub record LaneFindings : Type 0 where
  pub text : List ℕ
  pub verdict : LaneVerdict

-- the lines, by the cycle of lanes that was found
unfoldable pub lane_text : NetState → List Aim → List PathSl → List (List Hop) → Option (List Lane) → List ℕ
lane_text net aims paths all ring = ring_line net ring ++ no_path_lines net aims paths ++ crossing_lines net all ++ counts_line net aims paths all

abbrev pub found_by : NetState → List Aim → List PathSl → List (List Hop) → Option (List Lane) → LaneFindings
found_by net aims paths all ring = record { text = lane_text net aims paths all ring; verdict = lane_verdict net aims paths all ring }

abbrev pub found_with : NetState → List Aim → List PathSl → List (List Hop) → LaneFindings
found_with net aims paths all = found_by net aims paths all (lane_deadlock net aims all)

unfoldable pub lane_findings : NetState → LanesState → LaneFindings
lane_findings net lanes = found_with net (aims net) lanes.paths (traces net (record { aims = aims net; rows = lanes.rows }) lanes.paths)

-- behind what an audit without them prints before its verdict, with all lines by switch and LID or with their number
unfoldable pub closing_lines : Verdict → LaneVerdict → List ℕ
closing_lines routes lanes = freed_line routes.is_free (frees lanes) ++ judged_line ++ all_verdict_line routes lanes

abbrev pub with_lanes : FindingsState → LaneFindings → AuditState
with_lanes routes lanes = record {
  text = routes.text ++ lanes.text ++ closing_lines routes.verdict lanes.verdict;
  is_safe = all_are_safe routes.verdict lanes.verdict;
}

unfoldable pub audit_with : Bool → NetState → LanesState → AuditState
audit_with whole net lanes = with_lanes (findings_of whole net) (lane_findings net lanes)

abbrev pub audit_lanes : Bool → TopologyState → DumpState → LanesState → AuditState
audit_lanes whole topology dump lanes = audit_with whole (record { plan = plan_of topology; dump = dump }) lanes

abbrev pub audit_lanes_found : Bool → DiscoveryState → DumpState → LanesState → AuditState
audit_lanes_found whole found dump lanes = audit_with whole (record { plan = plan_found found; dump = dump }) lanes
