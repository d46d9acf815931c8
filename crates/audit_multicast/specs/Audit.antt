-- The audit of LFTs and MFTs over a topology or a discovery: what is printed, and whether routes and multicast are safe.
use Rattle.std.specs.Prelude.{ℕ, Bool, List, ◌++◌, map}
use Rattle.dump_file.specs.Dump.{DumpState}
use Rattle.mft_file.specs.declared.table.MaskTable.{MaskTable}
use Rattle.mft_file.specs.Mfts.{MftState}
use Rattle.netdiscover_file.specs.Discovery.{DiscoveryState}
use Rattle.topo_file.specs.Topology.{TopologyState}
use Rattle.audit_routes.specs.Audit.{AuditState, FindingsState, findings_of}
use Rattle.audit_net.specs.Net.{NetState}
use Rattle.audit_plan.specs.Plan.{plan_found, plan_of}
use Rattle.audit_multicast.specs.declared.found.Found.{Found}
use Rattle.audit_multicast.specs.Copies.{copy_of}
use Rattle.audit_multicast.specs.Cuts.{cut_of}
use Rattle.audit_multicast.specs.Lines.{multicast_lines}
use Rattle.audit_multicast.specs.Loops.{loop_of}
use Rattle.audit_multicast.specs.Masks.{masks_of, mlids_of}
use Rattle.audit_multicast.specs.Verdict.{all_are_safe, all_verdict_line, multicast_verdict}

-- what is found of an MLID
abbrev pub found_by : NetState → ℕ → List (List ℕ) → Found
found_by net mlid masks = record { mlid = mlid; ring = loop_of net masks; copy = copy_of net masks; cut = cut_of net masks }

abbrev pub found_of : NetState → List MaskTable → ℕ → Found
found_of net tables mlid = found_by net mlid (masks_of net tables mlid)

unfoldable pub all_found : NetState → List MaskTable → List Found
all_found net tables = map (found_of net tables) (mlids_of tables)

-- behind what an audit without MFTs prints before its verdict, with all lines by switch and LID or with their number
abbrev pub with_multicast : NetState → List MaskTable → FindingsState → List Found → AuditState
with_multicast net tables routes all = record {
  text = routes.text ++ multicast_lines net tables all ++ all_verdict_line routes.verdict (multicast_verdict net tables all);
  is_safe = all_are_safe routes.verdict (multicast_verdict net tables all);
}

unfoldable pub audit_with : Bool → NetState → List MaskTable → AuditState
audit_with whole net tables = with_multicast net tables (findings_of whole net) (all_found net tables)

abbrev pub audit_multicast : Bool → TopologyState → DumpState → MftState → AuditState
audit_multicast whole topology dump mfts = audit_with whole (record { plan = plan_of topology; dump = dump }) mfts.tables

abbrev pub audit_multicast_found : Bool → DiscoveryState → DumpState → MftState → AuditState
audit_multicast_found whole found dump mfts = audit_with whole (record { plan = plan_found found; dump = dump }) mfts.tables
