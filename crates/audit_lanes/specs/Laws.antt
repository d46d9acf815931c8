-- What is so of all fabrics, dumps and records: the statements of the laws of `src/laws.rt`.
use Rattle.std.specs.Prelude.{ℕ, ◌≡◌, ◌&&◌, Bool, true, false, not, List, [], ◌∷◌, ◌++◌, codes, filter, slice_get, Option, Some, None}
use Rattle.std.specs.List.{list_all, list_any}
use Rattle.std.specs.Str.Iter.{HasSubslice}
use Rattle.fabric_parts.specs.Cable.{far_end, is_same_port}
use Rattle.fabric_parts.specs.declared.cable.PortRef.{PortRef}
use Rattle.sl2vl_file.specs.declared.path.PathSl.{PathSl}
use Rattle.sl2vl_file.specs.Lanes.{LanesState}
use Rattle.topo_file.specs.Node.{is_switch_at}
use Rattle.audit_loops.specs.Channels.{deadlock, depends}
use Rattle.audit_net.specs.Net.{NetState}
use Rattle.audit_net.specs.declared.lids.Aim.{Aim}
use Rattle.audit_net.specs.Lids.{aims}
use Rattle.audit_routes.specs.Audit.{findings_of}
use Rattle.audit_routes.specs.Loops.{lids_of}
use Rattle.audit_routes.specs.Laws.{has_word}
use Rattle.audit_routes.specs.Verdict.{is_others, leads, verdict_by}
use Rattle.audit_routes.specs.declared.verdict.Verdict.{Verdict}
use Rattle.audit_lanes.specs.declared.hop.Crossing.{Crossing}
use Rattle.audit_lanes.specs.declared.hop.Hop.{Hop}
use Rattle.audit_lanes.specs.declared.lane.Lane.{Lane}
use Rattle.audit_lanes.specs.declared.owned.OwnedLid.{OwnedLid}
use Rattle.audit_lanes.specs.declared.verdict.LaneVerdict.{LaneVerdict}
use Rattle.audit_lanes.specs.Audit.{audit_with}
use Rattle.audit_lanes.specs.Deadlock.{lane_deadlock}
use Rattle.audit_lanes.specs.Hops.{enough_hops, hops_within, is_dropped, lacks_row, traces}
use Rattle.audit_lanes.specs.Lanes.{is_same_lane, lanes, takes_both, waits}
use Rattle.audit_lanes.specs.Lines.{crossings, dropped_lines, no_path_line, no_row_line}
use Rattle.audit_lanes.specs.Records.{owned}
use Rattle.audit_lanes.specs.Tables.{TablesState, others_end}
use Rattle.audit_lanes.specs.Verdict.{all_are_safe, all_reasons, lane_verdict}

-- ---- hops
-- so many are enough, from a port of a switch on: however far packets are followed, no other hop is found,
pub record AreEnoughHops (many : NetState → ℕ) : Type 0 where
  pub hops : (net : NetState) (tables : TablesState) (path : PathSl) (at : PortRef) (test : Hop → Bool) (count : ℕ) → is_switch_at net.plan.nodes at.node ≡ true
      → list_any test (hops_within net tables path count at) ≡ true → list_any test (hops_within net tables path (many net) at) ≡ true
  -- and no other two lanes one behind the other
  pub lanes : (net : NetState) (tables : TablesState) (path : PathSl) (at : PortRef) (a b : Lane) (count : ℕ) → is_switch_at net.plan.nodes at.node ≡ true
      → takes_both a b (hops_within net tables path count at) ≡ true → takes_both a b (hops_within net tables path (many net) at) ≡ true

abbrev pub NoHopIsMissed : Type 0
NoHopIsMissed = AreEnoughHops enough_hops

-- ---- cycles of lanes
-- each waits for the next, and the last for this one
abbrev pub wait_round : (Lane → Lane → Bool) → Lane → List Lane → Bool
wait_round waits first [] = false
wait_round waits first (a ∷ []) = waits a first
wait_round waits first (a ∷ b ∷ rest) = waits a b && wait_round waits first (b ∷ rest)

abbrev pub is_cycle : (Lane → Lane → Bool) → List Lane → Bool
is_cycle waits [] = false
is_cycle waits (a ∷ rest) = wait_round waits a (a ∷ rest)

abbrev pub are_lanes : NetState → List Lane → Bool
are_lanes net ring = list_all (λ one. list_any (is_same_lane one) (lanes net)) ring

-- what finds a cycle, by what is known of LIDs and the hops of records
abbrev pub Reports : Type 0
Reports = NetState → List Aim → List (List Hop) → Option (List Lane)

-- what is reported is a cycle, of lanes that wait for one another
abbrev pub ReportsCycles : Reports → Type 0
ReportsCycles reports =
    (net : NetState) (aims : List Aim) (all : List (List Hop)) (ring : List Lane) → reports net aims all ≡ Some ring
    → (are_lanes net ring ≡ true) × (is_cycle (waits net aims all) ring ≡ true)

abbrev pub LaneCyclesWait : Type 0
LaneCyclesWait = ReportsCycles lane_deadlock

-- if none is reported no lanes wait for one another in a cycle, however long
abbrev pub MissesNone : Reports → Type 0
MissesNone reports =
    (net : NetState) (aims : List Aim) (all : List (List Hop)) → reports net aims all ≡ None → (ring : List Lane) → are_lanes net ring ≡ true
    → is_cycle (waits net aims all) ring ≡ false

abbrev pub NoLaneCycleIsMissed : Type 0
NoLaneCycleIsMissed = MissesNone lane_deadlock

-- ---- lanes and channels
-- a lane waits for another only if its channel depends on the other's along LIDs that are not switches'
abbrev pub other_lids : NetState → List Aim → List ℕ
other_lids net aims = lids_of (filter (is_others net) aims)

abbrev pub Waiting : Type 0
Waiting = NetState → TablesState → List PathSl → Lane → Lane → Bool

pub record LanesFollowChannels (waiting : Waiting) (reports : Reports) : Type 0 where
  pub waits : (net : NetState) (tables : TablesState) (paths : List PathSl) (a b : Lane) → waiting net tables paths a b ≡ true
      → depends net (other_lids net tables.aims) a.at b.at ≡ true
  -- so if these LIDs make no credit loop by the entries, each of which counts at all switches, there is none by lanes
  pub free : (net : NetState) (tables : TablesState) (paths : List PathSl) → deadlock net (other_lids net tables.aims) ≡ None
      → reports net tables.aims (traces net tables paths) ≡ None

abbrev pub waits_by_records : Waiting
waits_by_records net tables paths a b = waits net tables.aims (traces net tables paths) a b

abbrev pub LanesMakeNoLoop : Type 0
LanesMakeNoLoop = LanesFollowChannels waits_by_records lane_deadlock

-- ---- a verdict that is not safe has a reason, and each reason is named if and only if it holds
pub record NamesAllReasons (words : Verdict → LaneVerdict → List ℕ) : Type 0 where
  pub some : (net : NetState) (all : List Aim) (ring : Option (List PortRef)) (lanes : LaneVerdict)
      → all_are_safe (verdict_by net all ring) lanes ≡ false → words (verdict_by net all ring) lanes ≡ [] → ⊥
  pub lids : (routes : Verdict) (lanes : LaneVerdict) → has_word (codes "no-lid") (words routes lanes) ≡ not routes.has_lids
  pub pairs : (routes : Verdict) (lanes : LaneVerdict) → has_word (codes "unreached") (words routes lanes) ≡ routes.loses
  pub waits : (routes : Verdict) (lanes : LaneVerdict) → has_word (codes "deadlock") (words routes lanes) ≡ not lanes.is_free
  pub names : (routes : Verdict) (lanes : LaneVerdict) → has_word (codes "mismatch") (words routes lanes) ≡ not routes.is_same
  pub entries : (routes : Verdict) (lanes : LaneVerdict)
      → has_word (codes "unknown") (words routes lanes) ≡ not ((routes.is_known && (lanes.has_paths && lanes.has_rows)) && not routes.lacks_entries)
  pub drops : (routes : Verdict) (lanes : LaneVerdict) → has_word (codes "dropped") (words routes lanes) ≡ lanes.drops

abbrev pub AllReasonsAreNamed : Type 0
AllReasonsAreNamed = NamesAllReasons all_reasons

-- ---- what is safe by virtual lanes
-- the LID is that of an end port of the fabric, which is not a switch's
pub record IsOwned (net : NetState) (aims : List Aim) (one : OwnedLid) : Type 0 where
  pub place : ℕ
  pub aim : Aim
  pub there : slice_get aims place ≡ Some aim
  pub lid : aim.lid ≡ one.lid
  pub end : aim.end ≡ Some one.end
  pub others : is_switch_at net.plan.nodes one.end.node ≡ false

-- there is a path record from the one LID to the other
pub record HasRecord (paths : List PathSl) (source destination : ℕ) : Type 0 where
  pub place : ℕ
  pub path : PathSl
  pub there : slice_get paths place ≡ Some path
  pub from : path.source ≡ source
  pub to : path.destination ≡ destination

-- packets of any path record, from the switch on to which the port of its source is cabled, and however far they go, take no such hop
abbrev pub TakeNoHop : NetState → TablesState → List PathSl → (Hop → Bool) → Type 0
TakeNoHop net tables paths test =
    (place count : ℕ) (path : PathSl) (from to at : PortRef) → slice_get paths place ≡ Some path
    → others_end net tables.aims path.source ≡ Some from → others_end net tables.aims path.destination ≡ Some to
    → far_end net.plan.cables from ≡ Some at → is_switch_at net.plan.nodes at.node ≡ true → list_any test (hops_within net tables path count at) ≡ false

pub record AreSafeLanes (net : NetState) (tables : TablesState) (paths : List PathSl) : Type 0 where
  -- no lanes wait for one another in a cycle, however long
  pub free : (ring : List Lane) → are_lanes net ring ≡ true → is_cycle (waits_by_records net tables paths) ring ≡ false
  -- there is a record of each two of these LIDs, either way, unless both are of one port
  pub named : (a b : OwnedLid) → IsOwned net tables.aims a → IsOwned net tables.aims b → is_same_port a.end b.end ≡ false → HasRecord paths a.lid b.lid
  -- there is a row for each hop of their packets, and none is dropped
  pub known : TakeNoHop net tables paths lacks_row
  pub kept : TakeNoHop net tables paths is_dropped

-- this says so if and only if routes are safe by virtual lanes: they are safe, credit loops aside, and so are the lanes
pub record ReportsSafeLanes (says : NetState → TablesState → List PathSl → LaneVerdict) : Type 0 where
  pub safe : (net : NetState) (tables : TablesState) (paths : List PathSl) (routes : Verdict) → all_are_safe routes (says net tables paths) ≡ true
      → (leads routes ≡ true) × AreSafeLanes net tables paths
  pub reported : (net : NetState) (tables : TablesState) (paths : List PathSl) (routes : Verdict) → leads routes ≡ true
      → AreSafeLanes net tables paths → all_are_safe routes (says net tables paths) ≡ true

abbrev pub says_of_lanes : NetState → TablesState → List PathSl → LaneVerdict
says_of_lanes net tables paths =
    lane_verdict net tables.aims paths (traces net tables paths) (lane_deadlock net tables.aims (traces net tables paths))

abbrev pub SafeLanesAreReported : Type 0
SafeLanesAreReported = ReportsSafeLanes says_of_lanes

-- ---- the text
-- the hops of the packets of each path record
abbrev pub all_traces : NetState → LanesState → List (List Hop)
all_traces net lanes = traces net (record { aims = aims net; rows = lanes.rows }) lanes.paths

-- the text has each line: of each LID to which paths lack a record, and of each two ports of a switch for which a row is lacking, or
-- between which packets are dropped
pub record PrintsLanes (whole : Bool) (text : NetState → LanesState → List ℕ) : Type 0 where
  pub paths : (net : NetState) (lanes : LanesState) (index : ℕ) (source : OwnedLid) → slice_get (owned net (aims net)) index ≡ Some source
      → HasSubslice (text net lanes) (no_path_line net lanes.paths (owned net (aims net)) source)
  pub rows : (net : NetState) (lanes : LanesState) (index : ℕ) (here : Crossing) → slice_get (crossings net) index ≡ Some here
      → HasSubslice (text net lanes) (no_row_line net (all_traces net lanes) here)
  pub drops : (net : NetState) (lanes : LanesState) (index : ℕ) (here : Crossing) → slice_get (crossings net) index ≡ Some here
      → HasSubslice (text net lanes) (dropped_lines net (all_traces net lanes) here)
  -- it begins with what an audit without lanes prints before its verdict
  pub routes : (net : NetState) (lanes : LanesState) → (rest : List ℕ) × (text net lanes ≡ (findings_of whole net).text ++ rest)

abbrev pub LanesArePrinted : Type 0
LanesArePrinted = (whole : Bool) → PrintsLanes whole (λ net lanes. (audit_with whole net lanes).text)
