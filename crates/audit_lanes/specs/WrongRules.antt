-- Wrong rules for what is reported of lanes, and the law that each breaks.
use Rattle.std.specs.Prelude.{ℕ, ◌+◌, ◌==◌, ◌&&◌, ◌||◌, Bool, true, false, not, List, [], ◌∷◌, codes, filter, flat_map, map, Option, Some, None, option_map}
use Rattle.std.specs.List.{list_all}
use Rattle.std.specs.Option.{option_map_or}
use Rattle.fabric_parts.specs.Cable.{port}
use Rattle.fabric_parts.specs.declared.cable.PortRef.{PortRef}
use Rattle.fabric_parts.specs.declared.node_type.NodeType.TheVariants.{ChannelAdapter, Switch}
use Rattle.sl2vl_file.specs.declared.path.PathSl.{PathSl}
use Rattle.sl2vl_file.specs.declared.row.LaneRow.{LaneRow}
use Rattle.sl2vl_file.specs.Lanes.{LanesState}
use Rattle.topo_file.specs.Topology.{TopologyState}
use Rattle.audit_net.specs.Following.{switch_total}
use Rattle.audit_loops.specs.Channels.{deadlock, leads_to}
use Rattle.audit_net.specs.Net.{NetState}
use Rattle.audit_net.specs.SmallNets.{a_table}
use Rattle.audit_plan.specs.Plan.{plan_of}
use Rattle.audit_net.specs.declared.lids.Aim.{Aim}
use Rattle.audit_routes.specs.Loops.{credit_loop, lids_of}
use Rattle.audit_routes.specs.Verdict.{reasons, with_reason}
use Rattle.audit_routes.specs.declared.verdict.Verdict.{Verdict}
use Rattle.audit_lanes.specs.declared.hop.Hop.{Hop}
use Rattle.audit_lanes.specs.declared.lane.Lane.{Lane}
use Rattle.audit_lanes.specs.declared.owned.OwnedLid.{OwnedLid}
use Rattle.audit_lanes.specs.declared.verdict.LaneVerdict.{LaneVerdict}
use Rattle.audit_lanes.specs.Audit.{lane_findings}
use Rattle.audit_lanes.specs.Deadlock.{deadlock_among, lane_deadlock}
use Rattle.audit_lanes.specs.Lanes.{lane, lanes, some_take, waits}
use Rattle.audit_lanes.specs.Laws.{AreEnoughHops, LanesFollowChannels, MissesNone, NamesAllReasons, PrintsLanes, Reports, ReportsCycles, ReportsSafeLanes, Waiting, says_of_lanes, waits_by_records}
use Rattle.audit_lanes.specs.Records.{has_record, is_pair, owned}
use Rattle.audit_lanes.specs.Tables.{TablesState}
use Rattle.audit_lanes.specs.Verdict.{joined}

-- ---- a switch with a cable from its port 1 to its port 2, and a CA at port 3. It sends LID 1 out of port 1, so packets of the CA come
-- in at port 3 first, and at port 2 from then on. By the rows they leave on VL 0 first, and on VL 1 from then on
abbrev pub round_cabled : TopologyState
round_cabled = record {
  nodes = record { name = codes "A"; node_type = Switch; guid = 16; ports = 3 }
      ∷ record { name = codes "h"; node_type = ChannelAdapter; guid = 256; ports = 1 } ∷ [];
  cables = record { first = port 0 1; second = port 0 2 } ∷ record { first = port 0 3; second = port 1 1 } ∷ [];
  roots = [];
  sm = port 1 1;
}

abbrev pub round_net : NetState
round_net = record { plan = plan_of round_cabled; dump = record { tables = a_table 16 1 ∷ [] } }

-- LID 2 is the switch's; the VL is that of SL 0
abbrev pub round_row : (input vl : ℕ) → LaneRow
round_row input vl = record { line = 1; lid = 2; input = input; output = 1; lanes = vl ∷ [] }

abbrev pub round_tables : TablesState
round_tables = record { aims = record { lid = 2; guid = None; end = Some (port 0 0) } ∷ []; rows = round_row 3 0 ∷ round_row 2 1 ∷ [] }

abbrev pub round_path : PathSl
round_path = record { source = 3; destination = 1; sl = 0 }

-- ---- packets are followed through as many switches as there are
abbrev pub OneRoundIsNotEnough : Type 0
OneRoundIsNotEnough = AreEnoughHops switch_total → ⊥

abbrev pub is_on_vl_1 : Hop → Bool
is_on_vl_1 hop = option_map_or (λ vl. vl == 1) hop.vl false

-- ---- and through one more
abbrev pub one_more : NetState → ℕ
one_more net = switch_total net + 1

abbrev pub OneMoreIsNotEnough : Type 0
OneMoreIsNotEnough = AreEnoughHops one_more → ⊥

-- ---- of two switches with a cable that send LID 1 to one another, whose LID 1 is: a CA's, a switch's, nobody's
abbrev pub lid_1_of : Option PortRef → List Aim
lid_1_of end = record { lid = 1; guid = None; end = end } ∷ []

abbrev pub adapters : List Aim
adapters = lid_1_of (Some (port 2 1))

abbrev pub switches_own : List Aim
switches_own = lid_1_of (Some (port 0 0))

abbrev pub nobodys : List Aim
nobodys = lid_1_of None

-- both ports, on this VL
abbrev pub both_on : ℕ → List Lane
both_on vl = lane (port 0 1) vl ∷ lane (port 1 1) vl ∷ []

-- packets that leave by the one port, and then by the other
abbrev pub hop_on : ℕ → ℕ → Hop
hop_on vl place = record { crossing = record { place = place; input = 1; output = 1 }; sl = 0; vl = Some vl }

abbrev pub two_hops : ℕ → ℕ → ℕ → List Hop
two_hops vl first second = hop_on vl first ∷ hop_on vl second ∷ []

abbrev pub round_on : ℕ → List (List Hop)
round_on vl = two_hops vl 0 1 ∷ two_hops vl 1 0 ∷ []

-- ---- a loop of channels is one of lanes
abbrev pub on_one_lane : Option (List PortRef) → Option (List Lane)
on_one_lane found = option_map (map (λ at. lane at 0)) found

abbrev pub as_if_one_lane : Reports
as_if_one_lane net aims all = on_one_lane (credit_loop net aims)

abbrev pub LanesAreApart : Type 0
LanesAreApart = ReportsCycles as_if_one_lane → ⊥

-- ---- VL 0 alone is looked at
abbrev pub is_first : Lane → Bool
is_first one = one.vl == 0

abbrev pub among_first : Reports
among_first net aims all = deadlock_among (waits net aims all) (filter is_first (lanes net))

abbrev pub EachVlCounts : Type 0
EachVlCounts = MissesNone among_first → ⊥

-- ---- LIDs of which no record can be do not count
abbrev pub waits_by_hops : NetState → List (List Hop) → Lane → Lane → Bool
waits_by_hops net all a b = leads_to net a.at b.at.node && some_take all a b

abbrev pub by_hops_alone : Reports
by_hops_alone net aims all = deadlock_among (waits_by_hops net all) (lanes net)

abbrev pub UnplacedLidsCount : Type 0
UnplacedLidsCount = MissesNone by_hops_alone → ⊥

-- ---- a lane waits for each lane behind it that has its VL
abbrev pub waits_anyhow : Waiting
waits_anyhow net tables paths a b = leads_to net a.at b.at.node && (a.vl == b.vl)

abbrev pub PacketsFollowEntries : Type 0
PacketsFollowEntries = LanesFollowChannels waits_anyhow lane_deadlock → ⊥

-- ---- the LIDs of switches count
abbrev pub with_switch_lids : Reports
with_switch_lids net aims all = on_one_lane (deadlock net (lids_of aims))

abbrev pub SwitchLidsDoNotCount : Type 0
SwitchLidsDoNotCount = LanesFollowChannels waits_by_records with_switch_lids → ⊥

-- ---- dropped packets are no reason
abbrev pub reasons_but_drops : Verdict → LaneVerdict → List ℕ
reasons_but_drops routes lanes = reasons (joined routes lanes)

abbrev pub DropsAreAReason : Type 0
DropsAreAReason = NamesAllReasons reasons_but_drops → ⊥

-- ---- a deadlock by the entries is a reason
abbrev pub reasons_by_entries : Verdict → LaneVerdict → List ℕ
reasons_by_entries routes lanes = with_reason (not lanes.drops) (codes "dropped") (reasons routes)

abbrev pub LanesDecideOnDeadlocks : Type 0
LanesDecideOnDeadlocks = NamesAllReasons reasons_by_entries → ⊥

abbrev pub routes_that : (free : Bool) → Verdict
routes_that free = record { has_lids = true; is_reached = true; is_free = free; is_same = true; is_known = true; loses = false; lacks_entries = false }

abbrev pub lanes_that : (drop : Bool) → LaneVerdict
lanes_that drop = record { is_free = true; has_paths = true; has_rows = true; drops = drop }

-- ---- a record either way is enough
abbrev pub has_either : List PathSl → OwnedLid → OwnedLid → Bool
has_either paths a b = has_record paths a b || has_record paths b a

abbrev pub either_from : List PathSl → List OwnedLid → OwnedLid → List Bool
either_from paths all a = map (has_either paths a) (filter (is_pair a) all)

abbrev pub with_either : NetState → TablesState → List PathSl → LaneVerdict
with_either net tables paths =
    record (says_of_lanes net tables paths) { has_paths = list_all (λ is. is) (flat_map (either_from paths (owned net tables.aims)) (owned net tables.aims)) }

abbrev pub EachWayHasItsRecord : Type 0
EachWayHasItsRecord = ReportsSafeLanes with_either → ⊥

-- of two CAs that no cable joins, with LIDs 1 and 2, there is a record from LID 1 to LID 2
abbrev pub apart_net : NetState
apart_net = record {
  plan = plan_of (record {
    nodes = record { name = codes "h"; node_type = ChannelAdapter; guid = 256; ports = 1 }
        ∷ record { name = codes "i"; node_type = ChannelAdapter; guid = 512; ports = 1 } ∷ [];
    cables = [];
    roots = [];
    sm = port 0 1;
  });
  dump = record { tables = [] };
}

abbrev pub apart_tables : TablesState
apart_tables = record { aims = record { lid = 1; guid = None; end = Some (port 0 1) } ∷ record { lid = 2; guid = None; end = Some (port 1 1) } ∷ []; rows = [] }

abbrev pub there_alone : List PathSl
there_alone = record { source = 1; destination = 2; sl = 0 } ∷ []

-- ---- rows that are missing are not looked at
abbrev pub without_rows : NetState → TablesState → List PathSl → LaneVerdict
without_rows net tables paths = record (says_of_lanes net tables paths) { has_rows = true }

abbrev pub MissingRowsAreUnknown : Type 0
MissingRowsAreUnknown = ReportsSafeLanes without_rows → ⊥

-- LIDs 1 and 3 are of the CA at the switch with a cable to itself, and no row is known
abbrev pub own_tables : List LaneRow → TablesState
own_tables rows = record {
  aims = record { lid = 1; guid = None; end = Some (port 1 1) } ∷ record { lid = 3; guid = None; end = Some (port 1 1) } ∷ [];
  rows = rows;
}

-- ---- packets are dropped, and that is no matter
abbrev pub without_drops : NetState → TablesState → List PathSl → LaneVerdict
without_drops net tables paths = record (says_of_lanes net tables paths) { drops = false }

abbrev pub DroppedPacketsAreLost : Type 0
DroppedPacketsAreLost = ReportsSafeLanes without_drops → ⊥

-- LIDs 1 and 3 are the CA's, and LID 2 the switch's, whose row from port 3 to port 1 has VL 15
abbrev pub dropping_tables : TablesState
dropping_tables = record {
  aims = record { lid = 1; guid = None; end = Some (port 1 1) }
      ∷ record { lid = 2; guid = None; end = Some (port 0 0) } ∷ record { lid = 3; guid = None; end = Some (port 1 1) } ∷ [];
  rows = round_row 3 15 ∷ [];
}

-- ---- what is found of lanes is printed alone
abbrev pub lanes_alone : NetState → LanesState → List ℕ
lanes_alone net lanes = (lane_findings net lanes).text

abbrev pub RoutesArePrintedToo : Type 0
RoutesArePrintedToo = PrintsLanes true lanes_alone → ⊥
