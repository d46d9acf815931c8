-- Wrong rules for what is reported, and the law that each breaks.
use Rattle.std.specs.Prelude.{ℕ, ◌&&◌, ◌||◌, Bool, true, false, not, List, [], ◌∷◌, ◌++◌, codes, count_by, filter, flat_map, is_some, find, get_or, take, if◌then◌else◌, Option, None, Some, ◌+◌, ◌*◌, length, map}
use Rattle.std.specs.List.{list_all, list_any}
use Rattle.std.specs.Option.{option_map_or}
use Rattle.dump_file.specs.declared.destination.Destination.TheVariants as destinations
use Rattle.dump_file.specs.declared.row.Row.{Row}
use Rattle.dump_file.specs.declared.table.Table.{Table}
use Rattle.fabric_parts.specs.Cable.{port}
use Rattle.fabric_parts.specs.declared.cable.PortRef.{PortRef}
use Rattle.fabric_parts.specs.declared.node_type.NodeType.TheVariants.{ChannelAdapter}
use Rattle.topo_file.specs.Node.{is_switch_at}
use Rattle.topo_file.specs.Topology.{TopologyState}
use Rattle.audit_net.specs.declared.following.Fate.{Fate}
use Rattle.audit_net.specs.declared.following.Fate.TheVariants as fates
use Rattle.audit_net.specs.declared.following.Turn.{Turn}
use Rattle.audit_net.specs.declared.following.Turn.TheVariants as turns
use Rattle.audit_net.specs.declared.lids.Aim.{Aim}
use Rattle.audit_routes.specs.declared.pairs.Pair.{Pair}
use Rattle.audit_routes.specs.declared.verdict.Verdict.{Verdict}
use Rattle.audit_routes.specs.Loops.{closing, credit_loop, lids_of, loops_of}
use Rattle.audit_routes.specs.Audit.{counts_by, decides_nothing, lines_by}
use Rattle.audit_routes.specs.Deciding.{counted_line, host_switches, is_entered, losers, places_line}
use Rattle.audit_loops.specs.Channels.{deadlock, leaves_by}
use Rattle.topo_file.specs.Connectivity.{switches}
use Rattle.audit_net.specs.Following.{fate, turn}
use Rattle.audit_routes.specs.Laws.{AddUp, CountsTheRest, EachReasonHasItsLine, NamesLost, NamesReasons, PrintsLines, PrintsLost, NamesUnknown, ReportsClosing, ReportsLeading, ReportsSafe, ReportsTroubles, says_safe, whole_text}
use Rattle.audit_net.specs.Lids.{aims, is_lacking}
use Rattle.audit_routes.specs.Lines.{apart_line, stray_line, trouble_line, troubles_by}
use Rattle.audit_net.specs.Net.{NetState, has_table}
use Rattle.audit_routes.specs.Pairs.{all_reached, is_fate, pairs_by}
use Rattle.audit_plan.specs.Plan.{plan_of}
use Rattle.audit_routes.specs.Verdict.{have_tables, is_aggregations, is_known, is_others, is_unknown, verdict_by, verdict_is_safe, with_reason, is_lost_by}
use Rattle.audit_plan.specs.Examples.{a_switch}
use Rattle.audit_net.specs.SmallNets.{a_plan, a_row, adapters_row, a_routers_row, with_rows, two_with, a_hole}

-- ---- pairs that come to a hole are not counted
abbrev pub count_but_holes : Fate → List Pair → ℕ
count_but_holes fate pairs = count_by (λ pair. is_fate fate pair.fate && not (is_fate fates.Hole fate)) pairs

abbrev pub HolesAreCounted : Type 0
HolesAreCounted = AddUp count_but_holes → ⊥

-- ---- a LID that leaves by a channel closes the loop, wherever it goes on from there
abbrev pub leaving : NetState → (decides : Bool) → List Aim → List PortRef → ℕ → Option Aim
leaving net decides all ring index = find (λ aim. leaves_by net (get_or ring index (port 0 0)) aim.lid) all

abbrev pub LidsGoOnRound : Type 0
LidsGoOnRound = ReportsClosing leaving → ⊥

-- both LIDs go from the first switch to the second, the second LID alone back from there
abbrev pub one_way : NetState
one_way = two_with (adapters_row 2 ∷ a_routers_row 2 ∷ []) (a_routers_row 1 ∷ [])

abbrev pub both_ways : List Aim
both_ways = record { lid = 1; guid = None; end = None } ∷ record { lid = 2; guid = None; end = None } ∷ []

-- ---- the LID that closes the first step is printed for each
-- three switches in a ring, each with a cable from its port 1 to port 2 of the next
abbrev pub three_cabled : TopologyState
three_cabled = record {
  nodes = a_switch (codes "A") 16 ∷ a_switch (codes "B") 32 ∷ a_switch (codes "C") 48 ∷ [];
  cables = record { first = port 0 1; second = port 1 2 } ∷ record { first = port 1 1; second = port 2 2 }
      ∷ record { first = port 2 1; second = port 0 2 } ∷ [];
  roots = [];
  sm = port 0 2;
}

-- a table that sends these two LIDs out of port 1
abbrev pub by_port_1 : ℕ → ℕ → ℕ → Table
by_port_1 guid one other = record { line = 1; guid = guid; top = 3; rows = a_row one 1 destinations.Nobody ∷ a_row other 1 destinations.Nobody ∷ [] }

-- each LID goes over two of the three
abbrev pub three_ways : NetState
three_ways = record { plan = plan_of three_cabled; dump = record { tables = by_port_1 16 1 3 ∷ by_port_1 32 1 2 ∷ by_port_1 48 2 3 ∷ [] } }

abbrev pub all_three : List Aim
all_three = record { lid = 1; guid = None; end = None } ∷ record { lid = 2; guid = None; end = None } ∷ record { lid = 3; guid = None; end = None } ∷ []

abbrev pub of_the_first_step : NetState → (decides : Bool) → List Aim → List PortRef → ℕ → Option Aim
of_the_first_step net decides all ring index = closing net decides all ring 0

abbrev pub EachStepHasItsLid : Type 0
EachStepHasItsLid = ReportsClosing of_the_first_step → ⊥

-- ---- what the verdict asks, and what it does not
abbrev pub verdict_of : NetState → Verdict
verdict_of net = verdict_by net (aims net) (credit_loop net (aims net))

-- an adapter's port need not have a LID
abbrev pub without_lids : NetState → Bool
without_lids net = (verdict_of net).is_reached && ((verdict_of net).is_free && ((verdict_of net).is_same && (verdict_of net).is_known))

abbrev pub LidsAreAsked : Type 0
LidsAreAsked = ReportsSafe without_lids → ⊥

abbrev pub no_lids : NetState
no_lids = two_with [] []

-- LIDs need not be reached
abbrev pub without_ways : NetState → Bool
without_ways net = (verdict_of net).has_lids && ((verdict_of net).is_free && ((verdict_of net).is_same && (verdict_of net).is_known))

abbrev pub WaysAreAsked : Type 0
WaysAreAsked = ReportsSafe without_ways → ⊥

-- the first switch, to which the adapter is attached, has no entry for its LID
abbrev pub a_hole_at_home : NetState
a_hole_at_home = two_with (adapters_row 255 ∷ []) (adapters_row 1 ∷ [])

-- LIDs have to be reached from each switch, also from those to which no host is attached
abbrev pub from_each_switch : NetState → Bool
from_each_switch net = all_reached (filter (λ pair. not pair.to_switch) (pairs_by net (aims net))) && verdict_is_safe (verdict_of net)

abbrev pub TransitDecidesNothing : Type 0
TransitDecidesNothing = ReportsSafe from_each_switch → ⊥

-- LIDs of aggregation nodes have to be reached
abbrev pub to_each_adapter : NetState → Bool
to_each_adapter net = all_reached (filter (λ pair. not pair.to_switch && pair.from_hosts) (pairs_by net (aims net))) && verdict_is_safe (verdict_of net)

abbrev pub AggregationDecidesNothing : Type 0
AggregationDecidesNothing = ReportsSafe to_each_adapter → ⊥

-- an aggregation node is attached to port 2 of the second switch, and the first has no entry for its LID 2
abbrev pub with_aggregation : TopologyState
with_aggregation = record {
  nodes = a_plan.nodes ++ record { name = codes "Aggregation Node"; node_type = ChannelAdapter; guid = 512; ports = 1 } ∷ [];
  cables = a_plan.cables ++ record { first = port 1 2; second = port 3 1 } ∷ [];
  roots = [];
  sm = port 2 1;
}

abbrev pub aggregations_row : ℕ → Row
aggregations_row number = a_row 2 number (destinations.ChannelAdapter 513)

abbrev pub an_aggregations_hole : NetState
an_aggregations_hole = record {
  plan = record (plan_of with_aggregation) { aggregation = false ∷ false ∷ false ∷ true ∷ [] };
  dump = record { tables = with_rows 16 (adapters_row 1 ∷ aggregations_row 255 ∷ []) ∷ with_rows 32 (adapters_row 1 ∷ aggregations_row 2 ∷ []) ∷ [] };
}

-- credit loops are looked for along the LIDs of adapters alone
abbrev pub is_adapters : NetState → Aim → Bool
is_adapters net aim = option_map_or (λ end. not (is_switch_at net.plan.nodes end.node)) aim.end false

abbrev pub by_adapters_lids : NetState → Bool
by_adapters_lids net = verdict_is_safe (verdict_by net (aims net) (deadlock net (lids_of (filter (is_adapters net) (aims net)))))

abbrev pub OtherLidsDecide : Type 0
OtherLidsDecide = ReportsSafe by_adapters_lids → ⊥

-- each switch sends the LID of a router to the other
abbrev pub a_routers_loop : NetState
a_routers_loop = two_with (adapters_row 1 ∷ a_routers_row 2 ∷ []) (adapters_row 1 ∷ a_routers_row 1 ∷ [])

-- credit loops are looked for along LIDs of aggregation nodes at all switches
abbrev pub by_all_entries : NetState → Bool
by_all_entries net = verdict_is_safe (verdict_by net (aims net) (deadlock net (lids_of (filter (is_others net) (aims net)))))

abbrev pub LoopsOfAggregationDecideNothing : Type 0
LoopsOfAggregationDecideNothing = ReportsSafe by_all_entries → ⊥

-- two switches B and C send LID 2 of an aggregation node to one another. A host is attached to A, to which B is, and packets of
-- hosts leave A for B if this entry of A is 2
abbrev pub with_third : TopologyState
with_third = record {
  nodes = a_switch (codes "A") 16 ∷ a_switch (codes "B") 32 ∷ record { name = codes "h"; node_type = ChannelAdapter; guid = 256; ports = 1 }
      ∷ record { name = codes "Aggregation Node"; node_type = ChannelAdapter; guid = 512; ports = 1 } ∷ a_switch (codes "C") 48 ∷ [];
  cables = record { first = port 0 1; second = port 2 1 } ∷ record { first = port 0 2; second = port 1 1 }
      ∷ record { first = port 1 2; second = port 4 1 } ∷ record { first = port 4 2; second = port 3 1 } ∷ [];
  roots = [];
  sm = port 2 1;
}

abbrev pub an_aggregations_loop : (first : ℕ) → NetState
an_aggregations_loop first = record {
  plan = record (plan_of with_third) { aggregation = false ∷ false ∷ false ∷ true ∷ false ∷ [] };
  dump = record {
    tables = with_rows 16 (adapters_row 1 ∷ aggregations_row first ∷ []) ∷ with_rows 32 (adapters_row 1 ∷ aggregations_row 2 ∷ [])
        ∷ with_rows 48 (adapters_row 1 ∷ aggregations_row 1 ∷ []) ∷ [];
  };
}

-- ---- a LID of an aggregation node closes the loop that decides, though packets of hosts do not come there
abbrev pub anywhere : NetState → (decides : Bool) → List Aim → List PortRef → ℕ → Option Aim
anywhere net decides all ring index = closing net false all ring index

abbrev pub ClosingLidsCountThere : Type 0
ClosingLidsCountThere = ReportsClosing anywhere → ⊥

-- B and C send LID 3 of nobody to one another too
abbrev pub nobodys_row : ℕ → Row
nobodys_row number = a_row 3 number destinations.Nobody

abbrev pub two_loops : NetState
two_loops = record {
  plan = (an_aggregations_loop 255).plan;
  dump = record { tables = with_rows 16 [] ∷ with_rows 32 (aggregations_row 2 ∷ nobodys_row 2 ∷ []) ∷ with_rows 48 (aggregations_row 1 ∷ nobodys_row 1 ∷ []) ∷ [] };
}

abbrev pub aggregations_aim : Aim
aggregations_aim = record { lid = 2; guid = Some 513; end = Some (port 3 1) }

abbrev pub two_aims : List Aim
two_aims = aggregations_aim ∷ record { lid = 3; guid = None; end = None } ∷ []

-- ---- credit loops are looked for along LIDs of aggregation nodes at no switch
abbrev pub is_no_aggregations : NetState → Aim → Bool
is_no_aggregations net aim = is_others net aim && not (is_aggregations net aim)

abbrev pub without_aggregation : NetState → Bool
without_aggregation net = verdict_is_safe (verdict_by net (aims net) (deadlock net (lids_of (filter (is_no_aggregations net) (aims net)))))

abbrev pub LoopsOfHostsDecide : Type 0
LoopsOfHostsDecide = ReportsSafe without_aggregation → ⊥

-- the dump may have a table of a switch that the fabric lacks
abbrev pub with_other_tables : NetState → Bool
with_other_tables net =
    (verdict_of net).has_lids && ((verdict_of net).is_reached && ((verdict_of net).is_free
    && (have_tables net && (not (list_any (is_lacking net) (aims net)) && (verdict_of net).is_known))))

abbrev pub OtherTablesDecide : Type 0
OtherTablesDecide = ReportsSafe with_other_tables → ⊥

abbrev pub a_third_table : NetState
a_third_table = record {
  plan = plan_of a_plan;
  dump = record { tables = with_rows 16 (adapters_row 1 ∷ []) ∷ with_rows 32 (adapters_row 1 ∷ []) ∷ with_rows 48 (adapters_row 1 ∷ []) ∷ [] };
}

-- and a LID of an adapter that it lacks
abbrev pub with_other_ports : NetState → Bool
with_other_ports net =
    (verdict_of net).has_lids && ((verdict_of net).is_reached && ((verdict_of net).is_free
    && (have_tables net && (list_all (is_known net) net.dump.tables && (verdict_of net).is_known))))

abbrev pub OtherPortsDecide : Type 0
OtherPortsDecide = ReportsSafe with_other_ports → ⊥

abbrev pub another_row : Row
another_row = a_row 2 1 (destinations.ChannelAdapter 777)

abbrev pub another_adapter : NetState
another_adapter = two_with (adapters_row 1 ∷ another_row ∷ []) (adapters_row 1 ∷ another_row ∷ [])

-- entries may be unknown, where no packet of a host comes to them
abbrev pub with_unknown : NetState → Bool
with_unknown net = (verdict_of net).has_lids && ((verdict_of net).is_reached && ((verdict_of net).is_free && (verdict_of net).is_same))

abbrev pub UnknownEntriesDecide : Type 0
UnknownEntriesDecide = ReportsSafe with_unknown → ⊥

-- the first switch sends LID 64 of the aggregation node to the second, whose table ends with that LID and lacks its row
abbrev pub an_unknown_entry : NetState
an_unknown_entry = record {
  plan = record (plan_of with_aggregation) { aggregation = false ∷ false ∷ false ∷ true ∷ [] };
  dump = record {
    tables = record { line = 1; guid = 16; top = 64; rows = adapters_row 1 ∷ a_row 64 2 (destinations.ChannelAdapter 513) ∷ [] }
        ∷ record { line = 2; guid = 32; top = 64; rows = adapters_row 1 ∷ [] } ∷ [];
  };
}

-- credit loops count among the other conditions
abbrev pub CreditLoopsAreApart : Type 0
CreditLoopsAreApart = ReportsLeading says_safe → ⊥

-- ---- what goes on has no line, or what is a hole
abbrev pub is_going : Turn → Bool
is_going (turns.Goes next) = true
is_going _ = false

abbrev pub is_hole : Turn → Bool
is_hole turns.Hole = true
is_hole _ = false

abbrev pub silent_where : (Turn → Bool) → NetState → ℕ → Aim → List ℕ
silent_where test net place aim = if test (turn net aim.lid place) then [] else trouble_line net place aim

-- the same fabric, if each switch sends the LID to the other one
abbrev pub a_loop : NetState
a_loop = two_with (adapters_row 2 ∷ []) (adapters_row 1 ∷ [])

abbrev pub LoopsHaveALine : Type 0
LoopsHaveALine = ReportsTroubles (silent_where is_going) → ⊥

abbrev pub HolesHaveALine : Type 0
HolesHaveALine = ReportsTroubles (silent_where is_hole) → ⊥

-- ---- or what is unknown
-- the table of the second switch ends with LID 64, and lacks its row
abbrev pub a_row_left_out : NetState
a_row_left_out = record {
  plan = a_hole.plan;
  dump = record {
    tables = record { line = 1; guid = 16; top = 64; rows = a_row 64 1 (destinations.ChannelAdapter 257) ∷ [] }
        ∷ record { line = 2; guid = 32; top = 64; rows = [] } ∷ [];
  };
}

abbrev pub RowsLeftOutHaveALine : Type 0
RowsLeftOutHaveALine = ReportsTroubles (silent_where is_unknown) → ⊥

-- ---- a LID whose port the fabric lacks has no line
abbrev pub silent_of_others : NetState → ℕ → Aim → List ℕ
silent_of_others net place aim = if is_some aim.end then trouble_line net place aim else []

-- the first switch has no entry for the router's LID
abbrev pub a_routers_hole : NetState
a_routers_hole = two_with (adapters_row 1 ∷ []) (adapters_row 1 ∷ a_routers_row 1 ∷ [])

abbrev pub OthersHolesHaveALine : Type 0
OthersHolesHaveALine = ReportsTroubles silent_of_others → ⊥

-- ---- nor a loop, if no row says whose the LID is
abbrev pub silent_of_nobody : NetState → ℕ → Aim → List ℕ
silent_of_nobody net place aim = if is_some aim.guid then trouble_line net place aim else stray_line net place aim.lid

abbrev pub a_nobodys_loop : NetState
a_nobodys_loop = two_with (a_row 2 2 destinations.NotReported ∷ []) (a_row 2 1 destinations.NotReported ∷ [])

abbrev pub NobodysLoopsHaveALine : Type 0
NobodysLoopsHaveALine = ReportsTroubles silent_of_nobody → ⊥

-- ---- nor an entry that is unknown
abbrev pub silent_of_unknown : NetState → ℕ → Aim → List ℕ
silent_of_unknown net place aim = if is_some aim.guid || not (is_unknown (turn net aim.lid place)) then trouble_line net place aim else []

-- the first switch sends LID 64 to the second, whose table ends with that LID and lacks its row. No row says whose it is
abbrev pub nobodys_row_left_out : NetState
nobodys_row_left_out = record {
  plan = a_hole.plan;
  dump = record {
    tables = record { line = 1; guid = 16; top = 64; rows = a_row 64 2 destinations.NotReported ∷ [] }
        ∷ record { line = 2; guid = 32; top = 64; rows = [] } ∷ [];
  };
}

abbrev pub NobodysRowsHaveALine : Type 0
NobodysRowsHaveALine = ReportsTroubles silent_of_unknown → ⊥

-- ---- pairs that are not reached are no reason
abbrev pub reasons_without_pairs : Verdict → List ℕ
reasons_without_pairs verdict =
    with_reason verdict.is_known (codes "unknown")
    (with_reason verdict.is_same (codes "mismatch")
    (with_reason verdict.is_free (codes "deadlock")
    (with_reason verdict.has_lids (codes "no-lid") [])))

abbrev pub LostPairsAreAReason : Type 0
LostPairsAreAReason = NamesReasons reasons_without_pairs → ⊥

-- ---- one reason stands for all
abbrev pub one_reason : Verdict → List ℕ
one_reason verdict = codes "deadlock"

abbrev pub ReasonsHold : Type 0
ReasonsHold = NamesReasons one_reason → ⊥

-- ---- of the cables that join no switch the first has a line alone
abbrev pub first_passed_over : NetState → List ℕ
first_passed_over net = flat_map (apart_line net) (take 1 net.plan.apart)

abbrev pub OtherCablesHaveALine : Type 0
OtherCablesHaveALine = PrintsLines first_passed_over → ⊥

-- ---- what switches do is printed alone, and not what the files lack
abbrev pub troubles_alone : NetState → List ℕ
troubles_alone net = troubles_by net (aims net)

abbrev pub OtherTablesHaveALine : Type 0
OtherTablesHaveALine = PrintsLines troubles_alone → ⊥

-- ---- of the switches from which packets are lost eight count alone
abbrev pub of_eight : NetState → Aim → List ℕ
of_eight net aim = places_line (codes "unreached ") (codes " from ") net aim (take 8 (losers net aim))

-- a host with a port at each of nine switches, none of which has an entry for the LID of its first
abbrev pub at_nine : List ℕ
at_nine = 0 ∷ 1 ∷ 2 ∷ 3 ∷ 4 ∷ 5 ∷ 6 ∷ 7 ∷ 8 ∷ []

abbrev pub nine_cabled : TopologyState
nine_cabled = record {
  nodes = map (λ n. a_switch (codes "A") (16 * (n + 1))) at_nine ++ record { name = codes "h"; node_type = ChannelAdapter; guid = 256; ports = 9 } ∷ [];
  cables = map (λ n. record { first = port n 1; second = port 9 (n + 1) }) at_nine;
  roots = [];
  sm = port 9 1;
}

abbrev pub nine_holes : NetState
nine_holes = record { plan = plan_of nine_cabled; dump = record { tables = map (λ n. with_rows (16 * (n + 1)) (adapters_row 255 ∷ [])) at_nine } }

abbrev pub AllSwitchesAreCounted : Type 0
AllSwitchesAreCounted = NamesLost of_eight → ⊥

-- ---- packets are lost from switches without a host too
abbrev pub lost_anywhere : NetState → ℕ → Option PortRef → List ℕ
lost_anywhere net lid (Some end) = filter (λ place. is_lost_by (fate net lid end place)) (switches net.plan.nodes)
lost_anywhere net lid None = []

abbrev pub from_anywhere : NetState → Aim → List ℕ
from_anywhere net aim = places_line (codes "unreached ") (codes " from ") net aim (lost_anywhere net aim.lid aim.end)

abbrev pub HostsSwitchesCount : Type 0
HostsSwitchesCount = NamesLost from_anywhere → ⊥

-- ---- what comes to an unknown entry is lost
abbrev pub not_reached : NetState → ℕ → Option PortRef → List ℕ
not_reached net lid (Some end) = filter (λ place. not (is_fate fates.Reached (fate net lid end place))) (host_switches net)
not_reached net lid None = []

abbrev pub unknown_is_lost : NetState → Aim → List ℕ
unknown_is_lost net aim = places_line (codes "unreached ") (codes " from ") net aim (not_reached net aim.lid aim.end)

-- the dump lacks the table of the switch to which the host is attached
abbrev pub a_table_missing : NetState
a_table_missing = record { plan = a_hole.plan; dump = record { tables = with_rows 32 (adapters_row 1 ∷ []) ∷ [] } }

abbrev pub UnknownIsNotLost : Type 0
UnknownIsNotLost = NamesLost unknown_is_lost → ⊥

-- ---- entries are unknown at switches that have no table too, or to which no packets come
abbrev pub lacking_where : (NetState → Aim → ℕ → Bool) → NetState → Aim → List ℕ
lacking_where lacks net aim =
    places_line (codes "unknown ") (codes " at ") net aim (if is_others net aim then filter (lacks net aim) (switches net.plan.nodes) else [])

abbrev pub lacks_anything : NetState → Aim → ℕ → Bool
lacks_anything net aim place = is_unknown (turn net aim.lid place) && is_entered net aim place

abbrev pub MissingTablesDoNotCount : Type 0
MissingTablesDoNotCount = NamesUnknown (lacking_where lacks_anything) → ⊥

abbrev pub lacks_in_vain : NetState → Aim → ℕ → Bool
lacks_in_vain net aim place = has_table net place && is_unknown (turn net aim.lid place)

abbrev pub PacketsHaveToCome : Type 0
PacketsHaveToCome = NamesUnknown (lacking_where lacks_in_vain) → ⊥

-- ---- a text that has what switches do alone ends before the LID that is not reached
abbrev pub LostPairsHaveALine : Type 0
LostPairsHaveALine = PrintsLost troubles_alone → ⊥

abbrev pub ReasonsHaveALine : Type 0
ReasonsHaveALine = EachReasonHasItsLine troubles_alone → ⊥

-- ---- bytes are counted as lines
abbrev pub with_bytes : NetState → List ℕ
with_bytes net =
    lines_by net (aims net) (loops_of net (aims net)) ++ counted_line (length (troubles_by net (aims net)))
    ++ counts_by (pairs_by net (aims net)) (is_some (credit_loop net (aims net))) (decides_nothing (loops_of net (aims net)))

abbrev pub LinesAreCounted : Type 0
LinesAreCounted = CountsTheRest with_bytes whole_text → ⊥
