-- What is so of all fabrics, dumps, LIDs and pairs: the statements of the laws of `src/laws.rt`.
use Rattle.std.specs.Prelude.{ℕ, ◌+◌, ◌<◌, ◌≤◌, ◌≡◌, ◌==◌, ◌&&◌, Bool, true, false, not, List, ◌++◌, count_by, filter, length, slice_get, if◌then◌else◌, Option, Some, option_map}
use Rattle.std.specs.List.{list_any, sum_by}
use Rattle.std.specs.Str.Iter.{HasSubslice}
use Rattle.fabric_parts.specs.Cable.{far_end, is_same_port, port}
use Rattle.fabric_parts.specs.declared.cable.Cable.{Cable}
use Rattle.fabric_parts.specs.declared.cable.PortRef.{PortRef}
use Rattle.fabric_parts.specs.declared.limits.Limits.{Limits}
use Rattle.netdiscover_file.specs.Discovery.{DiscoveryState}
use Rattle.netdiscover_file.specs.Sound.{IsSound}
use Rattle.topo_file.specs.Connectivity.{switches}
use Rattle.topo_file.specs.Node.{ports_at}
use Rattle.topo_file.specs.Sound.{IsSoundWithin, is_port}
use Rattle.topo_file.specs.Topology.{TopologyState}
use Rattle.audit_net.specs.declared.following.Fate.TheVariants as fates
use Rattle.audit_net.specs.declared.following.Turn.TheVariants as turns
use Rattle.audit_net.specs.declared.lids.Aim.{Aim}
use Rattle.audit_net.specs.Lids.{aims}
use Rattle.audit_loops.specs.Channels.{channels, leads_to}
use Rattle.audit_net.specs.Following.{turn}
use Rattle.audit_net.specs.Net.{NetState}
use Rattle.audit_routes.specs.Pairs.{is_fate}
use Rattle.audit_plan.specs.Plan.{PlanState, is_host, plan_found, plan_of}
use Rattle.audit_loads.specs.declared.loaded.Loaded.{Loaded}
use Rattle.audit_loads.specs.Counts.{counts_of}
use Rattle.audit_loads.specs.Loads.{load, loaded, loads}
use Rattle.audit_loads.specs.Order.{ordered}
use Rattle.audit_loads.specs.Sources.{Pair, pairs_by, pairs_to_end}
use Rattle.audit_loads.specs.Text.{load_line, load_text_of, loads_of, pairs_line}
use Rattle.audit_loads.specs.Ways.{fate_of, goes_over}

-- ---- which pairs count
abbrev pub all_talk : (source end : PortRef) → Bool
all_talk source end = true

abbrev pub is_heard : (talk : PortRef → PortRef → Bool) → Pair → Bool
is_heard talk pair = talk pair.source pair.end

-- of all pairs those whose ports talk, in the same order, and no others
abbrev pub CountsTalkers : (NetState → (talk : PortRef → PortRef → Bool) → List Aim → List Pair) → Type 0
CountsTalkers pairs =
    (net : NetState) (talk : PortRef → PortRef → Bool) (all : List Aim) → pairs net talk all ≡ filter (is_heard talk) (pairs_by net all_talk all)

abbrev pub TalkersCount : Type 0
TalkersCount = CountsTalkers pairs_by

-- a host's port is attached to a port of the switch there
pub record IsAttached (net : NetState) (place : ℕ) (source : PortRef) : Type 0 where
  pub index : ℕ
  pub switch : slice_get (switches net.plan.nodes) index ≡ Some place
  pub before : ℕ
  pub within : before < ports_at net.plan.nodes place
  pub cable : far_end net.plan.cables (port place (before + 1)) ≡ Some source
  pub host : is_host net.plan source.node ≡ true

-- the LID is one of these, and that of a host's port
pub record IsAimedAt (net : NetState) (all : List Aim) (lid : ℕ) (end : PortRef) : Type 0 where
  pub index : ℕ
  pub guid : Option ℕ
  pub aim : slice_get all index ≡ Some (record { lid = lid; guid = guid; end = Some end })
  pub host : is_host net.plan end.node ≡ true

abbrev pub is_of_two : (source : PortRef) → (lid : ℕ) → Pair → Bool
is_of_two source lid pair = is_same_port pair.source source && (pair.lid == lid)

-- each port of a host that is attached to a switch sends to each of these LIDs of another host's port to which it may talk
abbrev pub CountsEachPair : (NetState → (talk : PortRef → PortRef → Bool) → List Aim → List Pair) → Type 0
CountsEachPair pairs =
    (net : NetState) (talk : PortRef → PortRef → Bool) (all : List Aim) (place lid : ℕ) (source end : PortRef) → IsAttached net place source
    → IsAimedAt net all lid end → is_same_port source end ≡ false → talk source end ≡ true → list_any (is_of_two source lid) (pairs net talk all) ≡ true

abbrev pub EachPairCounts : Type 0
EachPairCounts = CountsEachPair pairs_by

-- ---- loads, of whichever pairs
-- a port has no load if and only if no pair goes over it
abbrev pub ReportsUnused : (NetState → List Pair → PortRef → ℕ) → Type 0
ReportsUnused loaded =
    (net : NetState) (pairs : List Pair) (at : PortRef) → (loaded net pairs at == 0) ≡ not (list_any (goes_over net at) pairs)

abbrev pub LoadsAreOfPairs : Type 0
LoadsAreOfPairs = ReportsUnused load

-- no load is more than there are pairs
abbrev pub StaysWithin : (NetState → List Pair → PortRef → ℕ) → Type 0
StaysWithin loaded = (net : NetState) (pairs : List Pair) (at : PortRef) → loaded net pairs at ≤ length pairs

abbrev pub LoadsStayWithin : Type 0
LoadsStayWithin = StaysWithin load

-- over whichever ports, the loads add up to how many of these ports the packets of each pair leave by
abbrev pub ports_used : NetState → List PortRef → Pair → ℕ
ports_used net some pair = count_by (λ at. goes_over net at pair) some

abbrev pub AddsUp : (NetState → List Pair → PortRef → ℕ) → Type 0
AddsUp loaded =
    (net : NetState) (pairs : List Pair) (some : List PortRef) → sum_by (loaded net pairs) some ≡ sum_by (ports_used net some) pairs

abbrev pub LoadsAddUp : Type 0
LoadsAddUp = AddsUp load

-- ---- the last links to a port
-- the cable of each port leads back to it, and its node has that port
pub record CablesLeadBack (plan : PlanState) : Type 0 where
  pub ports : (at there : PortRef) → far_end plan.cables at ≡ Some there → is_port plan.nodes at ≡ true
  pub back : (at there : PortRef) → far_end plan.cables at ≡ Some there → far_end plan.cables there ≡ Some at

-- so it is in the plan of each topology, whichever of its cables are up, and in that of each discovery
pub record TakesCables (of_topology : TopologyState → PlanState) (of_discovery : DiscoveryState → PlanState) : Type 0 where
  pub topology : (limits : Limits) (topology : TopologyState) → IsSoundWithin limits topology → CablesLeadBack (of_topology topology)
  pub cables_up : (limits : Limits) (topology : TopologyState) (is_up : Cable → Bool) → IsSoundWithin limits topology
      → CablesLeadBack (of_topology (record topology { cables = filter is_up topology.cables }))
  pub discovery : (found : DiscoveryState) → IsSound found → CablesLeadBack (of_discovery found)

abbrev pub CablesOfPlansLeadBack : Type 0
CablesOfPlansLeadBack = TakesCables plan_of plan_found

-- the pairs to the LID of this port
abbrev pub pairs_of : NetState → (talk : PortRef → PortRef → Bool) → (lid : ℕ) → (end : PortRef) → List Pair
pairs_of net talk lid end = pairs_to_end net talk lid (Some end)

-- the channels whose cable leads to this switch
abbrev pub last_channels : NetState → (home : ℕ) → List PortRef
last_channels net home = filter (λ at. leads_to net at home) (channels net)

-- its packets begin at another switch than this, and reach their port
abbrev pub arrives_over : NetState → (home : ℕ) → Pair → Bool
arrives_over net home pair = not (pair.place == home) && is_fate fates.Reached (fate_of net pair)

-- if a switch delivers the LID to its port, the loads of the channels that lead to this switch add up to the number of pairs that
-- reach the port from other switches
abbrev pub CarriesWhatArrives : (NetState → List Pair → PortRef → ℕ) → Type 0
CarriesWhatArrives loaded =
    (net : NetState) (talk : PortRef → PortRef → Bool) (lid home : ℕ) (end : PortRef) → CablesLeadBack net.plan → turn net lid home ≡ turns.Arrives end
    → sum_by (loaded net (pairs_of net talk lid end)) (last_channels net home) ≡ count_by (arrives_over net home) (pairs_of net talk lid end)

abbrev pub LastLinksCarryWhatArrives : Type 0
LastLinksCarryWhatArrives = CarriesWhatArrives load

-- ---- lines
abbrev pub is_at : PortRef → Loaded → Bool
is_at at one = is_same_port one.at at

-- each channel has one line, and no other port has one
abbrev pub NamesEachOnce : (NetState → List Pair → List Loaded) → Type 0
NamesEachOnce lines =
    (net : NetState) (pairs : List Pair) (at : PortRef)
    → count_by (is_at at) (lines net pairs) ≡ (if list_any (λ channel. is_same_port channel at) (channels net) then 1 else 0)

abbrev pub lines_of : NetState → List Pair → List Loaded
lines_of net pairs = ordered (loads net pairs)

abbrev pub EachChannelHasOneLine : Type 0
EachChannelHasOneLine = NamesEachOnce lines_of

-- ---- what is counted and printed of a fabric: all its LIDs
-- how many pairs go over this port, of all that may talk
abbrev pub loaded_by_all : NetState → (talk : PortRef → PortRef → Bool) → PortRef → Loaded
loaded_by_all net talk at = loaded net (pairs_by net talk (aims net)) at

-- the loads are those of the channels, each in its place
abbrev pub CountsAllPairs : (NetState → (talk : PortRef → PortRef → Bool) → List Loaded) → Type 0
CountsAllPairs loads =
    (net : NetState) (talk : PortRef → PortRef → Bool) (index : ℕ) → slice_get (loads net talk) index
    ≡ option_map (loaded_by_all net talk) (slice_get (channels net) index)

abbrev pub AllPairsAreCounted : Type 0
AllPairsAreCounted = CountsAllPairs loads_of

-- the text has the line of each channel, and ends with the counts of all pairs
pub record PrintsAllPairs (text : NetState → (talk : PortRef → PortRef → Bool) → List ℕ) : Type 0 where
  pub loads : (net : NetState) (talk : PortRef → PortRef → Bool) (index : ℕ) (at : PortRef) → slice_get (channels net) index ≡ Some at
      → HasSubslice (text net talk) (load_line net (loaded_by_all net talk at))
  pub counts : (net : NetState) (talk : PortRef → PortRef → Bool)
      → (before : List ℕ) × (text net talk ≡ before ++ pairs_line (counts_of net (pairs_by net talk (aims net))))

abbrev pub AllPairsArePrinted : Type 0
AllPairsArePrinted = PrintsAllPairs load_text_of
