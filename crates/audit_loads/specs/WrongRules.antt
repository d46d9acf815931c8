-- Wrong rules for what is reported, and the law that each breaks.
use Rattle.std.specs.Prelude.{ℕ, ◌+◌, ◌-◌, ◌*◌, ◌==◌, ◌&&◌, Bool, not, List, [], ◌∷◌, ◌++◌, codes, count_by, filter, flat_map, map, take, None, Some}
use Rattle.dump_file.specs.declared.destination.Destination.TheVariants as destinations
use Rattle.dump_file.specs.declared.table.Table.{Table}
use Rattle.fabric_parts.specs.Cable.{port}
use Rattle.fabric_parts.specs.declared.cable.Cable.{Cable}
use Rattle.fabric_parts.specs.declared.cable.PortRef.{PortRef}
use Rattle.fabric_parts.specs.declared.node_type.NodeType.{NodeType}
use Rattle.fabric_parts.specs.declared.node_type.NodeType.TheVariants.{ChannelAdapter, Switch}
use Rattle.netdiscover_file.specs.Discovery.{DiscoveryState}
use Rattle.topo_file.specs.declared.node.Node.{Node}
use Rattle.topo_file.specs.Topology.{TopologyState}
use Rattle.audit_net.specs.declared.lids.Aim.{Aim}
use Rattle.audit_net.specs.Lids.{aims}
use Rattle.audit_loops.specs.Channels.{leaves_by}
use Rattle.audit_net.specs.Net.{NetState}
use Rattle.audit_plan.specs.Plan.{PlanState, is_on, plan_found, plan_of}
use Rattle.audit_loads.specs.declared.loaded.Loaded.{Loaded}
use Rattle.audit_loads.specs.Laws.{AddsUp, CarriesWhatArrives, CountsEachPair, CountsTalkers, NamesEachOnce, ReportsUnused, StaysWithin}
use Rattle.audit_loads.specs.Laws.{CountsAllPairs, PrintsAllPairs, TakesCables, all_talk, lines_of}
use Rattle.audit_loads.specs.Counts.{counts_of}
use Rattle.audit_loads.specs.Loads.{load, loads}
use Rattle.audit_loads.specs.Order.{ordered}
use Rattle.audit_loads.specs.Sources.{Pair, pairs_by}
use Rattle.audit_loads.specs.Talk.{may_talk}
use Rattle.audit_loads.specs.Text.{load_line, loads_of, pairs_line, text_by}
use Rattle.audit_net.specs.Ways.{way_within}
use Rattle.audit_loads.specs.Ways.{goes_over, is_lost}

-- ---- two switches A and B with a cable from A/2 to B/2, and the hosts h at A/1 and k at B/1
abbrev pub node : List ℕ → NodeType → ℕ → Node
node name of guid = record { name = name; node_type = of; guid = guid; ports = 2 }

abbrev pub a_plan : TopologyState
a_plan = record {
  nodes = node (codes "A") Switch 16 ∷ node (codes "B") Switch 32 ∷ node (codes "h") ChannelAdapter 256 ∷ node (codes "k") ChannelAdapter 512 ∷ [];
  cables = record { first = port 0 1; second = port 2 1 } ∷ record { first = port 1 1; second = port 3 1 }
      ∷ record { first = port 0 2; second = port 1 2 } ∷ [];
  roots = [];
  sm = port 2 1;
}

-- the entry of each switch for LID 2, which is that of k/1
abbrev pub a_table : (guid number : ℕ) → Table
a_table guid number =
    record { line = 1; guid = guid; top = 2; rows = record { lid = 2; port = number; destination = destinations.ChannelAdapter 513 } ∷ [] }

abbrev pub two_switches : (first second : ℕ) → NetState
two_switches first second = record { plan = plan_of a_plan; dump = record { tables = a_table 16 first ∷ a_table 32 second ∷ [] } }

abbrev pub to_k : List Aim
to_k = record { lid = 2; guid = Some 513; end = Some (port 3 1) } ∷ []

abbrev pub pairs_to_k : NetState → List Pair
pairs_to_k net = pairs_by net (may_talk None) to_k

-- ---- pairs that are lost load nothing
abbrev pub load_of_reached : NetState → List Pair → PortRef → ℕ
load_of_reached net pairs at = count_by (λ pair. goes_over net at pair && not (is_lost net pair)) pairs

abbrev pub LostPairsLoad : Type 0
LostPairsLoad = ReportsUnused load_of_reached → ⊥

-- ---- ports that may not talk count too
abbrev pub silent_too : NetState → (talk : PortRef → PortRef → Bool) → List Aim → List Pair
silent_too net talk all = pairs_by net all_talk all

abbrev pub SilentPortsDoNotCount : Type 0
SilentPortsDoNotCount = CountsTalkers silent_too → ⊥

-- ---- a pair loads the first port alone by which its packets leave
abbrev pub first_alone : NetState → List Pair → PortRef → ℕ
first_alone net pairs at = count_by (λ pair. (pair.place == at.node) && goes_over net at pair) pairs

abbrev pub FirstPortsDoNotAddUp : Type 0
FirstPortsDoNotAddUp = AddsUp first_alone → ⊥

-- ---- a pair loads ports of the first two switches of its way alone
abbrev pub first_two : NetState → List Pair → PortRef → ℕ
first_two net pairs at = count_by (λ pair. is_on at.node (way_within net pair.lid 2 pair.place) && leaves_by net at pair.lid) pairs

abbrev pub LastLinksCountToo : Type 0
LastLinksCountToo = CarriesWhatArrives first_two → ⊥

-- four switches in a row, A, B, C and D, with the host h at A/1 and k at D/1
abbrev pub four_switches : NetState
four_switches = record {
  plan = plan_of (record a_plan {
    nodes = a_plan.nodes ++ node (codes "C") Switch 48 ∷ node (codes "D") Switch 64 ∷ [];
    cables = record { first = port 0 1; second = port 2 1 } ∷ record { first = port 0 2; second = port 1 1 } ∷ record { first = port 1 2; second = port 4 1 }
        ∷ record { first = port 4 2; second = port 5 2 } ∷ record { first = port 5 1; second = port 3 1 } ∷ [];
  });
  dump = record { tables = a_table 16 2 ∷ a_table 32 2 ∷ a_table 48 2 ∷ a_table 64 1 ∷ [] };
}

-- ---- a pair does not load the first port by which its packets leave
abbrev pub but_first : NetState → List Pair → PortRef → ℕ
but_first net pairs at = count_by (λ pair. not (pair.place == at.node) && goes_over net at pair) pairs

abbrev pub FirstLinksCountToo : Type 0
FirstLinksCountToo = CarriesWhatArrives but_first → ⊥

-- ---- the ports of a discovery count from 0
abbrev pub from_0 : Cable → Cable
from_0 cable = record { first = port cable.first.node (cable.first.port - 1); second = port cable.second.node (cable.second.port - 1) }

abbrev pub plan_from_0 : DiscoveryState → PlanState
plan_from_0 found = record (plan_found found) { cables = map from_0 (plan_found found).cables }

abbrev pub PortsCountFrom1 : Type 0
PortsCountFrom1 = TakesCables plan_of plan_from_0 → ⊥

-- ---- each pair counts twice
abbrev pub twice : NetState → List Pair → PortRef → ℕ
twice net pairs at = load net pairs at * 2

abbrev pub PairsCountOnce : Type 0
PairsCountOnce = StaysWithin twice → ⊥

-- ---- a channel without load has no line
abbrev pub used_lines : NetState → List Pair → List Loaded
used_lines net pairs = filter (λ one. not (one.load == 0)) (lines_of net pairs)

abbrev pub UnusedChannelsHaveALine : Type 0
UnusedChannelsHaveALine = NamesEachOnce used_lines → ⊥

-- ---- ports that are attached to the first switch alone send
abbrev pub from_first : NetState → (talk : PortRef → PortRef → Bool) → List Aim → List Pair
from_first net talk all = filter (λ pair. pair.place == 0) (pairs_by net talk all)

abbrev pub OtherSwitchesCountToo : Type 0
OtherSwitchesCountToo = CountsEachPair from_first → ⊥

-- ---- they send to the first LID alone
abbrev pub to_first : NetState → (talk : PortRef → PortRef → Bool) → List Aim → List Pair
to_first net talk all = pairs_by net talk (take 1 all)

abbrev pub OtherLidsCountToo : Type 0
OtherLidsCountToo = CountsEachPair to_first → ⊥

-- ---- pairs to the first LID alone are counted
abbrev pub pairs_to_first : NetState → (talk : PortRef → PortRef → Bool) → List Pair
pairs_to_first net talk = pairs_by net talk (take 1 (aims net))

abbrev pub loads_to_first : NetState → (talk : PortRef → PortRef → Bool) → List Loaded
loads_to_first net talk = loads net (pairs_to_first net talk)

abbrev pub AllLidsAreCounted : Type 0
AllLidsAreCounted = CountsAllPairs loads_to_first → ⊥

-- ---- or printed
abbrev pub text_to_first : NetState → (talk : PortRef → PortRef → Bool) → List ℕ
text_to_first net talk = text_by net (pairs_to_first net talk)

abbrev pub AllLidsArePrinted : Type 0
AllLidsArePrinted = PrintsAllPairs text_to_first → ⊥

-- ---- the line of the channel with the greatest load is printed alone
abbrev pub text_of_first : NetState → (talk : PortRef → PortRef → Bool) → List ℕ
text_of_first net talk =
    flat_map (load_line net) (take 1 (ordered (loads_of net talk))) ++ pairs_line (counts_of net (pairs_by net talk (aims net)))

abbrev pub AllChannelsArePrinted : Type 0
AllChannelsArePrinted = PrintsAllPairs text_of_first → ⊥
