-- Wrong rules for what is reported of multicast, and the law that each breaks.
use Rattle.std.specs.Prelude.{ℕ, ◌==◌, ◌&&◌, ◌||◌, nat_lt, Bool, true, false, not, List, [], ◌∷◌, ◌++◌, codes, filter, flat_map, get_or, length, map, if◌then◌else◌, Option, Some, None, option_map}
use Rattle.std.specs.List.{enumerate_from, list_any}
use Rattle.std.specs.Option.{option_map_or}
use Rattle.fabric_parts.specs.Cable.{far_end, port}
use Rattle.fabric_parts.specs.declared.cable.Cable.{Cable}
use Rattle.fabric_parts.specs.declared.cable.PortRef.{PortRef}
use Rattle.fabric_parts.specs.declared.node_type.NodeType.{NodeType}
use Rattle.fabric_parts.specs.declared.node_type.NodeType.TheVariants.{ChannelAdapter, Switch}
use Rattle.topo_file.specs.Connectivity.{switches}
use Rattle.topo_file.specs.declared.node.Node.{Node}
use Rattle.audit_loops.specs.Cycle.{cycle}
use Rattle.audit_plan.specs.Attached.{ports_of}
use Rattle.audit_net.specs.Net.{NetState}
use Rattle.audit_routes.specs.Verdict.{reasons}
use Rattle.audit_routes.specs.declared.verdict.Verdict.{Verdict}
use Rattle.audit_multicast.specs.declared.copies.SecondCopy.{SecondCopy}
use Rattle.audit_multicast.specs.declared.verdict.MulticastVerdict.{MulticastVerdict}
use Rattle.audit_multicast.specs.declared.cuts.Cut.{Cut}
use Rattle.audit_multicast.specs.Copies.{again, arrivals, copy_from, entrances, first_copy, leads_to_end, node_behind}
use Rattle.audit_multicast.specs.Cuts.{arrives, cut_by, cut_from, first_member, member_switches, members_at}
use Rattle.audit_multicast.specs.Laws.{MissesNoCopy, MissesNoCut, MissesNoMaskLoop, NamesAllReasons, PrintsMulticast, ReportsAllSafe, ReportsCopies, ReportsCuts, ReportsMaskLoops}
use Rattle.mft_file.specs.declared.table.MaskTable.{MaskTable}
use Rattle.audit_multicast.specs.Audit.{all_found}
use Rattle.audit_multicast.specs.Lines.{found_lines, has_copy, has_ring, no_mft_line, strange_mft_line}
use Rattle.audit_multicast.specs.Loops.{all_outs, loop_of}
use Rattle.audit_multicast.specs.Verdict.{joined}
use Rattle.audit_multicast.specs.Ways.{outs}

-- ---- small fabrics: switches, and behind them an adapter
abbrev pub node_of : NodeType → ℕ → Node
node_of type guid = record { name = codes "n"; node_type = type; guid = guid; ports = 3 }

abbrev pub cable_of : PortRef → PortRef → Cable
cable_of a b = record { first = a; second = b }

abbrev pub fabric_of : List Node → List Cable → NetState
fabric_of nodes cables = record {
  plan = record { nodes = nodes; cables = cables; apart = []; ends = []; aggregation = []; lids = [] };
  dump = record { tables = [] };
}

-- two switches with two cables between them: ports 1 and 2 of both
abbrev pub two_cabled : NetState
two_cabled = fabric_of (node_of Switch 1 ∷ node_of Switch 2 ∷ []) (cable_of (port 0 1) (port 1 1) ∷ cable_of (port 0 2) (port 1 2) ∷ [])

-- three switches in a triangle, and an adapter at port 3 of the first
abbrev pub triangle : NetState
triangle =
    fabric_of (node_of Switch 1 ∷ node_of Switch 2 ∷ node_of Switch 3 ∷ node_of ChannelAdapter 4 ∷ [])
    (cable_of (port 0 1) (port 1 1) ∷ cable_of (port 0 2) (port 2 1) ∷ cable_of (port 1 2) (port 2 2) ∷ cable_of (port 0 3) (port 3 1) ∷ [])

-- ---- a packet may go back by the port by which it came in
abbrev pub comes_anyhow : NetState → PortRef → PortRef → Bool
comes_anyhow net a b = option_map_or (λ there. there.node == b.node) (far_end net.plan.cables a) false

abbrev pub loop_and_back : NetState → List (List ℕ) → Option (List PortRef)
loop_and_back net masks =
    option_map (map (λ place. get_or (all_outs net masks) place (port 0 0)))
    (cycle (map (λ a. map (λ p. p.0) (filter (λ p. comes_anyhow net a p.1) (enumerate_from 0 (all_outs net masks)))) (all_outs net masks)))

abbrev pub PacketsDoNotGoBack : Type 0
PacketsDoNotGoBack = ReportsMaskLoops loop_and_back → ⊥

-- one cable is in the masks of both switches
abbrev pub one_cable : List (List ℕ)
one_cable = (1 ∷ []) ∷ (1 ∷ []) ∷ []

-- ---- a loop has more than two ports
abbrev pub if_longer : List PortRef → Option (List PortRef)
if_longer ring = if nat_lt 2 (length ring) then Some ring else None

abbrev pub longer : Option (List PortRef) → Option (List PortRef)
longer found = option_map_or if_longer found None

abbrev pub loop_of_three : NetState → List (List ℕ) → Option (List PortRef)
loop_of_three net masks = longer (loop_of net masks)

abbrev pub TwoPortsLoop : Type 0
TwoPortsLoop = MissesNoMaskLoop loop_of_three → ⊥

-- both cables are
abbrev pub two_cables : List (List ℕ)
two_cables = (1 ∷ 2 ∷ []) ∷ (1 ∷ 2 ∷ []) ∷ []

-- ---- packets enter at each switch
abbrev pub copy_from_any : NetState → List (List ℕ) → Option SecondCopy
copy_from_any net masks = first_copy net masks (switches net.plan.nodes)

abbrev pub PacketsEnterAtEndPorts : Type 0
PacketsEnterAtEndPorts = ReportsCopies copy_from_any → ⊥

-- ---- copies are followed for one hop
abbrev pub after_one_hop : NetState → List (List ℕ) → ℕ → Option ℕ
after_one_hop net masks place = again (λ other. place == other) (arrivals net masks 1 (outs net masks (port place 0)))

abbrev pub first_of : NetState → List (List ℕ) → List ℕ → Option SecondCopy
first_of net masks [] = None
first_of net masks (place ∷ rest) = option_map (copy_from place) (after_one_hop net masks place)

abbrev pub copy_in_one_hop : NetState → List (List ℕ) → Option SecondCopy
copy_in_one_hop net masks = first_of net masks (entrances net)

abbrev pub CopiesAreFollowed : Type 0
CopiesAreFollowed = MissesNoCopy copy_in_one_hop → ⊥

-- the first switch sends to both others, and the third to the second
abbrev pub round_the_corner : List (List ℕ)
round_the_corner = (1 ∷ 2 ∷ []) ∷ [] ∷ (2 ∷ []) ∷ []

-- ---- each end port counts as a member
abbrev pub end_ports : NetState → List PortRef
end_ports net = filter (leads_to_end net) (flat_map (ports_of net.plan) (switches net.plan.nodes))

abbrev pub first_end : NetState → PortRef
first_end net = get_or (end_ports net) 0 (port 0 0)

abbrev pub cut_of_ends : NetState → List (List ℕ) → Option Cut
cut_of_ends net masks = cut_by (first_end net) (filter (λ at. not (arrives net (all_outs net masks) (first_end net).node at.node)) (end_ports net))

abbrev pub MembersAreInMasks : Type 0
MembersAreInMasks = ReportsCuts cut_of_ends → ⊥

-- two switches with a cable between them, and an adapter at port 3 of each. The port of the one adapter is in a mask, or those of both
abbrev pub two_apart : NetState
two_apart =
    fabric_of (node_of Switch 1 ∷ node_of Switch 2 ∷ node_of ChannelAdapter 3 ∷ node_of ChannelAdapter 4 ∷ [])
    (cable_of (port 0 1) (port 1 1) ∷ cable_of (port 0 3) (port 2 1) ∷ cable_of (port 1 3) (port 3 1) ∷ [])

abbrev pub one_member : List (List ℕ)
one_member = (3 ∷ []) ∷ [] ∷ [] ∷ [] ∷ []

abbrev pub two_members : List (List ℕ)
two_members = (3 ∷ []) ∷ (3 ∷ []) ∷ [] ∷ [] ∷ []

-- ---- a packet comes no further than to the next switch
abbrev pub missed_at_once : NetState → List (List ℕ) → (place : ℕ) → List PortRef
missed_at_once net masks place =
    flat_map (λ there. if (place == there) || list_any (λ out. (out.node == place) && (node_behind net out == there)) (all_outs net masks) then [] else members_at net masks there)
    (member_switches net masks)

abbrev pub cut_at_once : NetState → List (List ℕ) → Option Cut
cut_at_once net masks = cut_by (first_member net masks 0) (missed_at_once net masks 0)

abbrev pub CutsAreFollowed : Type 0
CutsAreFollowed = ReportsCuts cut_at_once → ⊥

-- three switches in a row, and an adapter at port 3 of the first and of the third
abbrev pub in_a_row : NetState
in_a_row =
    fabric_of (node_of Switch 1 ∷ node_of Switch 2 ∷ node_of Switch 3 ∷ node_of ChannelAdapter 4 ∷ node_of ChannelAdapter 5 ∷ [])
    (cable_of (port 0 1) (port 1 1) ∷ cable_of (port 1 2) (port 2 1) ∷ cable_of (port 0 3) (port 3 1) ∷ cable_of (port 2 3) (port 4 1) ∷ [])

abbrev pub both_ways_on : List (List ℕ)
both_ways_on = (1 ∷ 3 ∷ []) ∷ (1 ∷ 2 ∷ []) ∷ (1 ∷ 3 ∷ []) ∷ []

-- ---- it is enough that all receive what the first member sends
abbrev pub cut_from_first : NetState → List (List ℕ) → Option Cut
cut_from_first net masks = cut_from net masks (all_outs net masks) (member_switches net masks) (get_or (member_switches net masks) 0 0)

abbrev pub EachMemberSends : Type 0
EachMemberSends = MissesNoCut cut_from_first → ⊥

-- the third switch sends nothing on
abbrev pub one_way_on : List (List ℕ)
one_way_on = (1 ∷ 3 ∷ []) ∷ (1 ∷ 2 ∷ []) ∷ (3 ∷ []) ∷ []

-- ---- what is safe except for cuts is
abbrev pub cuts_aside : NetState → List MaskTable → Bool
cuts_aside net tables = not (list_any has_ring (all_found net tables)) && not (list_any has_copy (all_found net tables))

abbrev pub CutsDecide : Type 0
CutsDecide = ReportsAllSafe cuts_aside → ⊥

abbrev pub mft_of : ℕ → MaskTable
mft_of guid = record { line = 1; guid = guid; rows = record { mlid = 49152; ports = 3 ∷ [] } ∷ [] }

abbrev pub cut_mfts : List MaskTable
cut_mfts = mft_of 1 ∷ mft_of 2 ∷ []

-- ---- what is wrong with multicast is no reason
abbrev pub reasons_of_routes : Verdict → MulticastVerdict → List ℕ
reasons_of_routes routes multicast = reasons (joined routes multicast)

abbrev pub MulticastIsAReason : Type 0
MulticastIsAReason = NamesAllReasons reasons_of_routes → ⊥

abbrev pub safe_routes : Verdict
safe_routes = record { has_lids = true; is_reached = true; is_free = true; is_same = true; is_known = true; loses = false; lacks_entries = false }

abbrev pub looping : MulticastVerdict
looping = record { is_same = true; is_known = true; has_loops = true; has_copies = false; has_cuts = false }

-- ---- what is found of MLIDs is printed alone, and not what the files lack
abbrev pub mlids_alone : NetState → List MaskTable → List ℕ
mlids_alone net tables = flat_map (found_lines net) (all_found net tables)

abbrev pub OtherMftsHaveALine : Type 0
OtherMftsHaveALine = PrintsMulticast false mlids_alone → ⊥

-- ---- what the files lack is printed alone, and no port of a mask
abbrev pub files_alone : NetState → List MaskTable → List ℕ
files_alone net tables = flat_map (no_mft_line net tables) (switches net.plan.nodes) ++ flat_map (strange_mft_line net) tables

abbrev pub PortsOfMasksHaveALine : Type 0
PortsOfMasksHaveALine = PrintsMulticast false files_alone → ⊥
