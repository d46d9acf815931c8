-- What is found of lanes, in examples.
use Rattle.std.specs.Prelude.{ℕ, ◌≡◌, true, false, List, [], ◌∷◌, ◌++◌, codes, flat_map, map, Option, Some, None}
use Rattle.std.specs.List.{range_with_len}
use Rattle.dump_file.specs.declared.destination.Destination.TheVariants.{ChannelAdapter as AdapterKind}
use Rattle.dump_file.specs.declared.table.Table.{Table}
use Rattle.fabric_parts.specs.Cable.{port}
use Rattle.fabric_parts.specs.declared.cable.Cable.{Cable}
use Rattle.fabric_parts.specs.declared.cable.PortRef.{PortRef}
use Rattle.fabric_parts.specs.declared.node_type.NodeType.{NodeType}
use Rattle.fabric_parts.specs.declared.node_type.NodeType.TheVariants.{ChannelAdapter, Switch}
use Rattle.sl2vl_file.specs.declared.path.PathSl.{PathSl}
use Rattle.sl2vl_file.specs.declared.row.LaneRow.{LaneRow}
use Rattle.topo_file.specs.Topology.{TopologyState}
use Rattle.topo_file.specs.declared.node.Node.{Node}
use Rattle.audit_net.specs.Net.{NetState}
use Rattle.audit_net.specs.SmallNets.{a_row}
use Rattle.audit_plan.specs.Plan.{plan_of}
use Rattle.audit_net.specs.declared.lids.Aim.{Aim}
use Rattle.audit_routes.specs.Loops.{credit_loop}
use Rattle.audit_routes.specs.declared.verdict.Verdict.{Verdict}
use Rattle.audit_routes.specs.Examples.{a_verdict}
use Rattle.audit_lanes.specs.declared.hop.Hop.{Hop}
use Rattle.audit_lanes.specs.declared.lane.Lane.{Lane}
use Rattle.audit_lanes.specs.declared.verdict.LaneVerdict.{LaneVerdict}
use Rattle.audit_lanes.specs.Audit.{closing_lines, lane_text, with_lanes}
use Rattle.audit_lanes.specs.Deadlock.{deadlock_among}
use Rattle.audit_lanes.specs.Hops.{hops_of, is_dropped, lacks_row, some_hop, traces}
use Rattle.audit_lanes.specs.Lanes.{lane, waits}
use Rattle.audit_lanes.specs.Lines.{counts_line, crossing_lines, no_path_line, ring_line}
use Rattle.audit_lanes.specs.Records.{owned, records}
use Rattle.audit_lanes.specs.Tables.{TablesState}
use Rattle.audit_lanes.specs.Verdict.{all_verdict_line, lane_verdict}

-- ---- three switches in a ring, from port 1 of each to port 2 of the next, and an adapter at port 3 of each. The entries send packets
-- to each adapter round by ports 1
abbrev a_node : NodeType → (ports : ℕ) → List ℕ → (guid : ℕ) → Node
a_node type ports name guid = record { name = name; node_type = type; guid = guid; ports = ports }

abbrev a_switch : List ℕ → ℕ → Node
a_switch name guid = a_node Switch 3 name guid

abbrev an_adapter : List ℕ → ℕ → Node
an_adapter name guid = a_node ChannelAdapter 1 name guid

abbrev joins : PortRef → PortRef → Cable
joins a b = record { first = a; second = b }

abbrev ring : TopologyState
ring = record {
  nodes = a_switch (codes "A") 16 ∷ a_switch (codes "B") 32 ∷ a_switch (codes "C") 48
      ∷ an_adapter (codes "h1") 256 ∷ an_adapter (codes "h2") 272 ∷ an_adapter (codes "h3") 288 ∷ [];
  cables = joins (port 0 1) (port 1 2) ∷ joins (port 1 1) (port 2 2) ∷ joins (port 2 1) (port 0 2)
      ∷ joins (port 0 3) (port 3 1) ∷ joins (port 1 3) (port 4 1) ∷ joins (port 2 3) (port 5 1) ∷ [];
  roots = [];
  sm = port 3 1;
}

abbrev entries : (guid first second third : ℕ) → Table
entries guid first second third = record {
  line = 1;
  guid = guid;
  top = 3;
  rows = a_row 1 first (AdapterKind 257) ∷ a_row 2 second (AdapterKind 273) ∷ a_row 3 third (AdapterKind 289) ∷ [];
}

abbrev net : NetState
net = record { plan = plan_of ring; dump = record { tables = entries 16 3 1 1 ∷ entries 32 1 3 1 ∷ entries 48 1 1 3 ∷ [] } }

-- LIDs 1 to 3 are the adapters', 4 to 6 the switches'
abbrev an_aim : ℕ → PortRef → Aim
an_aim lid end = record { lid = lid; guid = None; end = Some end }

abbrev aims : List Aim
aims = an_aim 1 (port 3 1) ∷ an_aim 2 (port 4 1) ∷ an_aim 3 (port 5 1) ∷ an_aim 4 (port 0 0) ∷ an_aim 5 (port 1 0) ∷ an_aim 6 (port 2 0) ∷ []

-- each SL has the VL of its number, except that SL 2 has VL 15
abbrev vls : List ℕ
vls = 0 ∷ 1 ∷ 15 ∷ map (λ sl. sl) (range_with_len 3 13)

abbrev a_lane_row : ℕ → ℕ → ℕ → LaneRow
a_lane_row lid input output = record { line = 1; lid = lid; input = input; output = output; lanes = vls }

abbrev lane_rows : ℕ → List LaneRow
lane_rows lid = a_lane_row lid 3 1 ∷ a_lane_row lid 2 1 ∷ a_lane_row lid 2 3 ∷ []

abbrev tables : TablesState
tables = record { aims = aims; rows = flat_map lane_rows (4 ∷ 5 ∷ 6 ∷ []) }

-- ---- the path records of all pairs: that of the adapter at C to the one at B has this SL, all others SL 0
abbrev a_path : ℕ → ℕ → ℕ → PathSl
a_path source destination sl = record { source = source; destination = destination; sl = sl }

abbrev paths : (sl : ℕ) → List PathSl
paths sl = a_path 1 2 0 ∷ a_path 1 3 0 ∷ a_path 2 1 0 ∷ a_path 2 3 0 ∷ a_path 3 1 0 ∷ a_path 3 2 sl ∷ []

abbrev a_hop : ℕ → ℕ → ℕ → ℕ → Option ℕ → Hop
a_hop place input output sl vl = record { crossing = record { place = place; input = input; output = output }; sl = sl; vl = vl }

-- ---- lanes of ports 1
abbrev on_vl : ℕ → List Lane
on_vl vl = lane (port 0 1) vl ∷ lane (port 1 1) vl ∷ lane (port 2 1) vl ∷ []

abbrev found_with : (sl : ℕ) → Option (List Lane)
found_with sl = deadlock_among (waits net aims (traces net tables (paths sl))) (on_vl 0 ++ on_vl 1)

pub record LanesAreReported : Type 0 where
  -- by the entries there is a credit loop
  pub by_entries : credit_loop net aims ≡ Some (port 0 1 ∷ port 1 1 ∷ port 2 1 ∷ [])
  -- if all packets have one SL there is one by lanes too, and if those of one path have another there is none
  pub one_sl : found_with 0 ≡ Some (on_vl 0)
  pub two_sls : found_with 1 ≡ None

pub record HopsAreReported : Type 0 where
  pub to_the_end : hops_of net tables (a_path 3 2 1) ≡ a_hop 2 3 1 1 (Some 1) ∷ a_hop 0 2 1 1 (Some 1) ∷ a_hop 1 2 3 1 (Some 1) ∷ []
  -- packets on VL 15 go no further
  pub dropped : hops_of net tables (a_path 3 2 2) ≡ a_hop 2 3 1 2 (Some 15) ∷ []
  pub drops : some_hop is_dropped (traces net tables (paths 2)) ≡ true
  -- without a row the VL is not known
  pub no_row : hops_of net (record { aims = aims; rows = lane_rows 4 }) (a_path 1 2 0) ≡ a_hop 0 3 1 0 (Some 0) ∷ a_hop 1 2 3 0 None ∷ []
  pub lacks : some_hop lacks_row (traces net tables (paths 1)) ≡ false
  -- of a switch's LID a record does not count
  pub of_switch : hops_of net tables (a_path 1 5 0) ≡ []

pub record RecordsAreReported : Type 0 where
  pub all : records (paths 0) (owned net aims) ≡ true ∷ true ∷ true ∷ true ∷ true ∷ true ∷ []
  pub some : records (a_path 1 3 0 ∷ []) (owned net aims) ≡ false ∷ true ∷ false ∷ false ∷ false ∷ false ∷ []
  pub line : no_path_line net (a_path 1 3 0 ∷ []) (owned net aims) (record { lid = 1; end = port 3 1 }) ≡ codes "lanes no-path 1 (h1/1) 2 (h2/1)\n"
  pub more : no_path_line net (a_path 1 3 0 ∷ []) (owned net aims) (record { lid = 2; end = port 4 1 })
      ≡ codes "lanes no-path 2 (h2/1) 1 (h1/1) and 1 more\n"

-- ---- lines
-- what is found of packets of these records
abbrev traced : List PathSl → List (List Hop)
traced some = traces net tables some

-- the rows of the first switch alone
abbrev traced_by_first : List (List Hop)
traced_by_first = traces net (record { aims = aims; rows = lane_rows 4 }) (a_path 1 2 0 ∷ [])

pub record LaneLinesAreReported : Type 0 where
  pub cycle : ring_line net (Some (on_vl 0)) ≡ codes "lanes deadlock A/1 VL 0 B/1 VL 0 C/1 VL 0\n"
  pub no_row : crossing_lines net traced_by_first ≡ codes "lanes no-row B in 2 out 3\n"
  pub dropped : crossing_lines net (traced (a_path 3 2 2 ∷ [])) ≡ codes "lanes dropped C in 3 out 1 SL 2\n"
  pub counts : counts_line net aims (paths 1) (traced (paths 1)) ≡ codes "lanes: 6 pairs, 6 with a path record, SLs 0 1, VLs 0 1\n"
  pub no_counts : counts_line net aims [] [] ≡ codes "lanes: 6 pairs, 0 with a path record, SLs none, VLs none\n"
  -- all of them, in this order; VL 15 is not among those that carry packets
  pub all : lane_text net aims (a_path 3 2 2 ∷ []) (traced (a_path 3 2 2 ∷ [])) (Some (on_vl 0))
      ≡ codes "lanes deadlock A/1 VL 0 B/1 VL 0 C/1 VL 0\nlanes no-path 1 (h1/1) 2 (h2/1) and 1 more\n"
      ++ codes "lanes no-path 2 (h2/1) 1 (h1/1) and 1 more\nlanes no-path 3 (h3/1) 1 (h1/1)\n"
      ++ codes "lanes dropped C in 3 out 1 SL 2\nlanes: 6 pairs, 1 with a path record, SLs 2, VLs none\n"

-- ---- verdicts
abbrev all_is_well : LaneVerdict
all_is_well = record { is_free = true; has_paths = true; has_rows = true; drops = false }

abbrev safe_routes : Verdict
safe_routes = a_verdict true true true true true

-- by the entries alone there is a credit loop
abbrev looping_routes : Verdict
looping_routes = a_verdict true true false true true

abbrev the_rest : List ℕ
the_rest = codes ", by virtual lanes; multicast is not judged\n"

abbrev judged : List ℕ
judged = codes "# lanes: packets of a path record use its SL; other packets are not judged\n"

pub record LaneVerdictsAreReported : Type 0 where
  pub of_all : lane_verdict net aims (paths 1) (traced (paths 1)) None ≡ all_is_well
  pub of_a_cycle : lane_verdict net aims (paths 0) (traced (paths 0)) (Some (on_vl 0)) ≡ record all_is_well { is_free = false }
  pub of_one_path : lane_verdict net aims (a_path 1 2 0 ∷ []) (traced (a_path 1 2 0 ∷ [])) None ≡ record all_is_well { has_paths = false }
  pub of_few_rows : lane_verdict net aims (paths 1) traced_by_first None ≡ record all_is_well { has_rows = false }
  pub of_drops : lane_verdict net aims (paths 2) (traced (paths 2)) None ≡ record all_is_well { drops = true }
  pub cycle : all_verdict_line safe_routes (record all_is_well { is_free = false }) ≡ codes "verdict: not safe (deadlock)" ++ the_rest
  pub lacks : all_verdict_line safe_routes (record all_is_well { has_paths = false }) ≡ codes "verdict: not safe (unknown)" ++ the_rest
  pub drops : all_verdict_line safe_routes (record all_is_well { has_rows = false; drops = true }) ≡ codes "verdict: not safe (unknown, dropped)" ++ the_rest
  -- behind what is found of the routes stand the lines on lanes, and then the verdict by lanes, which free them of a credit loop
  pub freed : with_lanes (record { text = codes "routes\n"; verdict = looping_routes }) (record { text = codes "lanes\n"; verdict = all_is_well })
      ≡ record {
        text =
            codes "routes\nlanes\n# lanes: by virtual lanes the deadlock above does not happen\n" ++ judged ++ codes "verdict: safe" ++ the_rest;
        is_safe = true;
      }
  -- unless a path record or a row is missing, of which nothing is known
  pub without_paths : closing_lines looping_routes (record all_is_well { has_paths = false }) ≡ judged ++ codes "verdict: not safe (unknown)" ++ the_rest
  pub without_rows : closing_lines looping_routes (record all_is_well { has_rows = false }) ≡ judged ++ codes "verdict: not safe (unknown)" ++ the_rest
  pub unsafe : with_lanes (record { text = []; verdict = safe_routes }) (record { text = []; verdict = record all_is_well { drops = true } })
      ≡ record { text = judged ++ codes "verdict: not safe (dropped)" ++ the_rest; is_safe = false }
