-- What lines are, in examples.
use Rattle.std.specs.Prelude.{ℕ, ◌≡◌, Bool, true, false, not, List, [], ◌∷◌, ◌++◌, codes, flat_map, Option, Some, None, take}
use Rattle.dump_file.specs.declared.destination.Destination.TheVariants.{Nobody, NotReported}
use Rattle.dump_file.specs.declared.row.Row.{Row}
use Rattle.dump_file.specs.declared.table.Table.{Table}
use Rattle.fabric_parts.specs.Cable.{port}
use Rattle.fabric_parts.specs.declared.cable.PortRef.{PortRef}
use Rattle.fabric_parts.specs.declared.node_type.NodeType.TheVariants.{ChannelAdapter, Switch as SwitchNode}
use Rattle.topo_file.specs.Topology.{TopologyState}
use Rattle.audit_plan.specs.Plan.{plan_of}
use Rattle.audit_net.specs.declared.lids.Aim.{Aim}
use Rattle.audit_routes.specs.declared.verdict.Verdict.{Verdict}
use Rattle.audit_routes.specs.Asks.{asks_by}
use Rattle.audit_routes.specs.Audit.{count_line, counts_by, deadlock_words, lines_by, ring_line, text_by}
use Rattle.audit_routes.specs.Loops.{LoopsState, aggregation_credit_loop, closing, credit_loop, switches_credit_loop}
use Rattle.audit_net.specs.Lids.{aim_of}
use Rattle.text_words.specs.Parts.{guid_text}
use Rattle.audit_routes.specs.Deciding.{by_switch, places_line, unknown_line, unreached_line}
use Rattle.audit_routes.specs.Lines.{files_by, leaves_out, no_lid_lines, no_port_line, no_switch_line, no_table_line, stray_line, trouble_line, troubles_by, unreported_line}
use Rattle.audit_net.specs.Net.{NetState}
use Rattle.audit_routes.specs.Pairs.{pairs_by}
use Rattle.audit_routes.specs.Verdict.{verdict_line}
use Rattle.audit_net.specs.SmallNets.{a_hole, a_plan, a_row, a_table, with_entries, with_rows}
use Rattle.audit_routes.specs.WrongRules.{aggregations_aim, an_aggregations_loop, two_aims, two_loops, a_routers_hole, a_routers_loop, a_row_left_out, an_aggregations_hole, nobodys_row_left_out, an_unknown_entry}
use Rattle.audit_net.specs.Examples.{topped}

-- the LID of the adapter's port
abbrev an_aim : Aim
an_aim = record { lid = 1; guid = Some 257; end = Some (port 2 1) }

-- a row for a LID that nobody has
abbrev strays : ℕ → Table
strays number = record (a_table 16 1) { rows = record { lid = 21; port = number; destination = Nobody } ∷ [] }

abbrev astray : ℕ → NetState
astray number = record { plan = a_hole.plan; dump = record { tables = strays number ∷ [] } }

pub record TroublesAreReported : Type 0 where
  pub hole : troubles_by (with_entries 1 255) (an_aim ∷ []) ≡ codes "hole B 1 (h/1)\n"
  pub loop : troubles_by (with_entries 2 1) (an_aim ∷ []) ≡ codes "loop 1 (h/1) A B\n"
  pub wrong : troubles_by (with_entries 0 1) (an_aim ∷ []) ≡ codes "wrong A 1 (h/1) A/0\n"
  pub nowhere : troubles_by (with_entries 1 254) (an_aim ∷ []) ≡ codes "nowhere B 1 (h/1) port 254\n"
  pub none : troubles_by (with_entries 1 1) (an_aim ∷ []) ≡ []
  pub stray : stray_line (astray 2) 0 21 ≡ codes "stray A 21\n"
  pub closed_stray : stray_line (astray 255) 0 21 ≡ []
  -- of a router's LID a hole has its line, and if packets leave the switches they know of none
  pub hole_to_a_router : troubles_by a_routers_hole (aim_of a_routers_hole 2 ∷ []) ≡ codes "hole A 2\n"
  pub loop_to_a_router : troubles_by a_routers_loop (aim_of a_routers_loop 2 ∷ []) ≡ codes "loop 2 A B\n"
  pub last_hop_to_a_router : trouble_line a_routers_hole 1 (aim_of a_routers_hole 2) ≡ []
  -- a row that a table leaves out
  pub left_out : trouble_line a_row_left_out 1 (record an_aim { lid = 64 }) ≡ codes "left-out B 64 (h/1)\n"
  -- of a LID of nobody if a switch sends it there
  pub left_out_of_nobody : trouble_line nobodys_row_left_out 1 (record { lid = 64; guid = None; end = None }) ≡ codes "left-out B 64\n"
  pub nobody_sends : trouble_line a_row_left_out 1 (record { lid = 128; guid = None; end = None }) ≡ []

-- ---- the line of a credit loop, with the LIDs that close it
pub record DeadlocksAreReported : Type 0 where
  pub to_the_adapter : ring_line (with_entries 2 1) (codes "deadlock") true (an_aim ∷ []) (Some (port 0 2 ∷ port 1 1 ∷ []))
      ≡ codes "deadlock A/2 B/1 by LIDs 1 (h/1) 1 (h/1)\n"
  pub none : ring_line (with_entries 1 1) (codes "deadlock") true (an_aim ∷ []) None ≡ []
  -- along the LID of an adapter it is looked for first; along that of a switch only if those alone make none
  pub of_adapters : credit_loop (with_entries 2 1) (an_aim ∷ []) ≡ Some (port 0 2 ∷ port 1 1 ∷ [])
  pub of_adapters_alone : switches_credit_loop (with_entries 2 1) (an_aim ∷ []) ≡ None
  pub of_no_adapters : credit_loop (with_entries 2 1) (record an_aim { end = Some (port 0 0) } ∷ []) ≡ None
  pub of_switches : switches_credit_loop (with_entries 2 1) (record an_aim { end = Some (port 0 0) } ∷ []) ≡ Some (port 0 2 ∷ port 1 1 ∷ [])
  -- along that of an aggregation node if packets of hosts come there
  pub of_hosts : credit_loop (an_aggregations_loop 2) (aggregations_aim ∷ []) ≡ Some (port 1 2 ∷ port 4 1 ∷ [])
  pub of_no_hosts : credit_loop (an_aggregations_loop 255) (aggregations_aim ∷ []) ≡ None
  pub of_aggregation : aggregation_credit_loop (an_aggregations_loop 255) (aggregations_aim ∷ []) ≡ Some (port 1 2 ∷ port 4 1 ∷ [])
  pub of_hosts_alone : aggregation_credit_loop (an_aggregations_loop 2) (aggregations_aim ∷ []) ≡ None
  pub of_no_switches : switches_credit_loop (an_aggregations_loop 255) (aggregations_aim ∷ []) ≡ None
  -- a LID that does not count there closes no step of the cycle that decides
  pub closed_by : closing two_loops true two_aims (port 1 2 ∷ port 4 1 ∷ []) 0 ≡ Some (record { lid = 3; guid = None; end = None })
  pub closed_by_any : closing two_loops false two_aims (port 1 2 ∷ port 4 1 ∷ []) 0 ≡ Some aggregations_aim

-- ---- what the files lack of one another
-- a cable between two end ports, a table of no switch, and one whose top is a high multiple of 64
abbrev some_lacks : NetState
some_lacks = record {
  plan = record a_hole.plan { apart = record { first = port 2 1; second = port 2 2 } ∷ [] };
  dump = record { tables = topped 49088 ∷ a_table 256 1 ∷ [] };
}

abbrev lost_aim : Aim
lost_aim = record { lid = 3; guid = Some 999; end = None }

pub record LacksAreReported : Type 0 where
  pub has_the_row : leaves_out 1 (topped 1) ≡ false
  pub table : no_table_line (astray 2) 1 ≡ codes "no-table B\n"
  pub has_table : no_table_line (astray 2) 0 ≡ []
  pub switch : no_switch_line a_hole (a_table 256 1) ≡ codes "no-switch " ++ guid_text 256 ++ codes "\n"
  pub has_switch : no_switch_line a_hole (a_table 32 1) ≡ []
  pub end_port : no_port_line (record { lid = 3; guid = Some 0x7cfe9003009f0a11; end = None }) ≡ codes "no-port 3 " ++ guid_text 0x7cfe9003009f0a11 ++ codes "\n"
  pub lid : no_lid_lines a_hole [] (record { first = port 0 1; second = port 2 1 }) ≡ codes "no-lid h/1\n"
  pub untold : unreported_line a_row_left_out [] 64 ≡ codes "untold 64\n"
  pub told : unreported_line a_row_left_out (record an_aim { lid = 64 } ∷ []) 64 ≡ []
  pub lid_of_first : no_lid_lines a_hole [] (record { first = port 2 1; second = port 0 1 }) ≡ codes "no-lid h/1\n"
  pub nobodys_lid : no_port_line (record { lid = 3; guid = None; end = None }) ≡ []
  -- all of them, in this order
  pub all : files_by some_lacks (lost_aim ∷ [])
      ≡ codes "# passed over: h/1 h/2\nno-table B\n" ++ flat_map (no_switch_line some_lacks) some_lacks.dump.tables
      ++ flat_map no_port_line (lost_aim ∷ []) ++ codes "no-lid h/1\n" ++ codes "untold 49088\n"
  pub has_lid : no_lid_lines a_hole (an_aim ∷ []) (record { first = port 0 1; second = port 2 1 }) ≡ []

-- ---- what to ask: of these two switches the first has 128 ports, its own LID is 3, and its table has these rows
abbrev wide_plan : TopologyState
wide_plan = record a_plan {
  nodes = record { name = codes "A"; node_type = SwitchNode; guid = 16; ports = 128 } ∷ record { name = codes "B"; node_type = SwitchNode; guid = 32; ports = 2 }
      ∷ record { name = codes "h"; node_type = ChannelAdapter; guid = 256; ports = 1 } ∷ [];
}

abbrev wide : List Row → NetState
wide rows = record { plan = plan_of wide_plan; dump = record { tables = with_rows 16 rows ∷ with_rows 32 [] ∷ [] } }

-- B sends LID 7 to A
abbrev fed_wide : NetState
fed_wide = record {
  plan = plan_of wide_plan;
  dump = record { tables = with_rows 16 (a_row 3 0 Nobody ∷ []) ∷ with_rows 32 (a_row 7 1 NotReported ∷ []) ∷ [] };
}

abbrev own_aim : Aim
own_aim = record { lid = 3; guid = Some 16; end = Some (port 0 0) }

pub record AsksAreReported : Type 0 where
  pub lacks : asks_by (wide (a_row 3 0 Nobody ∷ [])) (an_aim ∷ own_aim ∷ []) ≡ codes "# ask: ibroute 3, and append its table to the dump\n"
  pub has_all : asks_by (wide (a_row 1 1 Nobody ∷ a_row 3 0 Nobody ∷ [])) (an_aim ∷ own_aim ∷ []) ≡ []
  -- a row of nobody's LID is not missed, nor one that is left out at the top of a table, which no tool shows
  pub of_nobody : asks_by (wide (a_row 1 1 Nobody ∷ a_row 3 0 Nobody ∷ [])) (record { lid = 7; guid = None; end = None } ∷ own_aim ∷ []) ≡ []
  -- unless a switch sends it there
  pub fed : asks_by fed_wide (record { lid = 7; guid = None; end = None } ∷ own_aim ∷ []) ≡ codes "# ask: ibroute 3, and append its table to the dump\n"
  pub at_the_top : asks_by a_row_left_out (record an_aim { lid = 64 } ∷ own_aim ∷ []) ≡ []

-- ---- counts
pub record CountsAreReported : Type 0 where
  pub of_a_hole : count_line (codes "audit: ") (pairs_by (with_entries 1 255) (an_aim ∷ [])) (deadlock_words false)
      ≡ codes "audit: 2 pairs, 1 reached, 1 holes, 0 nowhere, 0 wrong, 0 loops, 0 unknown, no deadlock\n"
  pub of_a_loop : counts_by (pairs_by (with_entries 2 1) (an_aim ∷ [])) false true
      ≡ codes "adapters: 1 pairs, 0 reached, 0 holes, 0 nowhere, 0 wrong, 1 loops, 0 unknown, no deadlock\n"
      ++ codes "transit: 1 pairs, 0 reached, 0 holes, 0 nowhere, 0 wrong, 1 loops, 0 unknown\n"
      ++ codes "switches: 0 pairs, 0 reached, 0 holes, 0 nowhere, 0 wrong, 0 loops, 0 unknown\n"
      ++ codes "audit: 2 pairs, 0 reached, 0 holes, 0 nowhere, 0 wrong, 2 loops, 0 unknown, deadlock\n"
  -- LIDs of aggregation nodes have a line of their own
  pub of_aggregation : counts_by (pairs_by an_aggregations_hole (record { lid = 2; guid = Some 513; end = Some (port 3 1) } ∷ [])) true false
      ≡ codes "adapters: 0 pairs, 0 reached, 0 holes, 0 nowhere, 0 wrong, 0 loops, 0 unknown, deadlock\n"
      ++ codes "transit: 0 pairs, 0 reached, 0 holes, 0 nowhere, 0 wrong, 0 loops, 0 unknown\n"
      ++ codes "aggregation: 2 pairs, 1 reached, 1 holes, 0 nowhere, 0 wrong, 0 loops, 0 unknown\n"
      ++ codes "switches: 0 pairs, 0 reached, 0 holes, 0 nowhere, 0 wrong, 0 loops, 0 unknown\n"
      ++ codes "audit: 2 pairs, 1 reached, 1 holes, 0 nowhere, 0 wrong, 0 loops, 0 unknown, deadlock\n"

-- ---- what decides
-- nine of them
abbrev nine : List ℕ
nine = 0 ∷ 1 ∷ 0 ∷ 1 ∷ 0 ∷ 1 ∷ 0 ∷ 1 ∷ 0 ∷ []

-- both tables may lack the row of LID 64, and no switch sends it
abbrev unsent : NetState
unsent = record {
  plan = a_hole.plan;
  dump = record {
    tables = record { line = 1; guid = 16; top = 64; rows = a_row 1 1 Nobody ∷ [] } ∷ record { line = 2; guid = 32; top = 64; rows = [] } ∷ [];
  };
}

-- the dump has no table of the switch of the host
abbrev no_table_there : NetState
no_table_there = record { plan = a_hole.plan; dump = record { tables = with_rows 32 [] ∷ [] } }

pub record DecidingIsReported : Type 0 where
  -- a hole at the switch of the host loses the pair, a hole at the other does not
  pub lost : unreached_line (with_entries 255 1) an_aim ≡ codes "unreached 1 (h/1) from 1 switches: A\n"
  pub not_lost : unreached_line (with_entries 1 255) an_aim ≡ []
  pub round : unreached_line (with_entries 2 1) an_aim ≡ codes "unreached 1 (h/1) from 1 switches: A\n"
  -- the first eight have their names
  pub eight : places_line (codes "unreached ") (codes " from ") a_hole an_aim (take 8 nine) ≡ codes "unreached 1 (h/1) from 8 switches: A B A B A B A B\n"
  pub more : places_line (codes "unreached ") (codes " from ") a_hole an_aim nine ≡ codes "unreached 1 (h/1) from 9 switches: A B A B A B A B and 1 more\n"
  -- an entry that another switch sends to is unknown, of a LID of an aggregation node or of nobody
  pub unknown : unknown_line an_unknown_entry (record { lid = 64; guid = Some 513; end = Some (port 3 1) })
      ≡ codes "unknown 64 (Aggregation Node/1) at 1 switches: B\n"
  pub of_nobody : unknown_line nobodys_row_left_out (record { lid = 64; guid = None; end = None }) ≡ codes "unknown 64 at 1 switches: B\n"
  -- but not if no switch sends it, unless the switch has a host and the LID is a host's
  pub not_sent : unknown_line unsent (record { lid = 64; guid = None; end = None }) ≡ []
  pub of_host : unknown_line (wide (a_row 3 0 Nobody ∷ [])) an_aim ≡ codes "unknown 1 (h/1) at 1 switches: A\n"
  -- a LID of a switch decides nothing, and a switch without a table has another line
  pub of_switch : unknown_line (wide []) own_aim ≡ []
  pub no_table : unknown_line no_table_there an_aim ≡ []
  pub no_switches : files_by (record { plan = record a_hole.plan { nodes = []; cables = [] }; dump = record { tables = [] } }) [] ≡ codes "# no switches\n"

-- ---- the last line
abbrev pub a_verdict : Bool → Bool → Bool → Bool → Bool → Verdict
a_verdict lids reached free same known = record {
  has_lids = lids;
  is_reached = reached;
  is_free = free;
  is_same = same;
  is_known = known;
  loses = not reached;
  lacks_entries = false;
}

-- pairs that are not reached since entries are unknown
abbrev pub lacking : Verdict
lacking = record (a_verdict true false true true true) { loses = false; lacks_entries = true }

abbrev the_rest : List ℕ
the_rest = codes ", as if all packets used one virtual lane; multicast is not judged\n"

pub record VerdictsAreReported : Type 0 where
  pub safe : verdict_line (a_verdict true true true true true) ≡ codes "verdict: safe" ++ the_rest
  pub lids : verdict_line (a_verdict false true true true true) ≡ codes "verdict: not safe (no-lid)" ++ the_rest
  pub reached : verdict_line (a_verdict true false true true true) ≡ codes "verdict: not safe (unreached)" ++ the_rest
  pub free : verdict_line (a_verdict true true false true true) ≡ codes "verdict: not safe (deadlock)" ++ the_rest
  pub same : verdict_line (a_verdict true true true false true) ≡ codes "verdict: not safe (mismatch)" ++ the_rest
  pub known : verdict_line (a_verdict true true true true false) ≡ codes "verdict: not safe (unknown)" ++ the_rest
  pub entries : verdict_line lacking ≡ codes "verdict: not safe (unknown)" ++ the_rest
  pub none : verdict_line (a_verdict false false false false false) ≡ codes "verdict: not safe (no-lid, unreached, deadlock, mismatch, unknown)" ++ the_rest

-- ---- all lines, in their order
-- two ports that wait for one another
abbrev two_ports : List PortRef
two_ports = port 0 2 ∷ port 1 1 ∷ []

abbrev loops : (deciding aggregation switches : Option (List PortRef)) → LoopsState
loops deciding aggregation switches = record { deciding = deciding; aggregation = aggregation; switches = switches }

pub record TextsAreReported : Type 0 where
  pub lines : lines_by (wide (a_row 3 0 Nobody ∷ [])) (own_aim ∷ an_aim ∷ []) (loops (Some two_ports) (Some two_ports) (Some two_ports))
      ≡ codes "unknown 1 (h/1) at 1 switches: A\n"
      ++ codes "# ask: ibroute 3, and append its table to the dump\ndeadlock A/2 B/1 by LIDs\n"
      ++ codes "deadlock aggregation-lids A/2 B/1 by LIDs\ndeadlock switch-lids A/2 B/1 by LIDs\n"
  -- what stands behind them, with and without `--all`
  pub all : by_switch true (wide (a_row 3 0 Nobody ∷ [])) (own_aim ∷ an_aim ∷ []) ≡ codes "left-out A 1 (h/1)\nhole B 3 (A/0)\nhole B 1 (h/1)\n"
  pub counted : by_switch false (wide (a_row 3 0 Nobody ∷ [])) (own_aim ∷ an_aim ∷ []) ≡ codes "# 3 lines by switch and LID: --all prints them\n"
  pub none : by_switch false (with_entries 1 1) (an_aim ∷ []) ≡ []
  pub safe : text_by false (with_entries 1 1) (an_aim ∷ []) (loops None None None)
      ≡ codes "adapters: 1 pairs, 1 reached, 0 holes, 0 nowhere, 0 wrong, 0 loops, 0 unknown, no deadlock\n"
      ++ codes "transit: 1 pairs, 1 reached, 0 holes, 0 nowhere, 0 wrong, 0 loops, 0 unknown\n"
      ++ codes "switches: 0 pairs, 0 reached, 0 holes, 0 nowhere, 0 wrong, 0 loops, 0 unknown\n"
      ++ codes "audit: 2 pairs, 2 reached, 0 holes, 0 nowhere, 0 wrong, 0 loops, 0 unknown, no deadlock\nverdict: safe" ++ the_rest
  pub unsafe : text_by true (with_entries 255 1) (an_aim ∷ []) (loops None None (Some two_ports))
      ≡ codes "unreached 1 (h/1) from 1 switches: A\ndeadlock switch-lids A/2 B/1 by LIDs\nhole A 1 (h/1)\n"
      ++ codes "adapters: 1 pairs, 0 reached, 1 holes, 0 nowhere, 0 wrong, 0 loops, 0 unknown, no deadlock\n"
      ++ codes "transit: 1 pairs, 0 reached, 1 holes, 0 nowhere, 0 wrong, 0 loops, 0 unknown\n"
      ++ codes "switches: 0 pairs, 0 reached, 0 holes, 0 nowhere, 0 wrong, 0 loops, 0 unknown\n"
      ++ codes "audit: 2 pairs, 0 reached, 2 holes, 0 nowhere, 0 wrong, 0 loops, 0 unknown, deadlock\nverdict: not safe (unreached)" ++ the_rest
