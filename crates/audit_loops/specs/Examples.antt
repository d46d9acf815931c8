-- Which channels wait for which, in examples.
use Rattle.std.specs.Prelude.{ℕ, ◌≡◌, true, false, [], ◌∷◌, codes, Some, None}
use Rattle.fabric_parts.specs.Cable.{port}
use Rattle.topo_file.specs.Topology.{TopologyState}
use Rattle.audit_net.specs.Net.{NetState}
use Rattle.audit_net.specs.SmallNets.{a_hole, a_routers_row, a_table, with_entries, with_rows}
use Rattle.audit_plan.specs.Examples.{a_switch}
use Rattle.audit_plan.specs.Plan.{plan_of}
use Rattle.audit_loops.specs.Channels.{channels, deadlock, deadlock_on, depends, depends_on}
use Rattle.audit_loops.specs.Courses.{CourseState, counts, from_hosts}

-- ---- three switches in a ring, each with a cable from its port 1 to port 2 of the next
abbrev three_cabled : TopologyState
three_cabled = record {
  nodes = a_switch (codes "A") 16 ∷ a_switch (codes "B") 32 ∷ a_switch (codes "C") 48 ∷ [];
  cables = record { first = port 0 1; second = port 1 2 } ∷ record { first = port 1 1; second = port 2 2 }
      ∷ record { first = port 2 1; second = port 0 2 } ∷ [];
  roots = [];
  sm = port 0 0;
}

-- all send LID 1 round, by their ports 1
abbrev all_round : NetState
all_round = record { plan = plan_of three_cabled; dump = record { tables = a_table 16 1 ∷ a_table 32 1 ∷ a_table 48 1 ∷ [] } }

-- the first sends LID 1 on, the second LID 2 alone
abbrev by_two_lids : NetState
by_two_lids = record {
  plan = plan_of three_cabled;
  dump = record { tables = a_table 16 1 ∷ with_rows 32 (a_routers_row 1 ∷ []) ∷ a_table 48 1 ∷ [] };
}

abbrev at_two : CourseState
at_two = record { lid = 1; marks = Some (true ∷ true ∷ false ∷ []) }

pub record WaitsAreReported : Type 0 where
  -- the ports of switches that have a cable to a switch
  pub channels_of_all : channels all_round ≡ port 0 1 ∷ port 0 2 ∷ port 1 1 ∷ port 1 2 ∷ port 2 1 ∷ port 2 2 ∷ []
  pub channels_of_two : channels a_hole ≡ port 0 2 ∷ port 1 1 ∷ []
  pub behind : depends all_round (1 ∷ []) (port 0 1) (port 1 1) ≡ true
  -- a port of a switch that is not behind it, another port, and another LID
  pub farther : depends all_round (1 ∷ []) (port 0 1) (port 2 1) ≡ false
  pub back : depends all_round (1 ∷ []) (port 0 1) (port 1 2) ≡ false
  pub of_another_lid : depends all_round (2 ∷ []) (port 0 1) (port 1 1) ≡ false
  pub of_two_lids : depends by_two_lids (1 ∷ 2 ∷ []) (port 0 1) (port 1 1) ≡ false
  pub round : deadlock all_round (2 ∷ 1 ∷ []) ≡ Some (port 0 1 ∷ port 1 1 ∷ port 2 1 ∷ [])
  pub of_two : deadlock (with_entries 2 1) (1 ∷ []) ≡ Some (port 0 2 ∷ port 1 1 ∷ [])
  pub none : deadlock by_two_lids (1 ∷ 2 ∷ []) ≡ None
  -- the entries of LID 1 count at A and B alone
  pub at_a : depends_on all_round (at_two ∷ []) (port 0 1) (port 1 1) ≡ true
  pub not_at_c : depends_on all_round (at_two ∷ []) (port 2 1) (port 0 1) ≡ false
  pub none_at_two : deadlock_on all_round (at_two ∷ []) ≡ None
  -- packets of the host at the first switch come to both, and to no others
  pub from_a_host : counts (from_hosts (with_entries 2 1) 1) 1 ≡ true
  pub not_at_the_host : counts (from_hosts (with_entries 2 1) 1) 2 ≡ false
  pub of_hosts : deadlock_on (with_entries 2 1) (from_hosts (with_entries 2 1) 1 ∷ []) ≡ Some (port 0 2 ∷ port 1 1 ∷ [])
  -- no host is attached to the ring
  pub of_no_hosts : deadlock_on all_round (from_hosts all_round 1 ∷ []) ≡ None
