-- Tables that do not pass: two switches with a cable, an adapter at the first, and their entries for its LID; and three in a ring.
use Rattle.std.specs.Prelude.{ℕ, ◌≡◌, ◌+◌, ◌*◌, ◌&&◌, Bool, true, List, [], ◌∷◌, codes, None}
use Rattle.std.specs.List.{list_all}
use Rattle.dump_file.specs.declared.destination.Destination.TheVariants as destinations
use Rattle.dump_file.specs.declared.row.Row.{Row}
use Rattle.dump_file.specs.declared.table.Table.{Table}
use Rattle.fabric_parts.specs.Cable.{port}
use Rattle.fabric_parts.specs.declared.cable.Cable.{Cable}
use Rattle.fabric_parts.specs.declared.node_type.NodeType.TheVariants.{ChannelAdapter}
use Rattle.audit_loops.specs.Channels.{deadlock}
use Rattle.audit_net.specs.Net.{NetState}
use Rattle.audit_plan.specs.Plan.{plan_of}
use Rattle.audit_net.specs.SmallNets.{a_plan, a_table}
use Rattle.audit_plan.specs.Examples.{a_switch}
use Rattle.topo_file.specs.Topology.{TopologyState}
use Rattle.topo_file.specs.declared.node.Node.{Node}
use Rattle.joint_laws.specs.RouteLaws.{PassesTheAudit, comes_to}

-- the adapter is attached at port 1 of the first switch, whose port 2 has a cable to port 1 of the second
abbrev pub two_entries : ℕ → ℕ → NetState
two_entries first second = record { plan = plan_of a_plan; dump = record { tables = a_table 16 first ∷ a_table 32 second ∷ [] } }

-- the first has no entry
abbrev pub AHoleDoesNotPass : Type 0
AHoleDoesNotPass = PassesTheAudit (two_entries 255 1) → ⊥

-- neither has
abbrev pub NoEntriesDoNotPass : Type 0
NoEntriesDoNotPass = PassesTheAudit (two_entries 255 255) → ⊥

-- each sends it to the other
abbrev pub ALoopDoesNotPass : Type 0
ALoopDoesNotPass = PassesTheAudit (two_entries 2 1) → ⊥

-- the first keeps it
abbrev pub AWrongEndDoesNotPass : Type 0
AWrongEndDoesNotPass = PassesTheAudit (two_entries 0 1) → ⊥

-- the second sends it out of a port without a cable
abbrev pub ADeadEndDoesNotPass : Type 0
ADeadEndDoesNotPass = PassesTheAudit (two_entries 1 2) → ⊥

-- if each sends it to the other, the channels between them wait for one another
abbrev pub ACycleIsNotFree : Type 0
ACycleIsNotFree = ((lids : List ℕ) → deadlock (two_entries 2 1) lids ≡ None) → ⊥

-- ---- three switches, each with an adapter at its port 1 and with a cable from its port 2 to port 3 of the next. Each sends on by
-- port 2 what is not for its own adapter.
abbrev pub ring_node : List ℕ → ℕ → Node
ring_node name guid = record (a_switch name guid) { ports = 3 }

abbrev pub ring_adapter : ℕ → Node
ring_adapter guid = record { name = codes "h"; node_type = ChannelAdapter; guid = guid; ports = 1 }

abbrev pub ring_row : ℕ → ℕ → Row
ring_row lid number = record { lid = lid; port = number; destination = destinations.ChannelAdapter (256 * lid + 1) }

abbrev pub ring_table : ℕ → ℕ → ℕ → ℕ → Table
ring_table guid first second third =
    record { line = 0; guid = guid; top = 3; rows = ring_row 1 first ∷ ring_row 2 second ∷ ring_row 3 third ∷ [] }

abbrev pub ring_cable : ℕ → ℕ → ℕ → ℕ → Cable
ring_cable a first b second = record { first = port a first; second = port b second }

abbrev pub ring_plan : TopologyState
ring_plan = record {
  nodes = ring_node (codes "A") 16 ∷ ring_node (codes "B") 32 ∷ ring_node (codes "C") 48
      ∷ ring_adapter 256 ∷ ring_adapter 512 ∷ ring_adapter 768 ∷ [];
  cables = ring_cable 0 1 3 1 ∷ ring_cable 1 1 4 1 ∷ ring_cable 2 1 5 1 ∷ ring_cable 0 2 1 3 ∷ ring_cable 1 2 2 3 ∷ ring_cable 2 2 0 3 ∷ [];
  roots = [];
  sm = port 3 1;
}

abbrev pub ring : NetState
ring = record {
  plan = plan_of ring_plan;
  dump = record { tables = ring_table 16 1 2 2 ∷ ring_table 32 2 1 2 ∷ ring_table 48 2 2 1 ∷ [] };
}

-- packets come to each adapter from there
abbrev pub all_come : ℕ → Bool
all_come place = comes_to ring place 1 (port 3 1) && (comes_to ring place 2 (port 4 1) && comes_to ring place 3 (port 5 1))

-- from each switch they do, and yet the channels of the ring wait for one another
pub record AWaitingRingDoesNotPass : Type 0 where
  pub come : list_all all_come (0 ∷ 1 ∷ 2 ∷ []) ≡ true
  pub waits : PassesTheAudit ring → ⊥
