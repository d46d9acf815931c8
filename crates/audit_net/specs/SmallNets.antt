-- Small fabrics with the tables that stand in them, of which examples and wrong rules speak.
use Rattle.std.specs.Prelude.{ℕ, List, [], ◌∷◌, codes}
use Rattle.dump_file.specs.declared.destination.Destination.{Destination}
use Rattle.dump_file.specs.declared.destination.Destination.TheVariants as destinations
use Rattle.dump_file.specs.declared.row.Row.{Row}
use Rattle.dump_file.specs.declared.table.Table.{Table}
use Rattle.fabric_parts.specs.Cable.{port}
use Rattle.fabric_parts.specs.declared.node_type.NodeType.TheVariants.{ChannelAdapter}
use Rattle.topo_file.specs.Topology.{TopologyState}
use Rattle.audit_net.specs.Net.{NetState}
use Rattle.audit_plan.specs.Plan.{plan_of}
use Rattle.audit_plan.specs.Examples.{a_switch}

-- ---- two switches with a cable, and their entries for LID 1
abbrev pub a_table : ℕ → ℕ → Table
a_table guid number =
    record { line = 1; guid = guid; top = 1; rows = record { lid = 1; port = number; destination = destinations.ChannelAdapter 257 } ∷ [] }

abbrev pub two_cabled : TopologyState
two_cabled = record {
  nodes = a_switch (codes "A") 16 ∷ a_switch (codes "B") 32 ∷ [];
  cables = record { first = port 0 1; second = port 1 1 } ∷ [];
  roots = [];
  sm = port 0 2;
}

abbrev pub two_switches : ℕ → ℕ → NetState
two_switches first second = record {
  plan = plan_of two_cabled;
  dump = record { tables = a_table 16 first ∷ a_table 32 second ∷ [] };
}

-- ---- an adapter at port 1 of the first of two switches, whose port 2 has a cable to port 1 of the second, and their rows
abbrev pub a_plan : TopologyState
a_plan = record {
  nodes = a_switch (codes "A") 16 ∷ a_switch (codes "B") 32 ∷ record { name = codes "h"; node_type = ChannelAdapter; guid = 256; ports = 1 } ∷ [];
  cables = record { first = port 0 1; second = port 2 1 } ∷ record { first = port 0 2; second = port 1 1 } ∷ [];
  roots = [];
  sm = port 2 1;
}

abbrev pub a_row : ℕ → ℕ → Destination → Row
a_row lid number destination = record { lid = lid; port = number; destination = destination }

-- LID 1 is the adapter's
abbrev pub adapters_row : ℕ → Row
adapters_row number = a_row 1 number (destinations.ChannelAdapter 257)

-- LID 2 is a router's
abbrev pub a_routers_row : ℕ → Row
a_routers_row number = a_row 2 number (destinations.Router 999)

abbrev pub with_rows : ℕ → List Row → Table
with_rows guid rows = record { line = 1; guid = guid; top = 2; rows = rows }

abbrev pub two_with : List Row → List Row → NetState
two_with first second = record { plan = plan_of a_plan; dump = record { tables = with_rows 16 first ∷ with_rows 32 second ∷ [] } }

-- the second switch has no entry for the adapter's LID, and no packet to it comes there
abbrev pub a_hole : NetState
a_hole = two_with (adapters_row 1 ∷ []) (adapters_row 255 ∷ [])

-- the same two switches, with these entries for the adapter's LID
abbrev pub with_entries : ℕ → ℕ → NetState
with_entries first second = record { plan = a_hole.plan; dump = record { tables = a_table 16 first ∷ a_table 32 second ∷ [] } }
