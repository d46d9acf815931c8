-- Wrong rules for what is printed, and a dump that the law does not take for another.
use Rattle.std.specs.Prelude.{ℕ, ◌≡◌, Bool, List, [], ◌∷◌, decimal, length, None}
use Rattle.audit_loads.specs.Examples.{row_to, shown, table_to, with_ports}
use Rattle.audit_loads.specs.Talk.{may_talk}
use Rattle.audit_loads.specs.Text.{load_of_plan}
use Rattle.audit_loads.specs.WrongRules.{a_plan}
use Rattle.fabric_parts.specs.Cable.{port}
use Rattle.fabric_tables.specs.Whole.{led_by}
use Rattle.joint_laws.specs.RouteLaws.{over}
use Rattle.joint_laws.specs.Shown.{Shows}
use Rattle.smp_wire.specs.FabricState.{FabricState, fabric_with}
use Rattle.smp_wire.specs.declared.node.Node.TheVariants.{Switch}
use Rattle.dump_file.specs.declared.table.Table.{Table}
use Rattle.dump_file.specs.Dump.{DumpState}
use Rattle.dump_file.specs.Table.{rows_of}
use Rattle.fabric_parts.specs.declared.cable.PortRef.{PortRef}
use Rattle.audit_net.specs.OwnerLaws.{end_port_of}
use Rattle.audit_plan.specs.Plan.{PlanState, plan_of}
use Rattle.joint_laws.specs.Alike.{AreAlike, net_of}
use Rattle.joint_laws.specs.LoadLaws.{IsOfEntries}

-- ---- the hosts h at A and k at B, and what A and B hold
abbrev pub both_tables : List Table
both_tables = table_to 16 1 2 ∷ table_to 32 2 1 ∷ []

-- ---- a load counts the rows of the dump
abbrev pub row_count : PlanState → DumpState → (talk : PortRef → PortRef → Bool) → List ℕ
row_count plan dump talk = decimal (length (rows_of dump.tables))

-- the table of B, twice, adds nothing
abbrev pub RowsDoNotCount : Type 0
RowsDoNotCount = IsOfEntries row_count → ⊥

-- ---- A has no row for LID 2
abbrev pub a_row_less : DumpState
a_row_less = record { tables = record { line = 1; guid = 16; top = 2; rows = row_to 1 1 257 ∷ [] } ∷ table_to 32 2 1 ∷ [] }

-- what A holds
abbrev pub a_fabric : FabricState
a_fabric = fabric_with (Switch (led_by 16 2 (255 ∷ 1 ∷ 2 ∷ [])) ∷ []) [] (port 2 1)

-- so packets from h to k are lost at A: the laws do not take this dump for the other, nor for what A holds
pub record ARowLessIsNotAlike : Type 0 where
  pub unshown : Shows (over a_plan a_row_less) (257 ∷ 513 ∷ []) a_fabric → ⊥
  pub refused : AreAlike (plan_of a_plan) (record { tables = both_tables }) a_row_less → ⊥
  pub differ : shown (with_ports 1 2 2 1) (may_talk None) ≡ shown (net_of (plan_of a_plan) a_row_less) (may_talk None) → ⊥

-- ---- the end ports of LIDs decide, whatever the entries are
abbrev pub EndPortsDoNotDecide : Type 0
EndPortsDoNotDecide =
    ((plan : PlanState) (dump other : DumpState) (talk : PortRef → PortRef → Bool)
    → ((lid : ℕ) → end_port_of (net_of plan dump) lid ≡ end_port_of (net_of plan other) lid) → load_of_plan plan dump talk ≡ load_of_plan plan other talk) → ⊥
