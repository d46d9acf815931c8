-- When the two forms of `fabric load` print the same: the statements of the laws of `src/load_laws.rt`.
use Rattle.std.specs.Prelude.{ℕ, ◌≡◌, Bool, true, List, Ok}
use Rattle.audit_loads.specs.Text.{load_of_plan, load_text}
use Rattle.dump_file.specs.Dump.{DumpState, dump_of}
use Rattle.fabric_parts.specs.declared.cable.PortRef.{PortRef}
use Rattle.fabric_tables.specs.Multicast.{tables_text}
use Rattle.partition_file.specs.declared.partition.Partition.{Partition}
use Rattle.audit_plan.specs.Plan.{PlanState, plan_of}
use Rattle.smp_wire.specs.FabricState.{FabricState}
use Rattle.subnet_fabric.specs.BringUp.{IsBroughtUpBy}
use Rattle.subnet_fabric.specs.Standing.{IsStanding}
use Rattle.subnet_fabric.specs.Ports.{ports_of}
use Rattle.topo_file.specs.Sound.{IsSound}
use Rattle.topo_file.specs.Topology.{TopologyState}
use Rattle.updn_routes.specs.Subnet.{RoutesState}
use Rattle.fabric_loads.specs.OwnDump.{own_dump}
use Rattle.fabric_loads.specs.OwnLoads.{over_cables_up, own_load_text}
use Rattle.joint_laws.specs.RouteLaws.{over}
use Rattle.joint_laws.specs.Alike.{AreAlike}
use Rattle.joint_laws.specs.Held.{HasOwnRows, ShowsAll}

-- ---- what is printed depends on a dump by entries and end ports alone
abbrev pub IsOfEntries : (PlanState → DumpState → (talk : PortRef → PortRef → Bool) → List ℕ) → Type 0
IsOfEntries text =
    (plan : PlanState) (dump other : DumpState) (talk : PortRef → PortRef → Bool) → AreAlike plan dump other → text plan dump talk ≡ text plan other talk

abbrev pub LoadsAreOfEntries : Type 0
LoadsAreOfEntries = IsOfEntries load_of_plan

-- ---- of a fabric that is brought up, each dump that reports all that its switches hold has the loads of the fabric itself
abbrev pub LoadsAreOfWhatIsHeld : Type 0
LoadsAreOfWhatIsHeld =
    (plan : TopologyState) (keys : List (List ℕ)) (routes : RoutesState) (fabric : FabricState) (dump : DumpState) (talk : PortRef → PortRef → Bool)
    → IsSound plan → IsBroughtUpBy plan keys routes fabric → ShowsAll (over plan dump) routes.lids fabric
    → load_of_plan (plan_of plan) dump talk ≡ load_of_plan (plan_of (over_cables_up fabric plan)) (own_dump plan routes.lids fabric) talk

-- a dump with the rows of `own_dump` does
abbrev pub OwnRowsShowAll : Type 0
OwnRowsShowAll =
    (plan : TopologyState) (keys : List (List ℕ)) (routes : RoutesState) (fabric : FabricState) (dump : DumpState) → IsSound plan
    → IsBroughtUpBy plan keys routes fabric → HasOwnRows plan routes.lids fabric dump → ShowsAll (over plan dump) routes.lids fabric

-- ---- what `fabric tables` prints
abbrev pub printed : List Partition → TopologyState → RoutesState → FabricState → List ℕ
printed partitions plan routes fabric = tables_text plan.nodes (ports_of partitions plan) routes.graph.switches fabric

-- the text is read without an error, as a dump with the rows of `own_dump`
pub record IsReadBack (plan : TopologyState) (lids : List ℕ) (fabric : FabricState) (text : List ℕ) : Type 0 where
  pub dump : DumpState
  pub read : dump_of text ≡ Ok dump
  pub rows : HasOwnRows plan lids fabric dump

-- while the fabric stands, whichever links are down, and whatever its multicast tables are
abbrev pub TablesAreReadBack : Type 0
TablesAreReadBack =
    (partitions : List Partition) (plan : TopologyState) (keys : List (List ℕ)) (routes : RoutesState) (fabric : FabricState) → IsSound plan
    → IsStanding plan keys routes fabric → IsReadBack plan routes.lids fabric (printed partitions plan routes fabric)

-- so `load TOPO2 --dump DUMP` of that text prints what `load TOPO PARTS SCRIPT --all` prints, if TOPO2 is the topology without the
-- links that are down
abbrev pub TheFormsAgree : Type 0
TheFormsAgree =
    (partitions : List Partition) (plan : TopologyState) (keys : List (List ℕ)) (routes : RoutesState) (fabric : FabricState) (dump : DumpState) → IsSound plan
    → IsStanding plan keys routes fabric → dump_of (printed partitions plan routes fabric) ≡ Ok dump
    → load_text (over_cables_up fabric plan) dump ≡ own_load_text plan (ports_of partitions plan) routes.lids fabric true

-- that is the topology itself while all links are up
abbrev pub NoLinkIsLeftOut : Type 0
NoLinkIsLeftOut =
    (plan : TopologyState) (fabric : FabricState) → fabric.cables ≡ plan.cables → over_cables_up fabric plan ≡ plan
