-- What the audit says of tables that our own bring-up writes: the statements of the laws of `src/route_laws.rt`.
use Rattle.std.specs.Prelude.{ℕ, ◌≡◌, ◌<◌, Bool, true, false, List, None, Some}
use Rattle.dump_file.specs.Dump.{DumpState}
use Rattle.dump_file.specs.Sound.{IsSound as IsSoundDump}
use Rattle.fabric_parts.specs.Cable.{is_cabled, port}
use Rattle.fabric_parts.specs.declared.cable.PortRef.{PortRef}
use Rattle.audit_routes.specs.Audit.{audit_of}
use Rattle.audit_loops.specs.Channels.{deadlock, leaves_by}
use Rattle.audit_routes.specs.Laws.{CarriesAHost}
use Rattle.audit_net.specs.OwnerLaws.{end_port_of}
use Rattle.audit_net.specs.Net.{NetState}
use Rattle.audit_routes.specs.Pairs.{all_reached, pair_to}
use Rattle.audit_plan.specs.Plan.{plan_of}
use Rattle.smp_wire.specs.FabricState.{FabricState}
use Rattle.subnet_fabric.specs.BringUp.{IsBroughtUpBy}
use Rattle.subnet_fabric.specs.Recabled.{with_cables}
use Rattle.subnet_fabric.specs.Standing.{IsStanding}
use Rattle.topo_file.specs.Node.{is_switch_at}
use Rattle.topo_file.specs.Sound.{IsSound}
use Rattle.topo_file.specs.Topology.{TopologyState}
use Rattle.updn_routes.specs.Subnet.{RoutesState}
use Rattle.joint_laws.specs.OwnTables.{dump_of}
use Rattle.joint_laws.specs.Shown.{Shows}

abbrev pub over : TopologyState → DumpState → NetState
over plan dump = record { plan = plan_of plan; dump = dump }

-- ---- there is a dump of what each fabric holds that is brought up
abbrev pub ADumpShowsWhatIsHeld : Type 0
ADumpShowsWhatIsHeld =
    (plan : TopologyState) (keys : List (List ℕ)) (routes : RoutesState) (fabric : FabricState) → IsSound plan → IsBroughtUpBy plan keys routes fabric
    → Shows (over plan (dump_of plan routes.lids fabric)) routes.lids fabric

-- which agrees with itself, as every dump does that was read: no switch has two tables, LIDs rise in each up to its top, and each
-- LID has one end port
abbrev pub ItIsSound : Type 0
ItIsSound =
    (plan : TopologyState) (keys : List (List ℕ)) (routes : RoutesState) (fabric : FabricState) → IsSound plan → IsBroughtUpBy plan keys routes fabric
    → IsSoundDump (dump_of plan routes.lids fabric)

-- by which each adapter port that has a cable has a LID
abbrev pub ItNamesEachPort : Type 0
ItNamesEachPort =
    (plan : TopologyState) (keys : List (List ℕ)) (routes : RoutesState) (fabric : FabricState) (end : PortRef) → IsSound plan
    → IsBroughtUpBy plan keys routes fabric → is_switch_at plan.nodes end.node ≡ false → is_cabled plan.cables end ≡ true
    → (lid : ℕ) × (lid < 65536) × (end_port_of (over plan (dump_of plan routes.lids fabric)) lid ≡ Some end)

-- ---- what the audit finds
-- an adapter is attached to some switch, as the subnet manager's
abbrev pub SomeSwitchCarriesAHost : Type 0
SomeSwitchCarriesAHost = (plan : TopologyState) (dump : DumpState) → IsSound plan → (place : ℕ) × CarriesAHost (over plan dump) place

-- what goes from the switch there to the LID comes to this port
abbrev pub comes_to : NetState → ℕ → ℕ → PortRef → Bool
comes_to net place lid end = all_reached (pair_to net place lid (Some end))

pub record PassesTheAudit (net : NetState) : Type 0 where
  -- from each switch that carries an adapter packets come to each adapter port that has a LID
  pub reached : (place lid : ℕ) (end : PortRef) → CarriesAHost net place → end_port_of net lid ≡ Some end
      → is_switch_at net.plan.nodes end.node ≡ false → comes_to net place lid end ≡ true
  -- and from each switch that has an entry for a LID they come to its port: to no other, not round a loop, and not into nothing
  pub led : (place lid number : ℕ) (end : PortRef) → is_switch_at net.plan.nodes place ≡ true → end_port_of net lid ≡ Some end
      → leaves_by net (port place number) lid ≡ true → comes_to net place lid end ≡ true
  -- along whichever LIDs, no channels wait for one another in a cycle
  pub free : (lids : List ℕ) → deadlock net lids ≡ None

-- whatever dump shows what the switches hold of a fabric that is brought up, it passes
abbrev pub OwnRoutesPass : Type 0
OwnRoutesPass =
    (plan : TopologyState) (keys : List (List ℕ)) (routes : RoutesState) (fabric : FabricState) (dump : DumpState) → IsSound plan
    → IsBroughtUpBy plan keys routes fabric → Shows (over plan dump) routes.lids fabric → PassesTheAudit (over plan dump)

-- ---- what the audit says
-- of the dump of what the switches hold it says that routes are safe
abbrev pub OwnRoutesAreSafe : Type 0
OwnRoutesAreSafe =
    (plan : TopologyState) (keys : List (List ℕ)) (routes : RoutesState) (fabric : FabricState) → IsSound plan → IsBroughtUpBy plan keys routes fabric
    → (audit_of false (over plan (dump_of plan routes.lids fabric))).is_safe ≡ true

-- also while cables between switches are down, over the topology with those that are up
abbrev pub RoutesAreSafeWithCablesDown : Type 0
RoutesAreSafeWithCablesDown =
    (plan : TopologyState) (keys : List (List ℕ)) (routes : RoutesState) (fabric : FabricState) → IsSound plan → IsStanding plan keys routes fabric
    → (audit_of false (over (with_cables fabric.cables plan) (dump_of plan routes.lids fabric))).is_safe ≡ true
