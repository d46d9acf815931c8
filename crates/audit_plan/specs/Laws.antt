-- What is so of all discoveries, and of all plans: the statements of the laws of `src/laws.rt`.
use Rattle.std.specs.Prelude.{ℕ, ◌+◌, ◌<◌, ◌≤◌, ◌≡◌, ◌==◌, Bool, true, false, ◌&&◌, ◌||◌, List, [], ◌∷◌, ◌++◌, length, Option, Some, unwrap_or}
use Rattle.std.specs.List.{list_all, list_any}
use Rattle.std.specs.Option.{option_map_or}
use Rattle.fabric_parts.specs.Cable.{far_end, is_same_port, port}
use Rattle.fabric_parts.specs.declared.cable.Cable.{Cable}
use Rattle.fabric_parts.specs.declared.cable.PortRef.{PortRef}
use Rattle.netdiscover_file.specs.declared.node.Node.{Node as FoundNode}
use Rattle.netdiscover_file.specs.declared.port.PortLine.{PortLine}
use Rattle.netdiscover_file.specs.Agreement.{is_one_cable}
use Rattle.netdiscover_file.specs.Discovery.{DiscoveryState}
use Rattle.netdiscover_file.specs.Kind.{is_switch as is_switch_kind}
use Rattle.netdiscover_file.specs.Sound.{IsSound}
use Rattle.topo_file.specs.Node.{is_switch_at, ports_at}
use Rattle.audit_plan.specs.declared.ends.LidGuid.{LidGuid}
use Rattle.audit_plan.specs.declared.levels.TheConstants.{LEVELS}
use Rattle.audit_plan.specs.Attached.{carries_host}
use Rattle.audit_plan.specs.Levels.{level_of}
use Rattle.audit_plan.specs.Plan.{PlanState, found_lids, is_on, is_unicast, joins_switch, plan_found}
use Rattle.audit_plan.specs.Tops.{top_switches}

-- ---- the cables of a discovery
-- the cable joins these two ports
abbrev pub joins : PortRef → PortRef → Cable → Bool
joins a b cable = (is_same_port cable.first a && is_same_port cable.second b) || (is_same_port cable.first b && is_same_port cable.second a)

-- a line of the one port and a line of the other name one another
abbrev pub has_far_line : DiscoveryState → PortLine → PortRef → Bool
has_far_line found line b = list_any (λ other. is_same_port other.port b && is_one_cable found.nodes line other) found.ports

abbrev pub are_joined : DiscoveryState → PortRef → PortRef → Bool
are_joined found a b = list_any (λ line. is_same_port line.port a && has_far_line found line b) found.ports

-- two ports have a cable if and only if lines say so, and the list of cables between end ports has those that join no switch
pub record TakesTheCables (plan : DiscoveryState → PlanState) : Type 0 where
  pub joined : (found : DiscoveryState) (a b : PortRef) → IsSound found
      → list_any (joins a b) ((plan found).cables ++ (plan found).apart) ≡ are_joined found a b
  pub at_switches : (found : DiscoveryState) → list_all (joins_switch found.nodes) (plan found).cables ≡ true
  pub apart : (found : DiscoveryState) → list_any (joins_switch found.nodes) (plan found).apart ≡ false

abbrev pub CablesAreTaken : Type 0
CablesAreTaken = TakesTheCables plan_found

-- ---- the LIDs of a discovery
abbrev pub is_of_port : ℕ → ℕ → LidGuid → Bool
is_of_port lid guid reported = (reported.lid == lid) && (reported.guid == guid)

-- the header of a switch, or the line of another port, reports this LID of the port of this GUID
abbrev pub is_this : ℕ → Option ℕ → Bool
is_this n o = option_map_or (λ m. m == n) o false

abbrev pub is_switchs_header : (lid guid : ℕ) → FoundNode → Bool
is_switchs_header lid guid node = is_switch_kind node.id.kind && (is_this lid node.lid && (unwrap_or node.port_guid node.id.guid == guid))

abbrev pub is_ports_line : (lid guid : ℕ) → PortLine → Bool
is_ports_line lid guid line = is_this lid line.lid && is_this guid line.guid

abbrev pub is_reported : DiscoveryState → (lid guid : ℕ) → Bool
is_reported found lid guid = list_any (is_switchs_header lid guid) found.nodes || list_any (is_ports_line lid guid) found.ports

-- all those that are unicast LIDs are taken, and no others
abbrev pub TakesTheLids : (DiscoveryState → List LidGuid) → Type 0
TakesTheLids takes = (found : DiscoveryState) (lid guid : ℕ) → list_any (is_of_port lid guid) (takes found) ≡ (is_unicast lid && is_reported found lid guid)

abbrev pub LidsAreTaken : Type 0
LidsAreTaken = TakesTheLids found_lids

-- ---- levels
-- out of the ports behind these numbers, one after the other, links lead from switch to switch to one that carries a host
abbrev pub LeadsToHost : PlanState → ℕ → List ℕ → Type 0
LeadsToHost plan place [] = carries_host plan place ≡ true
LeadsToHost plan place (before ∷ rest) =
    (there : PortRef) × (before < ports_at plan.nodes place) × (far_end plan.cables (port place (before + 1)) ≡ Some there)
    × (is_switch_at plan.nodes there.node ≡ true) × LeadsToHost plan there.node rest

-- the level is the length of the shortest such way, if that is below `LEVELS`
pub record MeasuresLevels (level : PlanState → ℕ → ℕ) : Type 0 where
  pub least : (plan : PlanState) (place : ℕ) (over : List ℕ) → LeadsToHost plan place over → length over < LEVELS → level plan place ≤ length over
  pub there : (plan : PlanState) (place : ℕ) → level plan place < LEVELS → (over : List ℕ) × (length over ≡ level plan place) × LeadsToHost plan place over

abbrev pub LevelsAreDistances : Type 0
LevelsAreDistances = MeasuresLevels level_of

-- ---- the top level
-- no host is attached to this switch, it has a level, and no switch that has one is farther from hosts
pub record IsFarthest (plan : PlanState) (place : ℕ) : Type 0 where
  pub switch : is_switch_at plan.nodes place ≡ true
  pub hostless : carries_host plan place ≡ false
  pub has_level : level_of plan place < LEVELS
  pub farthest : (other : ℕ) → is_switch_at plan.nodes other ≡ true → level_of plan other < LEVELS → level_of plan other ≤ level_of plan place

-- these are all such switches, and no others
pub record FindsFarthest (tops : PlanState → List ℕ) : Type 0 where
  pub only : (plan : PlanState) (place : ℕ) → is_on place (tops plan) ≡ true → IsFarthest plan place
  pub all : (plan : PlanState) (place : ℕ) → IsFarthest plan place → is_on place (tops plan) ≡ true

abbrev pub TopsAreFarthest : Type 0
TopsAreFarthest = FindsFarthest top_switches
