-- What is so of all fabrics and dumps: the statements of the laws of `src/laws.rt`.
use Rattle.std.specs.Prelude.{ℕ, ◌≡◌, ◌≤◌, ◌↔◌, Bool, true, false, ◌&&◌, List, [], ◌∷◌, Option, Some, None}
use Rattle.std.specs.List.{list_all, list_any}
use Rattle.fabric_parts.specs.Cable.{far_end, is_same_port, port}
use Rattle.fabric_parts.specs.declared.cable.PortRef.{PortRef}
use Rattle.topo_file.specs.Node.{is_switch_at, ports_at}
use Rattle.audit_loops.specs.Channels.{channels, deadlock, deadlock_on, depends, depends_on}
use Rattle.audit_loops.specs.Courses.{CourseState}
use Rattle.audit_net.specs.Net.{NetState}

-- ---- channels
-- a port of a switch that has a cable to a switch
pub record IsChannel (net : NetState) (at : PortRef) : Type 0 where
  pub switch : is_switch_at net.plan.nodes at.node ≡ true
  pub low : 1 ≤ at.port
  pub high : at.port ≤ ports_at net.plan.nodes at.node
  pub there : PortRef
  pub cable : far_end net.plan.cables at ≡ Some there
  pub to_switch : is_switch_at net.plan.nodes there.node ≡ true

-- these are all channels, and no other ports
abbrev pub ReportsChannels : (NetState → List PortRef) → Type 0
ReportsChannels reports = (net : NetState) (at : PortRef) → (list_any (is_same_port at) (reports net) ≡ true) ↔ IsChannel net at

abbrev pub ChannelsAreReported : Type 0
ChannelsAreReported = ReportsChannels channels

-- ---- cycles of channels
-- each waits for the next, and the last for this one
abbrev pub wait_round : (PortRef → PortRef → Bool) → PortRef → List PortRef → Bool
wait_round waits first [] = false
wait_round waits first (a ∷ []) = waits a first
wait_round waits first (a ∷ b ∷ rest) = waits a b && wait_round waits first (b ∷ rest)

abbrev pub is_cycle : (PortRef → PortRef → Bool) → List PortRef → Bool
is_cycle waits [] = false
is_cycle waits (a ∷ rest) = wait_round waits a (a ∷ rest)

abbrev pub are_channels : NetState → List PortRef → Bool
are_channels net ring = list_all (λ at. list_any (is_same_port at) (channels net)) ring

-- along LIDs that count at all switches, or along those that count at some
abbrev pub Waiting : Type 0 → Type 0
Waiting Along = NetState → Along → PortRef → PortRef → Bool

abbrev pub Reports : Type 0 → Type 0
Reports Along = NetState → Along → Option (List PortRef)

-- what is reported is a cycle, of channels that wait for one another
abbrev pub ReportsCycles : (Along : Type 0) → Waiting Along → Reports Along → Type 0
ReportsCycles Along waits reports =
    (net : NetState) (along : Along) (ring : List PortRef) → reports net along ≡ Some ring
    → (are_channels net ring ≡ true) × (is_cycle (waits net along) ring ≡ true)

abbrev pub ReportedLoopsWait : Type 0
ReportedLoopsWait = ReportsCycles (List ℕ) depends deadlock

abbrev pub ReportedLoopsWaitOnCourses : Type 0
ReportedLoopsWaitOnCourses = ReportsCycles (List CourseState) depends_on deadlock_on

-- if none is reported no channels wait for one another in a cycle, however long
abbrev pub MissesNone : (Along : Type 0) → Waiting Along → Reports Along → Type 0
MissesNone Along waits reports =
    (net : NetState) (along : Along) → reports net along ≡ None → (ring : List PortRef) → are_channels net ring ≡ true
    → is_cycle (waits net along) ring ≡ false

abbrev pub NoCycleIsMissed : Type 0
NoCycleIsMissed = MissesNone (List ℕ) depends deadlock

abbrev pub NoCycleIsMissedOnCourses : Type 0
NoCycleIsMissedOnCourses = MissesNone (List CourseState) depends_on deadlock_on
