-- What is so of all fabrics and dumps: the statements of the laws of `src/laws.rt`.
use Rattle.std.specs.Prelude.{ℕ, ◌≡◌, Bool, true, List, [], ◌∷◌, Option, Some, None}
use Rattle.topo_file.specs.Node.{is_switch_at}
use Rattle.topo_file.specs.Rounds.{is_marked}
use Rattle.audit_net.specs.declared.following.Turn.{Turn}
use Rattle.audit_net.specs.declared.following.Turn.TheVariants as turns
use Rattle.audit_plan.specs.Attached.{carries_host}
use Rattle.audit_net.specs.Following.{end_from, end_within, loop_from, turn}
use Rattle.audit_net.specs.Hosts.{hosts_marks}
use Rattle.audit_net.specs.Net.{NetState}
use Rattle.audit_plan.specs.Plan.{is_on}
use Rattle.audit_net.specs.Ways.{way}

-- ---- following entries
-- the switch here sends the LID to the switch there
abbrev pub GoesTo : NetState → (lid place next : ℕ) → Type 0
GoesTo net lid place next = turn net lid place ≡ turns.Goes next

-- the entry is unknown
abbrev pub IsUnknownAt : NetState → (lid place : ℕ) → Type 0
IsUnknownAt net lid place = turn net lid place ≡ turns.Unknown

-- what goes from this switch never ends, whatever number of switches it is followed through
abbrev pub NeverEnds : NetState → ℕ → ℕ → Type 0
NeverEnds net lid place = (count : ℕ) → end_within net lid count place ≡ None

-- if this gives no end there is none
abbrev pub ReportsEndless : (NetState → ℕ → ℕ → Option Turn) → Type 0
ReportsEndless end = (net : NetState) (lid place : ℕ) → is_switch_at net.plan.nodes place ≡ true → end net lid place ≡ None → NeverEnds net lid place

abbrev pub LoopsNeverEnd : Type 0
LoopsNeverEnd = ReportsEndless end_from

-- a way: the switches that it goes on at, one behind the other, and the turn at the last of them, which does not go on
abbrev pub IsWay : NetState → ℕ → ℕ → List ℕ → Turn → Type 0
IsWay net lid place [] turned = (turn net lid place ≡ turned) × ((next : ℕ) → turned ≡ turns.Goes next → ⊥)
IsWay net lid place (next ∷ rest) turned = (turn net lid place ≡ turns.Goes next) × IsWay net lid next rest turned

abbrev pub EndsBy : NetState → ℕ → ℕ → Turn → Type 0
EndsBy net lid place turned = (way : List ℕ) × IsWay net lid place way turned

-- an end is reported if and only if a way along the entries comes to it
pub record WaysAreFollowed : Type 0 where
  pub reported : (net : NetState) (lid place : ℕ) (turned : Turn) → is_switch_at net.plan.nodes place ≡ true → EndsBy net lid place turned
      → end_from net lid place ≡ Some turned
  pub there : (net : NetState) (lid place : ℕ) (turned : Turn) → end_from net lid place ≡ Some turned → EndsBy net lid place turned

-- each of these switches sends the LID on to the next, and the last to the first
abbrev pub GoRound : NetState → ℕ → ℕ → List ℕ → Type 0
GoRound net lid first [] = ⊥
GoRound net lid first (place ∷ []) = turn net lid place ≡ turns.Goes first
GoRound net lid first (place ∷ next ∷ rest) = (turn net lid place ≡ turns.Goes next) × GoRound net lid first (next ∷ rest)

-- what is reported is a loop, and begins where it is reported
abbrev pub ReportsLoops : (NetState → ℕ → ℕ → Option (List ℕ)) → Type 0
ReportsLoops reports =
    (net : NetState) (lid home : ℕ) (ring : List ℕ) → reports net lid home ≡ Some ring
    → (rest : List ℕ) × (ring ≡ home ∷ rest) × GoRound net lid home (home ∷ rest)

abbrev pub ReportedLoopsGoRound : Type 0
ReportedLoopsGoRound = ReportsLoops loop_from

-- a packet comes there, over these switches
abbrev pub ComesBy : NetState → ℕ → ℕ → List ℕ → ℕ → Type 0
ComesBy net lid place [] there = place ≡ there
ComesBy net lid place (next ∷ rest) there = (turn net lid place ≡ turns.Goes next) × ComesBy net lid next rest there

-- ---- the switches of a way
-- packets come there over these switches, however many, if and only if the switch is on the way
pub record FollowsWays (ways : NetState → (lid place : ℕ) → List ℕ) : Type 0 where
  pub comes : (net : NetState) (lid place there : ℕ) (over : List ℕ) → is_switch_at net.plan.nodes place ≡ true → ComesBy net lid place over there
      → is_on there (ways net lid place) ≡ true
  pub there : (net : NetState) (lid place there : ℕ) → is_on there (ways net lid place) ≡ true → (over : List ℕ) × ComesBy net lid place over there

abbrev pub WaysAreWhole : Type 0
WaysAreWhole = FollowsWays way

-- ---- the switches that packets of hosts come to
-- packets come there from this switch, over however many, and a host is attached to it
pub record HostsCome (net : NetState) (lid there : ℕ) : Type 0 where
  pub from : ℕ
  pub switch : is_switch_at net.plan.nodes from ≡ true
  pub carries : carries_host net.plan from ≡ true
  pub over : List ℕ
  pub comes : ComesBy net lid from over there

-- all these are marked, and no others
pub record MarksWhereHostsCome (marks : NetState → (lid : ℕ) → List Bool) : Type 0 where
  pub comes : (net : NetState) (lid there : ℕ) → HostsCome net lid there → is_marked (marks net lid) there ≡ true
  pub there : (net : NetState) (lid there : ℕ) → is_marked (marks net lid) there ≡ true → HostsCome net lid there

abbrev pub HostsAreFollowed : Type 0
HostsAreFollowed = MarksWhereHostsCome hosts_marks
