-- Wrong rules for channels and their cycles, and the law that each breaks.
use Rattle.std.specs.Prelude.{ℕ, nat_lt, List, [], ◌∷◌, filter, length, map, if◌then◌else◌, Option, Some, None}
use Rattle.fabric_parts.specs.Cable.{port}
use Rattle.fabric_parts.specs.declared.cable.PortRef.{PortRef}
use Rattle.audit_loops.specs.Channels.{channels, deadlock, deadlock_on, depends, depends_on}
use Rattle.audit_loops.specs.Courses.{CourseState, everywhere}
use Rattle.audit_loops.specs.Laws.{MissesNone, ReportsChannels, ReportsCycles}
use Rattle.audit_net.specs.Net.{NetState}

-- ---- the first port of a switch is no channel
abbrev pub behind_the_first : NetState → List PortRef
behind_the_first net = filter (λ at. nat_lt 1 at.port) (channels net)

abbrev pub FirstPortsAreChannels : Type 0
FirstPortsAreChannels = ReportsChannels behind_the_first → ⊥

-- ---- dependencies along another LID count too
abbrev pub along_another : NetState → List ℕ → Option (List PortRef)
along_another net lids = deadlock net (1 ∷ lids)

abbrev pub OtherLidsDoNotCount : Type 0
OtherLidsDoNotCount = ReportsCycles (List ℕ) depends along_another → ⊥

-- ---- a cycle has more than two channels
abbrev pub longer : Option (List PortRef) → Option (List PortRef)
longer (Some ring) = if nat_lt 2 (length ring) then Some ring else None
longer None = None

abbrev pub of_three : NetState → List ℕ → Option (List PortRef)
of_three net lids = longer (deadlock net lids)

abbrev pub TwoMakeACycle : Type 0
TwoMakeACycle = MissesNone (List ℕ) depends of_three → ⊥

-- ---- the last channel of a cycle need not wait for the first: it is left out
abbrev pub without_last : List PortRef → List PortRef
without_last [] = []
without_last (a ∷ []) = []
without_last (a ∷ b ∷ rest) = a ∷ without_last (b ∷ rest)

abbrev pub cut_short : Option (List PortRef) → Option (List PortRef)
cut_short (Some ring) = Some (without_last ring)
cut_short None = None

abbrev pub not_round : NetState → List ℕ → Option (List PortRef)
not_round net lids = cut_short (deadlock net lids)

abbrev pub TheLastWaitsForTheFirst : Type 0
TheLastWaitsForTheFirst = ReportsCycles (List ℕ) depends not_round → ⊥

-- ---- LIDs count at no switch, if they do not count at all
abbrev pub nowhere : CourseState → CourseState
nowhere course = record course { marks = Some [] }

abbrev pub along_none : NetState → List CourseState → Option (List PortRef)
along_none net courses = deadlock_on net (map nowhere courses)

abbrev pub MarkedEntriesCount : Type 0
MarkedEntriesCount = MissesNone (List CourseState) depends_on along_none → ⊥

-- ---- and at all, though they count at some
abbrev pub unmarked : CourseState → CourseState
unmarked course = everywhere course.lid

abbrev pub along_all : NetState → List CourseState → Option (List PortRef)
along_all net courses = deadlock_on net (map unmarked courses)

abbrev pub OtherEntriesDoNotCount : Type 0
OtherEntriesDoNotCount = ReportsCycles (List CourseState) depends_on along_all → ⊥
