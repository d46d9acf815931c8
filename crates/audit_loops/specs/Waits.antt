-- How dependencies are found: of each switch, by one pass over the entries of all LIDs, the pairs of a port and of the next
-- one. No definition of the subject stands on these.
use Rattle.std.specs.Prelude.{ℕ, ◌≡◌, ◌+◌, ◌*◌, ◌<◌, ◌==◌, ◌&&◌, Bool, false, List, [], ◌∷◌, map, filter, length, get_or, if◌then◌else◌, Option, Some, None}
use Rattle.std.specs.List.{enumerate_from, list_any, range_with_len}
use Rattle.fabric_parts.specs.Cable.{far_end, port}
use Rattle.fabric_parts.specs.declared.cable.PortRef.{PortRef}
use Rattle.topo_file.specs.Node.{is_switch_at}
use Rattle.topo_file.specs.Rounds.{is_marked}
use Rattle.audit_net.specs.declared.entry.Entry.{Entry}
use Rattle.audit_net.specs.declared.entry.Entry.TheVariants.{Out, Missing, Unreported}
use Rattle.audit_loops.specs.Channels.{depends_on, is_channel}
use Rattle.audit_loops.specs.Courses.{CourseState, counts}
use Rattle.audit_net.specs.Net.{NetState, entry}

-- the port behind this number, if it is a channel
abbrev pub channel_behind : NetState → ℕ → ℕ → List PortRef
channel_behind net place number = if is_channel net (port place (number + 1)) then port place (number + 1) ∷ [] else []

-- ---- the port by which a switch forwards a LID, and that by which the switch behind it does
abbrev pub then_out : ℕ → Entry → Option (ℕ × ℕ)
then_out number (Out next) = Some (number, next)
then_out number Missing = None
then_out number Unreported = None

abbrev pub then_by : NetState → ℕ → ℕ → Option PortRef → Option (ℕ × ℕ)
then_by net lid number (Some there) = then_out number (entry net lid there.node)
then_by net lid number None = None

abbrev pub two_by : NetState → ℕ → ℕ → Entry → Option (ℕ × ℕ)
two_by net place lid (Out number) = then_by net lid number (far_end net.plan.cables (port place number))
two_by net place lid Missing = None
two_by net place lid Unreported = None

abbrev pub two_ports : NetState → ℕ → ℕ → Option (ℕ × ℕ)
two_ports net place lid = two_by net place lid (entry net lid place)

abbrev pub are_ports : ℕ → ℕ → Option (ℕ × ℕ) → Bool
are_ports number next (Some p) = (p.0 == number) && (p.1 == next)
are_ports number next None = false

-- a mark for each two ports that some LID takes one after the other
abbrev pub is_taken : List Bool → ℕ → ℕ → Bool
is_taken marks number next = is_marked marks (number * 256 + next)

abbrev pub takes : NetState → (place number next : ℕ) → CourseState → Bool
takes net place number next course = counts course place && are_ports number next (two_ports net place course.lid)

abbrev pub some_take : NetState → List CourseState → ℕ → ℕ → ℕ → Bool
some_take net courses place number next = list_any (takes net place number next) courses

abbrev pub KnowsTaken : NetState → List CourseState → ℕ → List Bool → Type 0
KnowsTaken net courses place marks = (number next : ℕ) → number < 256 → next < 256 → is_taken marks number next ≡ some_take net courses place number next

-- ---- the channels of a node, each with its place among all
abbrev pub numbered_at : List PortRef → ℕ → List (ℕ × PortRef)
numbered_at all place = filter (λ p. p.1.node == place) (enumerate_from 0 all)

abbrev pub group_at : NetState → List PortRef → ℕ → List (ℕ × PortRef)
group_at net all place = if is_switch_at net.plan.nodes place then numbered_at all place else []

abbrev pub all_groups : NetState → List PortRef → List (List (ℕ × PortRef))
all_groups net all = map (group_at net all) (range_with_len 0 (length net.plan.nodes))

abbrev pub group_of : List (List (ℕ × PortRef)) → ℕ → List (ℕ × PortRef)
group_of all place = get_or all place []

-- the place of the second, if the first depends on it
abbrev pub next_if : NetState → List CourseState → PortRef → ℕ × PortRef → List ℕ
next_if net courses a p = if depends_on net courses a p.1 then p.0 ∷ [] else []

-- the switch behind a channel
abbrev pub if_switch : NetState → Option PortRef → Option PortRef
if_switch net (Some there) = if is_switch_at net.plan.nodes there.node then Some there else None
if_switch net None = None
